-- Specification, clause 10.6: the status question.
use Rattle.std.specs.Prelude.{ℕ, not, List, [], ◌∷◌, eqb}
use Rattle.octets.specs.Bytes.{Bytes}
use Rattle.octets.specs.Choice.{choose}
use Rattle.elements.specs.Codes.{uti}
use Rattle.elements.specs.Forms.{has_form}
use Rattle.rules.specs.Verdicts.{form_broken}
use Rattle.rules.specs.Findings.{passed, broken, Rule, test, naming, first_broken}
use Rattle.ledger.specs.Header.{header_right, header_of}
use Rattle.ledger.specs.Rows.{swap_status, swap_identifier, swap_in}
use Rattle.submission.specs.Verdicts.{ledger_wrong, row_wrong}
use Rattle.submission.specs.Opening.{Limits}
use Rattle.submission.specs.Submission.{has_wrong_row}

-- what the question answers; it writes nothing
pub record Asked : Type 0 where
  pub verdict : ℕ
  pub element : ℕ
  pub status : ℕ
  pub identifier : ℕ

-- 3, then 9 with element 1, then 14
unfoldable pub status_rules : Limits → Bytes → Bytes → List Rule
status_rules limits l u =
    test ledger_wrong (not (header_right limits.largest l))
    ∷ naming form_broken (choose (has_form uti u) passed (broken uti))
    ∷ test row_wrong (has_wrong_row (header_of l) (swap_in l u))
    ∷ []

-- beside a refusal, status and identifier are 0; else the status, 0 for an unknown swap, and the last identifier, 0 if unknown
abbrev pub answered : ℕ × ℕ → Bytes → Bytes → Asked
answered v l u =
    record {
      verdict = v.0;
      element = v.1;
      status = choose (eqb v.0 0) (swap_status l u) 0;
      identifier = choose (eqb v.0 0) (swap_identifier l u) 0;
    }

unfoldable pub asked : Limits → Bytes → Bytes → Asked
asked limits l u = answered (first_broken (status_rules limits l u)) l u
