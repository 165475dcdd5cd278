-- Specification, clause 10.8: the totals question.
use Rattle.std.specs.Prelude.{ℕ, not, List, [], ◌∷◌, eqb}
use Rattle.octets.specs.Bytes.{Bytes}
use Rattle.octets.specs.Choice.{choose}
use Rattle.rules.specs.Findings.{Rule, test, first_broken}
use Rattle.ledger.specs.Totals.{totals_in, in_order}
use Rattle.ledger.specs.Header.{header_right}
use Rattle.submission.specs.Verdicts.{ledger_wrong}
use Rattle.submission.specs.Opening.{Limits}

-- what the question answers: a verdict and the totals by status from live to ported; it writes nothing
pub record TotalsAnswer : Type 0 where
  pub verdict : ℕ
  pub totals : List ℕ

unfoldable pub totals_rules : Limits → Bytes → List Rule
totals_rules limits l = test ledger_wrong (not (header_right limits.largest l)) ∷ []

abbrev pub no_totals : List ℕ
no_totals = 0 ∷ 0 ∷ 0 ∷ 0 ∷ []

-- the totals as they are stored, or 3 and zeros
abbrev pub totals_beside : ℕ → Bytes → TotalsAnswer
totals_beside v l = record { verdict = v; totals = choose (eqb v 0) (in_order (totals_in l)) no_totals }

unfoldable pub asked_totals : Limits → Bytes → TotalsAnswer
asked_totals limits l = totals_beside (first_broken (totals_rules limits l)).0 l
