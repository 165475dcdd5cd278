-- Specification, clauses 8.5 and 10.4: opening a ledger.
use Rattle.std.specs.Prelude.{ℕ, not, List, [], ◌∷◌, length, eqb, ltb}
use Rattle.octets.specs.Bytes.{Bytes}
use Rattle.octets.specs.Choice.{choose}
use Rattle.octets.specs.Part.{splice}
use Rattle.rules.specs.Findings.{Rule, test, first_broken}
use Rattle.ledger.specs.declared.header.Caps.{Caps}
use Rattle.ledger.specs.Layout.{shortest_ledger}
use Rattle.ledger.specs.Header.{are_caps, capacity_for, new_header}
use Rattle.submission.specs.Verdicts.{ledger_short, cap_wrong}

-- the longest message in bytes, and the largest capacity in rows
pub record Limits : Type 0 where
  pub longest : ℕ
  pub largest : ℕ

-- those of the specification
abbrev pub document_limits : Limits
document_limits = record { longest = 2_048; largest = 100_000 }

-- what opening answers and leaves
pub record Opened : Type 0 where
  pub verdict : ℕ
  pub ledger : Bytes

unfoldable pub opening_rules : Caps → Bytes → List Rule
opening_rules caps l =
    test ledger_short (ltb (length l) shortest_ledger)
    ∷ test cap_wrong (not (are_caps caps))
    ∷ []

unfoldable pub opening_verdict : Caps → Bytes → ℕ
opening_verdict caps l = (first_broken (opening_rules caps l)).0

-- opening writes the header and no other byte; a refusal writes nothing
unfoldable pub opened : Limits → Caps → Bytes → Opened
opened limits caps l =
    record {
      verdict = opening_verdict caps l;
      ledger = choose (eqb (opening_verdict caps l) 0) (splice l 0 (new_header caps (capacity_for limits.largest (length l)))) l;
    }
