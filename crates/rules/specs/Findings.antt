-- Specification, section 9: what a rule finds, the first rule broken, a rule by its number, and the lowest element at fault.
use Rattle.std.specs.Prelude.{ℕ, ◌<◌, ◌≤◌, Bool, true, false, ◌≡◌, List, [], ◌∷◌, eqb, leb}
use Rattle.octets.specs.Choice.{choose, either}
use Rattle.octets.specs.Search.{first_from}
use Rattle.elements.specs.Table.{last_code}

-- a rule is passed, or broken: then it names an element, 0 where it names none
pub data Finding : Type 0 where
  passed : Finding
  broken : ℕ → Finding

-- a rule that names no element, by its test
abbrev pub broken_if : Bool → Finding
broken_if t = choose t (broken 0) passed

-- a rule that names a code; none where the code is above the last
abbrev pub broken_at : ℕ → Finding
broken_at code = choose (leb code last_code) (broken code) passed

-- a rule that names the lowest element code at fault, by the test of a code
unfoldable pub lowest : (ℕ → Bool) → Finding
lowest at_fault = broken_at (first_from at_fault 1 last_code)

-- a rule with its number: by its test where it names no element, else by what it finds
pub data Rule : Type 0 where
  test : ℕ → Bool → Rule
  naming : ℕ → Finding → Rule

abbrev pub rule_number : Rule → ℕ
rule_number (test n t) = n
rule_number (naming n f) = n

abbrev pub rule_finding : Rule → Finding
rule_finding (test n t) = broken_if t
rule_finding (naming n f) = f

-- the verdict of a rule with number n, or that of the rules after it where it is passed
abbrev pub or_else : ℕ → Finding → ℕ × ℕ → ℕ × ℕ
or_else n passed rest = rest
or_else n (broken e) rest = (n, e)

-- verdict and element of rules in checking order: those of the first rule broken, 0 and 0 where none is
unfoldable pub first_broken : List Rule → ℕ × ℕ
first_broken [] = (0, 0)
first_broken (r ∷ rs) = or_else (rule_number r) (rule_finding r) (first_broken rs)

-- ---- a rule by its number

-- what the rule with number n finds; a number that no rule has is passed
unfoldable pub finding_of : ℕ → List Rule → Finding
finding_of n [] = passed
finding_of n (r ∷ rs) = choose (eqb (rule_number r) n) (rule_finding r) (finding_of n rs)

-- the rules from the one with number n on, and those before it
unfoldable pub from_rule : ℕ → List Rule → List Rule
from_rule n [] = []
from_rule n (r ∷ rs) = choose (eqb (rule_number r) n) (r ∷ rs) (from_rule n rs)

unfoldable pub before_rule : ℕ → List Rule → List Rule
before_rule n [] = []
before_rule n (r ∷ rs) = choose (eqb (rule_number r) n) [] (r ∷ before_rule n rs)

-- the number n is one of ks
unfoldable pub is_one_of : List ℕ → ℕ → Bool
is_one_of [] n = false
is_one_of (k ∷ ks) n = either (eqb k n) (is_one_of ks n)

-- ---- the same in words

unfoldable pub AllPassed : List Rule → Type 0
AllPassed [] = Unit {0}
AllPassed (r ∷ rs) = (rule_finding r ≡ passed) × AllPassed rs

-- the rule with number n is broken and names e, and no earlier one is broken
abbrev pub FirstBroken : List Rule → ℕ → ℕ → Type 0
FirstBroken rs n e = (finding_of n rs ≡ broken e) × AllPassed (before_rule n rs)

-- an element is at fault, and no lower one is
abbrev pub LowestAtFault : (ℕ → Bool) → ℕ → Type 0
LowestAtFault f e = (1 ≤ e) × (e ≤ last_code) × (f e ≡ true) × ((code : ℕ) → 1 ≤ code → code < e → f code ≡ false)
