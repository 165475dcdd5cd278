-- Specification, section 4: legal entity identifiers (ISO 17442).
use Rattle.std.specs.Prelude.{ℕ, ◌+◌, ◌-◌, ◌*◌, ◌%◌, Bool, [], ◌∷◌, ◌≡◌, take, drop, eqb}
use Prim.Native.Char.{code}
use Rattle.octets.specs.Bytes.{Bytes}
use Rattle.octets.specs.Choice.{choose, both}
use Rattle.values.specs.Limits.{lei_body, lei_check, lei_modulus}
use Rattle.values.specs.Run.{in_class, run_of}
use Rattle.values.specs.declared.run.Class.TheVariants.{Digit, Capital, CapitalOrDigit}

-- A to Z are read as 10 to 35, two digits; any other character is one digit
unfoldable pub weight : ℕ → ℕ
weight b = choose (in_class Capital b) 100 10

unfoldable pub number : ℕ → ℕ
number b = choose (in_class Capital b) (10 + (b - code "A")) (b - code "0")

-- a number read on by one character
unfoldable pub grow : ℕ → ℕ → ℕ
grow n b = n * weight b + number b

-- the whole number that a text spells, read on from n
unfoldable pub spell : ℕ → Bytes → ℕ
spell n [] = n
spell n (b ∷ v) = spell (grow n b) v

-- 18 capitals or digits, then two digits, and the whole number leaves 1 when divided by 97
unfoldable pub is_lei : Bytes → Bool
is_lei v =
    both (run_of lei_body lei_body CapitalOrDigit (take lei_body v))
    (both (run_of lei_check lei_check Digit (drop lei_body v)) (eqb (spell 0 v % lei_modulus) 1))

-- the remainder after one character more, and the running remainder over a text
abbrev pub next_remainder : ℕ → ℕ → ℕ
next_remainder r b = grow r b % lei_modulus

unfoldable pub running_remainder : ℕ → Bytes → ℕ
running_remainder r [] = r
running_remainder r (b ∷ v) = running_remainder (next_remainder r b) v

-- after every prefix the running remainder is that of the whole number that the prefix spells
abbrev pub PrefixRemainder : Type 0
PrefixRemainder = (v : Bytes) (k : ℕ) → running_remainder 0 (take k v) ≡ spell 0 (take k v) % lei_modulus
