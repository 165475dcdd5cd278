-- Specification, section 4: values that are a number of characters of one class.
use Rattle.std.specs.Prelude.{ℕ, Bool, length, get_or, leb}
use Prim.Native.Char.{Char, code}
use Rattle.octets.specs.Bytes.{Bytes}
use Rattle.octets.specs.Choice.{both, either}
use Rattle.octets.specs.Search.{all}
use Rattle.values.specs.Limits.{uti_least, uti_most, event_size, package_most}
use Rattle.values.specs.declared.run.Class.{Class}
use Rattle.values.specs.declared.run.Class.TheVariants.{Digit, Capital, CapitalOrDigit, LetterOrDigit}

abbrev pub within : ℕ → ℕ → ℕ → Bool
within lo hi n = both (leb lo n) (leb n hi)

-- a byte is one of the characters from lo to hi
abbrev pub between : Char → Char → ℕ → Bool
between lo hi b = within (code lo) (code hi) b

abbrev pub in_class : Class → ℕ → Bool
in_class Digit b = between "0" "9" b
in_class Capital b = between "A" "Z" b
in_class CapitalOrDigit b = either (between "A" "Z" b) (between "0" "9" b)
in_class LetterOrDigit b = either (between "a" "z" b) (either (between "A" "Z" b) (between "0" "9" b))

-- each byte is of the class
abbrev pub each_of : Class → Bytes → Bool
each_of class v = all (λ k. in_class class (get_or v k 0)) (length v)

-- at least `least` and at most `most` bytes, each of the class
unfoldable pub run_of : ℕ → ℕ → Class → Bytes → Bool
run_of least most class v = both (leb least (length v)) (both (leb (length v) most) (each_of class v))

-- code 1: 21 to 52 capitals or digits
abbrev pub is_uti : Bytes → Bool
is_uti v = run_of uti_least uti_most CapitalOrDigit v

-- code 3: 4 capitals
abbrev pub is_event : Bytes → Bool
is_event v = run_of event_size event_size Capital v

-- code 16: 1 to 100 letters or digits
abbrev pub is_package_identifier : Bytes → Bool
is_package_identifier v = run_of 1 package_most LetterOrDigit v
