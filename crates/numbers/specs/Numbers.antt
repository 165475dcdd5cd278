-- Specification, clauses 4.7 to 4.9: numbers, and the forms of codes 17, 20 and 26.
use Rattle.std.specs.Prelude.{ℕ, ◌+◌, Bool, true, length, get_or, take, drop, ltb, leb, eqb}
use Prim.Native.Char.{code}
use Rattle.octets.specs.Bytes.{Bytes}
use Rattle.octets.specs.Choice.{choose, both}
use Rattle.octets.specs.Search.{first}
use Rattle.values.specs.Run.{run_of}
use Rattle.values.specs.declared.run.Class.TheVariants.{Digit}

-- codes 17 and 26: digits in all and after the point
abbrev pub price_digits : ℕ
price_digits = 18

abbrev pub price_decimals : ℕ
price_decimals = 13

-- code 20: Num(25,5)
abbrev pub notional_digits : ℕ
notional_digits = 25

abbrev pub notional_decimals : ℕ
notional_decimals = 5

-- the place of the first point, or the length where there is none
unfoldable pub point_in : Bytes → ℕ
point_in v = first (λ k. eqb (get_or v k 0) (code ".")) (length v)

abbrev pub has_point : Bytes → Bool
has_point v = ltb (point_in v) (length v)

-- what stands before the point, and after it
unfoldable pub whole_of : Bytes → Bytes
whole_of v = take (point_in v) v

unfoldable pub decimals_of : Bytes → Bytes
decimals_of v = drop (point_in v + 1) v

-- Num(a,b): one or more digits, then perhaps a point and one or more digits; at most a digits in all and b after the point. Leading zeros count
unfoldable pub is_number : ℕ → ℕ → Bytes → Bool
is_number a b v =
    both (run_of 1 a Digit (whole_of v))
    (choose (has_point v) (both (run_of 1 b Digit (decimals_of v)) (leb (length (whole_of v) + length (decimals_of v)) a)) true)

-- codes 17 and 26 may open with a minus
abbrev pub has_minus : Bytes → Bool
has_minus v = eqb (get_or v 0 0) (code "-")

unfoldable pub unsigned_of : Bytes → Bytes
unsigned_of v = choose (has_minus v) (drop 1 v) v

-- codes 17 and 26: at most 18 digits, 13 after the point
unfoldable pub is_price : Bytes → Bool
is_price v = is_number price_digits price_decimals (unsigned_of v)

-- code 20: Num(25,5), no minus
abbrev pub is_notional : Bytes → Bool
is_notional v = is_number notional_digits notional_decimals v
