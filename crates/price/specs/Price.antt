-- Specification, clause 7.4: the price, code 17, or the spread, code 26, as a line shows it.
use Rattle.std.specs.Prelude.{ℕ, Bool, not, [], ◌∷◌, ◌++◌, reverse, length, eqb}
use Prim.Native.Char.{code}
use Rattle.octets.specs.Bytes.{Bytes}
use Rattle.octets.specs.Choice.{choose, both}
use Rattle.octets.specs.Text.{text}
use Rattle.octets.specs.Same.{same_bytes}
use Rattle.numbers.specs.Numbers.{whole_of, decimals_of, has_minus, unsigned_of}

-- the length of the price in a line, left aligned
abbrev pub price_size : ℕ
price_size = 20

-- leading zeros are dropped
unfoldable pub drop_zeros : Bytes → Bytes
drop_zeros [] = []
drop_zeros (b ∷ bs) = choose (eqb b (code "0")) (drop_zeros bs) (b ∷ bs)

-- trailing zeros are dropped: those that lead, read backwards
unfoldable pub trim_zeros : Bytes → Bytes
trim_zeros d = reverse (drop_zeros (reverse d))

abbrev pub empty : Bytes → Bool
empty xs = eqb (length xs) 0

-- before the point leading zeros are dropped; one zero remains where nothing else does
unfoldable pub shown_whole : Bytes → Bytes
shown_whole w = choose (empty (drop_zeros w)) (text "0") (drop_zeros w)

-- after the point trailing zeros are dropped, and the point where nothing remains behind it
unfoldable pub shown_decimals : Bytes → Bytes
shown_decimals d = choose (empty (trim_zeros d)) [] (text "." ++ trim_zeros d)

unfoldable pub shown_unsigned : Bytes → Bytes
shown_unsigned u = shown_whole (whole_of u) ++ shown_decimals (decimals_of u)

-- the number is zero
unfoldable pub is_zero : Bytes → Bool
is_zero v = same_bytes (shown_unsigned (unsigned_of v)) (text "0")

-- the minus of zero is dropped
unfoldable pub shows_minus : Bytes → Bool
shows_minus v = both (has_minus v) (not (is_zero v))

unfoldable pub shown_sign : Bytes → Bytes
shown_sign v = choose (shows_minus v) (text "-") []

-- the price as a line shows it
unfoldable pub shown_price : Bytes → Bytes
shown_price v = shown_sign v ++ shown_unsigned (unsigned_of v)
