-- Specification, section 4: dates, YYYY-MM-DD, and times, YYYY-MM-DDThh:mm:ssZ.
use Rattle.std.specs.Prelude.{ℕ, ◌+◌, ◌-◌, ◌*◌, ◌%◌, Bool, true, false, not, [], ◌∷◌, ◌≡◌, length, get_or, ltb, leb, eqb}
use Prim.Native.Char.{code}
use Rattle.octets.specs.Bytes.{Bytes}
use Rattle.octets.specs.Choice.{choose, both, either}
use Rattle.octets.specs.Search.{all}
use Rattle.octets.specs.Text.{text}
use Rattle.values.specs.Run.{within, in_class}
use Rattle.values.specs.declared.run.Class.TheVariants.{Digit}

abbrev pub first_year : ℕ
first_year = 1900

-- a byte fits a place of a pattern, in which 0 stands for any digit and any other byte for itself
abbrev pub fits_byte : ℕ → ℕ → Bool
fits_byte p b = choose (eqb p (code "0")) (in_class Digit b) (eqb b p)

abbrev pub fits_at : Bytes → Bytes → ℕ → Bool
fits_at p v k = fits_byte (get_or p k 0) (get_or v k 0)

unfoldable pub fits_pattern : Bytes → Bytes → Bool
fits_pattern p v = both (eqb (length v) (length p)) (all (fits_at p v) (length v))

-- the number of the digit at i, and of the two digits from i on
abbrev pub digit_at : Bytes → ℕ → ℕ
digit_at v i = get_or v i 0 - code "0"

unfoldable pub two_digits : Bytes → ℕ → ℕ
two_digits v i = digit_at v i * 10 + digit_at v (i + 1)

unfoldable pub leap : ℕ → Bool
leap y = either (eqb (y % 400) 0) (both (eqb (y % 4) 0) (not (eqb (y % 100) 0)))

unfoldable pub days_in : ℕ → ℕ → ℕ
days_in y m =
    choose (eqb m 2) (choose (leap y) 29 28)
    (choose (either (eqb m 4) (either (eqb m 6) (either (eqb m 9) (eqb m 11)))) 30 31)

-- year, month and day are a Gregorian date, from 1900 on
unfoldable pub gregorian : ℕ → ℕ → ℕ → Bool
gregorian y m d = both (leb first_year y) (both (within 1 12 m) (within 1 (days_in y m) d))

-- the first ten bytes name a date
unfoldable pub names_date : Bytes → Bool
names_date v = gregorian (two_digits v 0 * 100 + two_digits v 2) (two_digits v 5) (two_digits v 8)

abbrev pub date_pattern : Bytes
date_pattern = text "0000-00-00"

unfoldable pub is_date : Bytes → Bool
is_date v = both (fits_pattern date_pattern v) (names_date v)

abbrev pub time_pattern : Bytes
time_pattern = text "0000-00-00T00:00:00Z"

-- hours 00 to 23, minutes and seconds 00 to 59
unfoldable pub is_time : Bytes → Bool
is_time v =
    both (fits_pattern time_pattern v)
    (both (names_date v) (both (ltb (two_digits v 11) 24) (both (ltb (two_digits v 14) 60) (ltb (two_digits v 17) 60))))

-- a date before a date, a time before a time (verdict 13): places are fixed and the most significant comes first, so bytes are in the order of time
unfoldable pub before : Bytes → Bytes → Bool
before a [] = false
before [] (y ∷ b) = true
before (x ∷ a) (y ∷ b) = either (ltb x y) (both (eqb x y) (before a b))

-- the number that the digits of a value spell, read on from n; what is no digit is passed over
unfoldable pub number : ℕ → Bytes → ℕ
number n [] = n
number n (b ∷ v) = choose (in_class Digit b) (number (n * 10 + (b - code "0")) v) (number n v)

-- a date is before another exactly where its number YYYYMMDD is smaller
abbrev pub DateOrder : Type 0
DateOrder = (a b : Bytes) → is_date a ≡ true → is_date b ≡ true → before a b ≡ ltb (number 0 a) (number 0 b)

-- a time is before another exactly where its number YYYYMMDDhhmmss is smaller
abbrev pub TimeOrder : Type 0
TimeOrder = (a b : Bytes) → is_time a ≡ true → is_time b ≡ true → before a b ≡ ltb (number 0 a) (number 0 b)
