-- Specification, section 11: the lines of the report.
use Rattle.std.specs.Prelude.{ℕ, zero, suc, ◌+◌, ◌-◌, ◌*◌, ◌/◌, ◌^◌, ◌<◌, ◌≤◌, Bool, ◌≡◌, List, [], ◌∷◌, ◌++◌, length, ltb}
use Prim.Native.Char.{code}
use Rattle.octets.specs.Bytes.{Bytes}
use Rattle.octets.specs.Choice.{choose}
use Rattle.octets.specs.Part.{splice}
use Rattle.octets.specs.Number.{digits}
use Rattle.octets.specs.Text.{text}

-- ---- numbers are decimal

-- the most digits of a number of 64 bits
abbrev pub most_digits : ℕ
most_digits = 20

-- k, and one for each time that n can be divided by ten and leaves something; d times at most
unfoldable pub digits_from : ℕ → ℕ → ℕ → ℕ
digits_from zero k n = k
digits_from (suc d) k n = choose (ltb n 10) k (digits_from d (suc k) (n / 10))

-- the number of digits of n
unfoldable pub digit_count : ℕ → ℕ
digit_count n = digits_from (most_digits - 1) 1 n

unfoldable pub decimal : ℕ → Bytes
decimal n = digits (digit_count n) n

-- the digits hold the number, and no fewer do
abbrev pub DecimalFewest : Type 0
DecimalFewest =
    (n : ℕ) → n < 10 ^ most_digits → (n < 10 ^ digit_count n) × (1 < digit_count n → 10 ^ (digit_count n - 1) ≤ n)

-- ---- one space stands between fields and a newline ends every line

abbrev pub space : ℕ
space = code " "

abbrev pub newline : ℕ
newline = code "\n"

unfoldable pub line : List Bytes → Bytes
line [] = newline ∷ []
line (f ∷ []) = f ++ (newline ∷ [])
line (f ∷ (g ∷ gs)) = (f ++ (space ∷ [])) ++ line (g ∷ gs)

-- the first line has four words
unfoldable pub heading : Bytes
heading = line (text "message" ∷ text "verdict" ∷ text "element" ∷ text "record" ∷ [])

-- then one line a message: position from 1, verdict, element, identifier given or 0
unfoldable pub report_line : ℕ → ℕ → ℕ → ℕ → Bytes
report_line position verdict element identifier =
    line (decimal position ∷ decimal verdict ∷ decimal element ∷ decimal identifier ∷ [])

-- "end" or, where input stops inside a length or message, "cut"
abbrev pub last_word : Bool → Bytes
last_word is_cut = choose is_cut (text "cut") (text "end")

-- the last line: the word, then messages judged, then lines published
unfoldable pub last_line : Bool → ℕ → ℕ → Bytes
last_line is_cut judged published = line (last_word is_cut ∷ decimal judged ∷ decimal published ∷ [])

-- the most bytes of a line: four numbers, each with the byte behind it
abbrev pub longest_line : ℕ
longest_line = 4 * (most_digits + 1)

-- the bytes d' are d with ys written from `at` on, and r is the place behind them
pub record Put (d : Bytes) (at : ℕ) (ys d' : Bytes) (r : ℕ) : Type 0 where
  pub bytes : d' ≡ splice d at ys
  pub place : r ≡ at + length ys
