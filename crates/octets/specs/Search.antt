-- The first number of a range that passes a test, and the test of a whole range.
use Rattle.std.specs.Prelude.{ℕ, zero, suc, Bool, true}
use Rattle.octets.specs.Choice.{choose, both}

-- the first of the d numbers from k on that passes f, or k + d where none does
unfoldable pub first_from : (ℕ → Bool) → ℕ → ℕ → ℕ
first_from f k zero = k
first_from f k (suc d) = choose (f k) k (first_from f (suc k) d)

-- the first number below n that passes f, or n where none does
abbrev pub first : (ℕ → Bool) → ℕ → ℕ
first f n = first_from f 0 n

-- each of the d numbers from k on passes f
unfoldable pub all_from : (ℕ → Bool) → ℕ → ℕ → Bool
all_from f k zero = true
all_from f k (suc d) = both (f k) (all_from f (suc k) d)

-- each number below n passes f
abbrev pub all : (ℕ → Bool) → ℕ → Bool
all f n = all_from f 0 n
