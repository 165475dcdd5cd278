-- Specification, section 8: the rows in use as a list, and how many of them pass a test.
use Rattle.std.specs.Prelude.{ℕ, zero, suc, Bool, List, [], ◌∷◌, eqb}
use Rattle.octets.specs.Bytes.{Bytes}
use Rattle.octets.specs.Choice.{choose}
use Rattle.ledger.specs.Header.{rows_in_use}
use Rattle.ledger.specs.Rows.{row_at, status_of}

-- the values of f at the d numbers from k on
unfoldable pub list_from : (ℕ → Bytes) → ℕ → ℕ → List Bytes
list_from f k zero = []
list_from f k (suc d) = f k ∷ list_from f (suc k) d

-- the rows in use, in order
unfoldable pub rows_of : Bytes → List Bytes
rows_of l = list_from (row_at l) 0 (rows_in_use l)

-- the number of rows that pass
unfoldable pub count : (Bytes → Bool) → List Bytes → ℕ
count p [] = 0
count p (r ∷ rs) = choose (p r) (suc (count p rs)) (count p rs)

-- the number of rows of a status
abbrev pub count_of : ℕ → List Bytes → ℕ
count_of s rows = count (λ r. eqb (status_of r) s) rows
