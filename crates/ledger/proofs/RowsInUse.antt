-- A swap's row in the list of rows in use. Assumes nothing.
use mathlib.Core.Bool.{Bool, true, false}
use mathlib.Core.Path.{◌≡◌, refl, sym, ap, ◌∙◌}
use native.Mathlib.Nat.{zero-add}
use native.Mathlib.Omega.{arith}
use lib.ListN.{length}
use borrow.Author.Tests.{ltb-true}
use Rattle.octets.specs.Bytes.{Bytes}
use Rattle.octets.specs.Choice.{choose}
use Rattle.actions.specs.Statuses.{unknown}
use Rattle.ledger.specs.Header.{rows_in_use}
use Rattle.ledger.specs.Rows.{row_at, status_of, holds_uti, place_in, place_of, is_known, swap_row, swap_status}
use Rattle.ledger.specs.RowList.{rows_of}
use Rattle.ledger.proofs.RowListLaws.{any_row, found_row, length_list, any_list, first_list, none_first}

pub length_rows : (l : Bytes) → length (rows_of l) ≡ rows_in_use l
unfolding rows_of
length_rows l = length_list (row_at l) 0 (rows_in_use l)

module _ (l u : Bytes) where
  pub known_is : is_known l u ≡ any_row (holds_uti u) (rows_of l)
  unfolding is_known place_in rows_of
  known_is = sym (rw zero-add at (any_list (holds_uti u) (row_at l) 0 (rows_in_use l)))

  pub row_is : is_known l u ≡ true → swap_row l u ≡ found_row (holds_uti u) (rows_of l)
  unfolding is_known place_in rows_of
  row_is e = sym (first_list (holds_uti u) (row_at l) 0 (rows_in_use l) (omega (arith, ltb-true (place_of l u) (rows_in_use l) e)))

  -- no bytes have status 0, as an unknown swap
  pub status_is : swap_status l u ≡ status_of (found_row (holds_uti u) (rows_of l))
  unfolding swap_status status_of
  status_is = by (is_known l u) refl
    where
      by : (b : Bool) → is_known l u ≡ b → choose b (status_of (swap_row l u)) unknown ≡ status_of (found_row (holds_uti u) (rows_of l))
      by true e = ap status_of (row_is e)
      by false e = ap status_of (sym (none_first (holds_uti u) (rows_of l) (sym known_is ∙ e)))
