-- What a ledger has of a swap, by the place at which it was looked up. Assumes nothing.
use Prim.Native.Nat.{ℕ, ◌+◌, ◌<◌, ◌≤◌}
use mathlib.Core.Bool.{true, false}
use mathlib.Core.Path.{◌≡◌}
use native.Mathlib.Omega.{arith}
use lib.ListN.{length}
use lib.Dec.{ltb}
use borrow.Author.Tests.{ltb-true, lt-ltb, le-ltb}
use Rattle.octets.specs.Bytes.{Bytes}
use Rattle.actions.specs.Statuses.{unknown}
use Rattle.ledger.specs.Layout.{row_start}
use Rattle.ledger.specs.Header.{rows_in_use}
use Rattle.ledger.specs.Rows.{row_at, status_of, identifier_of, place_of, is_known, swap_status, swap_identifier, swap_in}
use Rattle.ledger.specs.declared.search.Swap.{Swap}

-- the row of a known swap lies within the ledger
pub known_fits : (l u : Bytes) → row_start (rows_in_use l) ≤ length l → is_known l u ≡ true → row_start (place_of l u + 1) ≤ length l
unfolding is_known
known_fits l u fit e = omega (arith, fit, ltb-true (place_of l u) (rows_in_use l) e)

module _ (l u : Bytes) (k : ℕ) (at : k ≡ place_of l u) where
  pub swap_unknown : rows_in_use l ≤ k → ◌≡◌ {A = Swap} (record { known = false; place = k; status = unknown; identifier = 0 }) (swap_in l u)
  unfolding swap_status swap_identifier is_known
  swap_unknown h =
      let none : ltb (place_of l u) (rows_in_use l) ≡ false = le-ltb (place_of l u) (rows_in_use l) (omega arith) in
      rw (none, at)

  pub swap_known : k < rows_in_use l → ◌≡◌ {A = Swap} (record { known = true; place = k; status = status_of (row_at l k); identifier = identifier_of (row_at l k) }) (swap_in l u)
  unfolding swap_status swap_identifier is_known
  swap_known h =
      let some : ltb (place_of l u) (rows_in_use l) ≡ true = lt-ltb (place_of l u) (rows_in_use l) (omega arith) in
      rw (some, at)
