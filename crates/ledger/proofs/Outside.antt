-- What the header and the rows say of a ledger after a write elsewhere. Assumes nothing.
use Prim.Native.Nat.{ℕ, ◌+◌, ◌<◌, ◌≤◌}
use mathlib.Core.Path.{◌≡◌, ap}
use native.Mathlib.Omega.{arith}
use native.Mathlib.Decide.{dec_lt}
use lib.ListN.{length}
use Rattle.octets.specs.Bytes.{Bytes}
use Rattle.octets.specs.Part.{part, splice}
use Rattle.octets.specs.Number.{from_le}
use Rattle.octets.proofs.PartLaws.{part_before, part_after}
use Rattle.ledger.specs.Layout.{u32, u64, rows_at, first_row_at, next_at, caps_at, cap_at, row_size_at, capacity_at, total_at, row_size, row_start}
use Rattle.ledger.specs.Totals.{total_in}
use Rattle.ledger.specs.Header.{rows_in_use, first_row, next_identifier, caps_in, size_of_rows, capacity_in}
use Rattle.ledger.specs.Rows.{row_at}

-- the numbers that only opening writes: offset of the first row, row size, capacity
unfoldable pub fixed_in : Bytes → ℕ × ℕ × ℕ
fixed_in l = (first_row l, size_of_rows l, capacity_in l)

-- what a write does not touch: a part that ends before it or starts after it
module _ (l ys : Bytes) (at : ℕ) (h : at + length ys ≤ length l) where
  part_outside : (from n : ℕ) → (at < from + n → at + length ys ≤ from) → part (splice l at ys) from n ≡ part l from n
  part_outside from n apart =
      elim (dec_lt at (from + n)) [
        | yes b ↦ part_after l ys at h from n (apart b)
        | no b ↦ part_before l ys at h from n (omega arith)
      ]

  pub rows_outside : (at < rows_at + u32 → at + length ys ≤ rows_at) → rows_in_use (splice l at ys) ≡ rows_in_use l
  unfolding rows_in_use
  rows_outside apart = ap from_le (part_outside rows_at u32 apart)

  pub next_outside : (at < next_at + u64 → at + length ys ≤ next_at) → next_identifier (splice l at ys) ≡ next_identifier l
  unfolding next_identifier
  next_outside apart = ap from_le (part_outside next_at u64 apart)

  pub caps_outside : (at < cap_at 5 → at + length ys ≤ caps_at) → caps_in (splice l at ys) ≡ caps_in l
  unfolding caps_in
  caps_outside apart = rw (cap 0 (omega arith), cap 1 (omega arith), cap 2 (omega arith), cap 3 (omega arith), cap 4 (omega arith))
    where
      cap : (k : ℕ) → k < 5 → part (splice l at ys) (cap_at k) u64 ≡ part l (cap_at k) u64
      cap k b = part_outside (cap_at k) u64 (λ c. omega (arith, apart (omega arith)))

  pub row_outside : (k : ℕ) → (at < row_start k + row_size → at + length ys ≤ row_start k) → row_at (splice l at ys) k ≡ row_at l k
  unfolding row_at
  row_outside k apart = part_outside (row_start k) row_size apart

  pub total_outside : (s : ℕ) → (at < total_at s + u32 → at + length ys ≤ total_at s) → total_in s (splice l at ys) ≡ total_in s l
  unfolding total_in
  total_outside s apart = ap from_le (part_outside (total_at s) u32 apart)

  pub fixed_outside : (at < first_row_at + u32 → at + length ys ≤ first_row_at) → (at < capacity_at + u32 → at + length ys ≤ row_size_at) → fixed_in (splice l at ys) ≡ fixed_in l
  unfolding fixed_in first_row size_of_rows capacity_in
  fixed_outside front back =
      rw (
        part_outside first_row_at u32 front,
        part_outside row_size_at u32 (λ b. back (omega arith)),
        part_outside capacity_at u32 (λ b. omega (arith, back b)),
      )
