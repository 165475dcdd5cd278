-- What the header that opening writes says. Assumes nothing.
use Prim.Native.Nat.{ℕ, ◌+◌, ◌^◌, ◌<◌, ◌≤◌}
use mathlib.Core.Bool.{true}
use mathlib.Core.Path.{◌≡◌, refl, sym, ap, ◌∙◌}
use native.Mathlib.Omega.{arith}
use lib.ListN.{length, drop}
use lib.Dec.{lit<, lit≤}
use Rattle.octets.specs.Bytes.{Bytes}
use Rattle.octets.specs.Part.{splice}
use Rattle.octets.specs.Fields.{written, Placed}
use Rattle.octets.proofs.PartLaws.{length_splice}
use Rattle.octets.proofs.FieldRun.{length_bytes, all_written, placed_at, number_read, front_placed, front_later}
use Rattle.notional.specs.Masking.{is_cap}
use Rattle.actions.specs.Statuses.{live, closed, errored, ported}
use Rattle.notional.proofs.MaskingLaws.{cap_largest}
use Rattle.ledger.specs.declared.header.Caps.{Caps}
use Rattle.ledger.specs.Layout.{u32, u64, rows_at, header_size, row_size, shortest_ledger}
use Rattle.ledger.specs.Totals.{total_in, totals_in, sum_of}
use Rattle.ledger.specs.Header.{rows_in_use, first_row, next_identifier, caps_in, size_of_rows, capacity_in, are_caps, capacity_for, header_right, header_fields, new_header}
use Rattle.ledger.proofs.HeaderLaws.{each_cap}
use Rattle.ledger.proofs.TotalsLaws.{by_status}
use Rattle.ledger.proofs.RightHeader.{header_right_lem}

module _ (caps : Caps) (capacity : ℕ) where
  pub length_header : length (new_header caps capacity) ≡ header_size
  unfolding new_header
  length_header = length_bytes (header_fields caps capacity)

  -- its fields, written one after the other
  pub header_written : (d : Bytes) {last : Bytes} → length d ≡ header_size → last ≡ written rows_at (header_fields caps capacity) d → last ≡ new_header caps capacity
  unfolding new_header
  header_written d size run = all_written (header_fields caps capacity) d size run

cap_fits : (cap : ℕ) → is_cap cap ≡ true → cap < 256 ^ u64
cap_fits cap e = omega (arith, cap_largest cap e)

module _ (caps : Caps) (capacity : ℕ) (l : Bytes) (room : header_size ≤ length l) where
  fits : rows_at + length (new_header caps capacity) ≤ length l
  fits = omega (arith, length_header caps capacity)

  pub opened_length : length (splice l rows_at (new_header caps capacity)) ≡ length l
  opened_length = length_splice l (new_header caps capacity) rows_at fits

  -- each field stands at the specification's offset, and later bytes stay
  pub opened_placed : Placed rows_at (header_fields caps capacity) (splice l rows_at (new_header caps capacity))
  unfolding new_header
  opened_placed = front_placed (header_fields caps capacity) header_size l refl

  pub opened_later : drop header_size (splice l rows_at (new_header caps capacity)) ≡ drop header_size l
  unfolding new_header
  opened_later = front_later (header_fields caps capacity) header_size l refl

  pub opened_rows : rows_in_use (splice l rows_at (new_header caps capacity)) ≡ 0
  unfolding rows_in_use
  opened_rows = number_read u32 0 (placed_at _ _ _ opened_placed 0) (lit< tt)

  opened_first : first_row (splice l rows_at (new_header caps capacity)) ≡ header_size
  unfolding first_row
  opened_first = number_read u32 header_size (placed_at _ _ _ opened_placed 1) (lit< tt)

  pub opened_next : next_identifier (splice l rows_at (new_header caps capacity)) ≡ 1
  unfolding next_identifier
  opened_next = number_read u64 1 (placed_at _ _ _ opened_placed 2) (lit< tt)

  pub opened_caps : are_caps caps ≡ true → caps_in (splice l rows_at (new_header caps capacity)) ≡ caps
  unfolding caps_in
  opened_caps e =
      let is = each_cap caps e in
      rw (
        number_read u64 caps.cr (placed_at _ _ _ opened_placed 3) (cap_fits caps.cr is.0),
        number_read u64 caps.ir (placed_at _ _ _ opened_placed 4) (cap_fits caps.ir is.1),
        number_read u64 caps.fx (placed_at _ _ _ opened_placed 5) (cap_fits caps.fx is.2),
        number_read u64 caps.eq (placed_at _ _ _ opened_placed 6) (cap_fits caps.eq is.3),
        number_read u64 caps.co (placed_at _ _ _ opened_placed 7) (cap_fits caps.co is.4),
      )

  opened_size : size_of_rows (splice l rows_at (new_header caps capacity)) ≡ row_size
  unfolding size_of_rows
  opened_size = number_read u32 row_size (placed_at _ _ _ opened_placed 8) (lit< tt)

  opened_capacity : capacity < 256 ^ u32 → capacity_in (splice l rows_at (new_header caps capacity)) ≡ capacity
  unfolding capacity_in
  opened_capacity h = number_read u32 capacity (placed_at _ _ _ opened_placed 9) h

  pub opened_total : (s : ℕ) → live ≤ s → s ≤ ported → total_in s (splice l rows_at (new_header caps capacity)) ≡ 0
  unfolding total_in
  opened_total =
      by_status (λ s. total_in s (splice l rows_at (new_header caps capacity)) ≡ 0)
      (number_read u32 0 (placed_at _ _ _ opened_placed 10) (lit< tt))
      (number_read u32 0 (placed_at _ _ _ opened_placed 11) (lit< tt))
      (number_read u32 0 (placed_at _ _ _ opened_placed 12) (lit< tt))
      (number_read u32 0 (placed_at _ _ _ opened_placed 13) (lit< tt))

  opened_sum : sum_of (totals_in (splice l rows_at (new_header caps capacity))) ≡ 0
  unfolding sum_of totals_in
  opened_sum = rw (opened_total live (lit≤ tt) (lit≤ tt), opened_total closed (lit≤ tt) (lit≤ tt), opened_total errored (lit≤ tt) (lit≤ tt), opened_total ported (lit≤ tt) (lit≤ tt))

-- a ledger that opening has written is right
pub opened_right : (largest : ℕ) (caps : Caps) (l : Bytes) → largest < 256 ^ u32 → shortest_ledger ≤ length l → are_caps caps ≡ true → header_right largest (splice l rows_at (new_header caps (capacity_for largest (length l)))) ≡ true
unfolding capacity_for
opened_right largest caps l small long ok =
    let room : header_size ≤ length l = omega arith in
    let capacity : ℕ = capacity_for largest (length l) in
    let same : length (splice l rows_at (new_header caps capacity)) ≡ length l = opened_length caps capacity l room in
    let rows : rows_in_use (splice l rows_at (new_header caps capacity)) ≡ 0 = opened_rows caps capacity l room in
    let next : next_identifier (splice l rows_at (new_header caps capacity)) ≡ 1 = opened_next caps capacity l room in
    header_right_lem largest (splice l rows_at (new_header caps capacity))
    (record {
      long = omega arith;
      offset = opened_first caps capacity l room;
      positive = omega arith;
      next = omega arith;
      size = opened_size caps capacity l room;
      capacity = opened_capacity caps capacity l room (omega arith) ∙ ap (capacity_for largest) (sym same);
      rows = omega arith;
      caps = ap are_caps (opened_caps caps capacity l room ok) ∙ ok;
      totals = opened_sum caps capacity l room ∙ sym rows;
    })
