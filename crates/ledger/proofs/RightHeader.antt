-- A right header, clause by clause, and what the check of it tells. Assumes nothing.
use Rattle.std.specs.Prelude.{Some, None, Option}
use Prim.Native.Nat.{ℕ, ◌≤◌}
use mathlib.Core.Bool.{Bool, true, false}
use mathlib.Core.Path.{◌≡◌, refl, subst}
use native.Mathlib.Omega.{arith}
use lib.ListN.{length}
use lib.Dec.{eqb, leb}
use borrow.Author.Tests.{eqb-true, leb-true, eq-eqb, le-leb}
use Rattle.octets.specs.Bytes.{Bytes}
use Rattle.octets.specs.Choice.{choose, both}
use Rattle.octets.proofs.ChoiceLaws.{both_first, both_second}
use Rattle.values.specs.Run.{within}
use Rattle.ledger.specs.Layout.{header_size, row_size, row_start, shortest_ledger, identifier_limit}
use Rattle.ledger.specs.Totals.{totals_in, sum_of}
use Rattle.ledger.specs.declared.header.Header.{Header}
use Rattle.ledger.specs.Header.{rows_in_use, first_row, next_identifier, size_of_rows, capacity_in, caps_in, are_caps, capacity_for, header_right, RightHeader, header_of, checked_header}

-- the header is right exactly where each clause holds
pub right_header : (largest : ℕ) (l : Bytes) → header_right largest l ≡ true → RightHeader largest l
unfolding header_right
right_header largest l e =
    let c₁ = leb shortest_ledger (length l) in
    let c₂ = eqb (first_row l) header_size in
    let c₃ = within 1 identifier_limit (next_identifier l) in
    let c₄ = eqb (size_of_rows l) row_size in
    let c₅ = eqb (capacity_in l) (capacity_for largest (length l)) in
    let c₆ = leb (rows_in_use l) (capacity_in l) in
    let c₇ = are_caps (caps_in l) in
    let c₈ = eqb (sum_of (totals_in l)) (rows_in_use l) in
    let r₂ = both_second c₁ (both c₂ (both c₃ (both c₄ (both c₅ (both c₆ (both c₇ c₈)))))) e in
    let r₃ = both_second c₂ (both c₃ (both c₄ (both c₅ (both c₆ (both c₇ c₈))))) r₂ in
    let r₄ = both_second c₃ (both c₄ (both c₅ (both c₆ (both c₇ c₈)))) r₃ in
    let r₅ = both_second c₄ (both c₅ (both c₆ (both c₇ c₈))) r₄ in
    let r₆ = both_second c₅ (both c₆ (both c₇ c₈)) r₅ in
    let r₇ = both_second c₆ (both c₇ c₈) r₆ in
    let range : within 1 identifier_limit (next_identifier l) ≡ true = both_first c₃ (both c₄ (both c₅ (both c₆ (both c₇ c₈)))) r₃ in
    record {
      long = leb-true _ _ (both_first c₁ (both c₂ (both c₃ (both c₄ (both c₅ (both c₆ (both c₇ c₈)))))) e);
      offset = eqb-true _ _ (both_first c₂ (both c₃ (both c₄ (both c₅ (both c₆ (both c₇ c₈))))) r₂);
      positive = leb-true _ _ (both_first (leb 1 (next_identifier l)) (leb (next_identifier l) identifier_limit) range);
      next = leb-true _ _ (both_second (leb 1 (next_identifier l)) (leb (next_identifier l) identifier_limit) range);
      size = eqb-true _ _ (both_first c₄ (both c₅ (both c₆ (both c₇ c₈))) r₄);
      capacity = eqb-true _ _ (both_first c₅ (both c₆ (both c₇ c₈)) r₅);
      rows = leb-true _ _ (both_first c₆ (both c₇ c₈) r₆);
      caps = both_first c₇ c₈ r₇;
      totals = eqb-true _ _ (both_second c₇ c₈ r₇);
    }

pub header_right_lem : (largest : ℕ) (l : Bytes) → RightHeader largest l → header_right largest l ≡ true
unfolding header_right
header_right_lem largest l h =
    rw (
      le-leb _ _ h.long,
      eq-eqb _ _ h.offset,
      le-leb _ _ h.positive,
      le-leb _ _ h.next,
      eq-eqb _ _ h.size,
      eq-eqb _ _ h.capacity,
      le-leb _ _ h.rows,
      h.caps,
      eq-eqb _ _ h.totals,
    )

-- there is room for as many rows as the capacity says, and the capacity is no larger than the largest
module _ (largest : ℕ) (l : Bytes) (h : RightHeader largest l) where
  pub rows_fit : row_start (capacity_in l) ≤ length l
  unfolding capacity_for
  rows_fit = omega (arith, h.long, h.capacity)

  pub capacity_most : capacity_in l ≤ largest
  unfolding capacity_for
  capacity_most = omega (arith, h.capacity)

-- ---- what the check of a ledger tells

abbrev pub HeaderChecked : ℕ → Bytes → Option Header → Type 0
HeaderChecked largest l None = header_right largest l ≡ false
HeaderChecked largest l (Some h) = (header_right largest l ≡ true) × (h ≡ header_of l)

pub header_checked : (largest : ℕ) (l : Bytes) (r : Option Header) → checked_header largest l ≡ r → HeaderChecked largest l r
unfolding checked_header
header_checked largest l r e = subst (HeaderChecked largest l) e (by (header_right largest l) refl)
  where
    by : (b : Bool) → header_right largest l ≡ b → HeaderChecked largest l (choose b (Some (header_of l)) None)
    by true g = (g, refl)
    by false g = g

-- the rows in use lie within the ledger
pub used_fit : (largest : ℕ) (l : Bytes) (h : Header) → header_right largest l ≡ true → h ≡ header_of l → row_start h.rows ≤ length l
unfolding header_of
used_fit largest l h e g =
    let right : RightHeader largest l = right_header largest l e in
    rw g (omega (arith, rows_fit largest l right, right.rows))
