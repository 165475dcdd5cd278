-- An accepted message leaves a right header. Assumes nothing.
use Prim.Native.Nat.{ℕ, ◌+◌, ◌^◌, ◌<◌, ◌≤◌}
use mathlib.Core.Bool.{Bool, true, false}
use mathlib.Core.Path.{◌≡◌, refl, sym, ap, ◌∙◌}
use native.Mathlib.Omega.{arith}
use lib.Dec.{lit≤}
use borrow.Author.Tests.{eqb-false}
use Rattle.octets.specs.Bytes.{Bytes}
use Rattle.octets.proofs.ChoiceLaws.{both_false}
use Rattle.actions.specs.declared.Action.{Action}
use Rattle.actions.specs.Actions.{is_new, next_status}
use Rattle.actions.specs.Statuses.{live, closed, errored, ported}
use Rattle.ledger.specs.Layout.{u32, identifier_limit}
use Rattle.ledger.specs.Totals.{totals_in, adds, sum_of}
use Rattle.ledger.specs.Header.{rows_in_use, next_identifier, capacity_in, are_caps, capacity_for, RightHeader}
use Rattle.ledger.specs.Rows.{swap_status}
use Rattle.ledger.proofs.Outside.{fixed_in}
use Rattle.ledger.proofs.TotalsLaws.{one_of}
use Rattle.submission.specs.Submission.{swap_of, line_due_in, finds_spent, ledger_for}
use Rattle.submission.proofs.Acceptance.{HasPlace}
use Rattle.submission.proofs.Lookup.{ledger_length, new_place, new_status, rows_raised, next_raised, caps_kept, fixed_kept, totals_moved}

module _ {largest : ℕ} {l m : Bytes} {a : Action} (f : HasPlace largest l m a) (small : largest < 256 ^ u32) where
  abbrev before : ℕ
  before = swap_status l (swap_of m)

  abbrev after : ℕ
  after = next_status a (swap_status l (swap_of m))

  -- in how many totals a swap of this status is
  abbrev counts : ℕ → ℕ
  counts s = adds s live + adds s closed + adds s errored + adds s ported

  sum_moved : sum_of (totals_in (ledger_for a l m)) + counts before ≡ sum_of (totals_in l) + 1
  unfolding sum_of totals_in
  sum_moved =
      omega (
        arith,
        totals_moved f small live (lit≤ tt) (lit≤ tt),
        totals_moved f small closed (lit≤ tt) (lit≤ tt),
        totals_moved f small errored (lit≤ tt) (lit≤ tt),
        totals_moved f small ported (lit≤ tt) (lit≤ tt),
        one_of after f.step.0 f.step.1,
      )

  sum_after : sum_of (totals_in (ledger_for a l m)) ≡ rows_in_use (ledger_for a l m)
  sum_after = by (is_new a) refl
    where
      by : (b : Bool) → is_new a ≡ b → sum_of (totals_in (ledger_for a l m)) ≡ rows_in_use (ledger_for a l m)
      by true e =
          let none : counts before ≡ 0 = ap counts (new_status f small e) in
          let rows : rows_in_use (ledger_for a l m) ≡ rows_in_use l + 1 = rows_raised f small ∙ rw e in
          omega (arith, sum_moved, f.header.totals)
      by false e =
          let one : counts before ≡ 1 = one_of before (f.status e).0 (f.status e).1 in
          let rows : rows_in_use (ledger_for a l m) ≡ rows_in_use l = rows_raised f small ∙ rw e in
          omega (arith, sum_moved, f.header.totals)

  rows_most : rows_in_use (ledger_for a l m) ≤ capacity_in l
  rows_most = by (is_new a) refl
    where
      by : (b : Bool) → is_new a ≡ b → rows_in_use (ledger_for a l m) ≤ capacity_in l
      by true e =
          let rows : rows_in_use (ledger_for a l m) ≡ rows_in_use l + 1 = rows_raised f small ∙ rw e in
          omega (arith, f.place, new_place f small e)
      by false e =
          let rows : rows_in_use (ledger_for a l m) ≡ rows_in_use l = rows_raised f small ∙ rw e in
          omega (arith, f.header.rows)

  next_range : finds_spent (line_due_in a l m) (next_identifier l) ≡ false → (1 ≤ next_identifier (ledger_for a l m)) × (next_identifier (ledger_for a l m) ≤ identifier_limit)
  unfolding finds_spent
  next_range spare = by (line_due_in a l m) refl
    where
      by : (b : Bool) → line_due_in a l m ≡ b → (1 ≤ next_identifier (ledger_for a l m)) × (next_identifier (ledger_for a l m) ≤ identifier_limit)
      by true e =
          let next : next_identifier (ledger_for a l m) ≡ next_identifier l + 1 = next_raised f small ∙ rw e in
          let left : (next_identifier l ≡ identifier_limit → ⊥) = eqb-false _ _ (both_false (line_due_in a l m) _ spare e) in
          (omega (arith, next), omega (arith, next, left, f.header.next))
      by false e =
          let next : next_identifier (ledger_for a l m) ≡ next_identifier l = next_raised f small ∙ rw e in
          (omega (arith, next, f.header.positive), omega (arith, next, f.header.next))

  pub right_after : finds_spent (line_due_in a l m) (next_identifier l) ≡ false → RightHeader largest (ledger_for a l m)
  unfolding fixed_in
  right_after spare =
      let fixed = fixed_kept f small in
      let capacity : capacity_in (ledger_for a l m) ≡ capacity_in l = ap (λ x. x.2) fixed in
      record {
        long = omega (arith, ledger_length f small, f.header.long);
        offset = ap (λ x. x.0) fixed ∙ f.header.offset;
        positive = (next_range spare).0;
        next = (next_range spare).1;
        size = ap (λ x. x.1) fixed ∙ f.header.size;
        capacity = capacity ∙ f.header.capacity ∙ ap (capacity_for largest) (sym (ledger_length f small));
        rows = omega (arith, rows_most, capacity);
        caps = ap are_caps (caps_kept f small) ∙ f.header.caps;
        totals = sum_after;
      }
