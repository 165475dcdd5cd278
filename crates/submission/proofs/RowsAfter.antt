-- The rows in use after an accepted message, as a list: which row is put, and what it changes of their number and of the counts. Assumes nothing.
use Prim.Native.Nat.{ℕ, ◌+◌, ◌^◌, ◌<◌, ◌≤◌}
use mathlib.Core.Bool.{Bool, true, false}
use mathlib.Core.Path.{◌≡◌, refl, sym, ap, ◌∙◌}
use native.Mathlib.Numerals.{add-one}
use native.Mathlib.Nat.{zero-add}
use native.Mathlib.Omega.{arith}
use lib.ListN.{length}
use lib.Dec.{eqb}
use borrow.Author.Tests.{ltb-true, ne_eqb}
use Rattle.octets.specs.Bytes.{Bytes}
use Rattle.octets.specs.Choice.{choose, both}
use Rattle.octets.specs.Same.{same_bytes}
use Rattle.octets.proofs.ChoiceLaws.{same_test}
use Rattle.octets.proofs.SameLaws.{same_true, same_refl}
use Rattle.actions.specs.declared.Action.{Action}
use Rattle.actions.specs.Actions.{is_new, next_status}
use Rattle.actions.specs.Statuses.{live}
use Rattle.ledger.specs.Layout.{u32, uti_size}
use Rattle.ledger.specs.Header.{rows_in_use, next_identifier}
use Rattle.ledger.specs.Rows.{row_at, status_of, holds_uti, place_in, place_of, is_known, swap_row, swap_status}
use Rattle.ledger.specs.Totals.{adds}
use Rattle.ledger.specs.RowList.{list_from, rows_of, count, count_of}
use Rattle.ledger.proofs.RowLaws.{holds_same}
use Rattle.ledger.proofs.RowFields.{after_status}
use Rattle.ledger.proofs.RowListLaws.{any_row, found_row, put, list_same, list_last, put_list, put_new, count_put, count_other, count_own}
use Rattle.ledger.proofs.RowsInUse.{length_rows, known_is, status_is}
use Rattle.submission.specs.Submission.{swap_of, line_due_in, terms_for, place_for, row_for, ledger_for}
use Rattle.submission.proofs.Acceptance.{HasPlace}
use Rattle.submission.proofs.Lookup.{known_holds, row_whole, length_shown, new_place, old_place, rows_raised, row_written, row_kept, new_row_holds, old_row_holds, new_row_at}

module _ {largest : ℕ} {l m : Bytes} {a : Action} (f : HasPlace largest l m a) (small : largest < 256 ^ u32) where
  pub none_found : is_new a ≡ true → any_row (holds_uti (swap_of m)) (rows_of l) ≡ false
  none_found e = sym (known_is l (swap_of m)) ∙ f.free e

  -- the row is put in the place of the swap's, or behind the rows where it had none
  pub rows_after_lem : rows_of (ledger_for a l m) ≡ put (holds_uti (swap_of m)) (row_for a l m) (rows_of l)
  unfolding rows_of is_known place_in
  rows_after_lem = ap (list_from (row_at (ledger_for a l m)) 0) (rows_raised f small) ∙ by (is_new a) refl
    where
      by : (b : Bool) → is_new a ≡ b → list_from (row_at (ledger_for a l m)) 0 (choose b (rows_in_use l + 1) (rows_in_use l)) ≡ put (holds_uti (swap_of m)) (row_for a l m) (rows_of l)
      by true e =
          let kept = list_same (row_at l) (row_at (ledger_for a l m)) 0 (rows_in_use l) (λ j g h. row_kept f small j (λ z. omega (arith, z, h, new_place f small e))) in
          rw (add-one, list_last (row_at (ledger_for a l m)) 0 (rows_in_use l), zero-add (rows_in_use l), new_row_at f small e, kept)
          (sym (put_new (holds_uti (swap_of m)) (rows_of l) (row_for a l m) (none_found e)))
      by false e =
          put_list (holds_uti (swap_of m)) (row_at l) (row_at (ledger_for a l m)) (row_for a l m) 0 (rows_in_use l) (omega (arith, ltb-true (place_of l (swap_of m)) (rows_in_use l) (f.known e)))
          (ap (row_at (ledger_for a l m)) (sym (old_place f small e)) ∙ row_written f small)
          (λ j z. row_kept f small j (λ y. z (y ∙ old_place f small e)))

  -- ---- the row that is put

  -- it holds the message's UTI and no other
  pub row_holds : (v : Bytes) → length v ≤ uti_size → holds_uti v (row_for a l m) ≡ same_bytes (swap_of m) v
  unfolding is_known
  row_holds v h = by (is_new a) refl
    where
      by : (b : Bool) → is_new a ≡ b → holds_uti v (row_for a l m) ≡ same_bytes (swap_of m) v
      by true e = same_test _ _ (λ g. rw ((new_row_holds f small e v).0 g) (same_refl v)) (λ g. (new_row_holds f small e v).1 (same_true _ _ g))
      by false e =
          old_row_holds f small e v h
          ∙ ap (λ k. holds_uti v (row_at l k)) (old_place f small e)
          ∙ holds_same (swap_of m) v (swap_row l (swap_of m)) (known_holds l (swap_of m) (ltb-true _ _ (f.known e)))

  pub row_status : status_of (row_for a l m) ≡ next_status a (swap_status l (swap_of m))
  unfolding row_for
  row_status = after_status a (line_due_in a l m) _ (swap_of m) (next_identifier l) (terms_for a l m) (row_at l (place_for a l m)) (length_shown f small) (row_whole f small (place_for a l m) f.place)

  -- ---- counts

  -- an unknown swap has status 0
  had : (s : ℕ) → live ≤ s → both (any_row (holds_uti (swap_of m)) (rows_of l)) (eqb (status_of (found_row (holds_uti (swap_of m)) (rows_of l))) s) ≡ eqb (swap_status l (swap_of m)) s
  unfolding swap_status
  had s h = rw (← known_is l (swap_of m), ← status_is l (swap_of m)) (by (is_known l (swap_of m)))
    where
      by : (b : Bool) → both b (eqb (choose b (status_of (swap_row l (swap_of m))) 0) s) ≡ eqb (choose b (status_of (swap_row l (swap_of m))) 0) s
      by true = refl
      by false = sym (ne_eqb 0 s (λ z. omega arith))

  -- the swap is no longer counted with the status that it had, and is counted with its next one
  pub moved : (s : ℕ) → live ≤ s → count_of s (rows_of (ledger_for a l m)) + adds (swap_status l (swap_of m)) s ≡ count_of s (rows_of l) + adds (next_status a (swap_status l (swap_of m))) s
  moved s h = rw (rows_after_lem, ← had s h, ← row_status) (count_put (holds_uti (swap_of m)) (λ r. eqb (status_of r) s) (rows_of l) (row_for a l m))

  pub rows_more : length (rows_of (ledger_for a l m)) ≡ choose (is_new a) 1 0 + length (rows_of l)
  rows_more = length_rows (ledger_for a l m) ∙ rows_raised f small ∙ by (is_new a)
    where
      by : (b : Bool) → choose b (rows_in_use l + 1) (rows_in_use l) ≡ choose b 1 0 + length (rows_of l)
      by true = omega (arith, length_rows l)
      by false = omega (arith, length_rows l)

  -- where one row at most held a UTI, one at most does
  pub still_one : (u : Bytes) → length u ≤ uti_size → count (holds_uti u) (rows_of l) ≤ 1 → count (holds_uti u) (rows_of (ledger_for a l m)) ≤ 1
  still_one u h one = rw rows_after_lem (by (same_bytes (swap_of m) u) refl)
    where
      by : (b : Bool) → same_bytes (swap_of m) u ≡ b → count (holds_uti u) (put (holds_uti (swap_of m)) (row_for a l m) (rows_of l)) ≤ 1
      by true e = rw (same_true (swap_of m) u e) (count_own (holds_uti u) (rows_of l) (row_for a l m) (row_holds u h ∙ e) one)
      by false e = omega (arith, count_other (holds_uti (swap_of m)) (holds_uti u) (rows_of l) (row_for a l m) (row_holds u h ∙ e))
