-- Totals and rows since opening. Assumes nothing.
use Prim.Native.Nat.{ℕ, ◌+◌, ◌^◌, ◌<◌, ◌≤◌}
use mathlib.Core.Path.{◌≡◌, sym, ap, ◌∙◌}
use mathlib.Core.List.{List, [], ◌∷◌}
use native.Mathlib.Nat.{zero-add}
use native.Mathlib.Omega.{arith}
use lib.ListN.{length}
use lib.Dec.{eqb, lit≤}
use Rattle.octets.specs.Bytes.{Bytes}
use Rattle.octets.specs.Choice.{choose, both}
use Rattle.actions.specs.Actions.{is_new}
use Rattle.actions.specs.Statuses.{live, closed, errored, ported}
use Rattle.rules.specs.Findings.{first_broken}
use Rattle.ledger.specs.declared.header.Caps.{Caps}
use Rattle.ledger.specs.Layout.{u32, uti_size}
use Rattle.ledger.specs.Totals.{total_in, totals_in}
use Rattle.ledger.specs.Header.{rows_in_use, RightHeader}
use Rattle.ledger.specs.Rows.{row_at, holds_uti}
use Rattle.ledger.specs.RowList.{rows_of, count, count_of}
use Rattle.ledger.proofs.RightHeader.{right_header, header_right_lem}
use Rattle.ledger.proofs.RowListLaws.{one_place}
use Rattle.ledger.proofs.RowsInUse.{length_rows}
use Rattle.submission.specs.Opening.{Limits, opened}
use Rattle.submission.specs.History.{Call, submit, ledger_after, ledger_after_all, has_action}
use Rattle.submission.specs.Demand3.{start}
use Rattle.submission.specs.Totals.{totals_rules, asked_totals}
use Rattle.submission.specs.SinceOpening.{opens_swap, new_swaps, TotalsCount, TotalsSum, RowsDiffer}
use Rattle.submission.proofs.Acceptance.{has_place}
use Rattle.submission.proofs.Lookup.{totals_moved}
use Rattle.submission.proofs.RowsAfter.{moved, rows_more, still_one}
use Rattle.submission.proofs.RightAfter.{right_after}
use Rattle.submission.proofs.Outcome.{by_outcome}
use Rattle.submission.proofs.Opened.{start_right, start_total, start_empty}
use Rattle.submission.proofs.Counting.{kept_by_calls}

module _ (limits : Limits) (small : limits.largest < 256 ^ u32) where
  -- ---- a call

  pub row_more : (l : Bytes) (c : Call) → length (rows_of (ledger_after limits l c)) ≡ choose (opens_swap limits l c) 1 0 + length (rows_of l)
  row_more l (submit m b) =
      by_outcome limits (record { ledger = l; buffers = b }) m (λ s. length (rows_of s.lent.ledger) ≡ choose (both (eqb s.verdict 0) (has_action is_new m)) 1 0 + length (rows_of l))
      (λ c. rw c.admitted.reads (rows_more (has_place c.admitted) small))
      (λ v z. rw z (omega arith))

  pub one_kept : (u : Bytes) → length u ≤ uti_size → (l : Bytes) (c : Call) → count (holds_uti u) (rows_of l) ≤ 1 → count (holds_uti u) (rows_of (ledger_after limits l c)) ≤ 1
  one_kept u h l (submit m b) one =
      by_outcome limits (record { ledger = l; buffers = b }) m (λ s. count (holds_uti u) (rows_of s.lent.ledger) ≤ 1)
      (λ c. still_one (has_place c.admitted) small u h one)
      (λ v z. one)

  -- ---- any calls

  pub rows_from : (cs : List Call) (l : Bytes) → length (rows_of (ledger_after_all limits l cs)) ≡ new_swaps limits l cs + length (rows_of l)
  unfolding ledger_after_all new_swaps
  rows_from [] l = omega arith
  rows_from (c ∷ cs) l = omega (arith, rows_from cs (ledger_after limits l c), row_more l c)

  pub one_row : (caps : Caps) (l : Bytes) (cs : List Call) → (opened limits caps l).verdict ≡ 0 → (u : Bytes) → length u ≤ uti_size → count (holds_uti u) (rows_of (ledger_after_all limits (start limits caps l) cs)) ≤ 1
  unfolding count
  one_row caps l cs v u h = kept_by_calls limits (λ d. count (holds_uti u) (rows_of d) ≤ 1) (one_kept u h) (start limits caps l) cs (rw (start_empty limits caps l v) (omega arith))

-- ---- the totals

-- a right header whose totals are a full count
record Counted (largest : ℕ) (l : Bytes) : Type 0 where
  right : RightHeader largest l
  totals : (s : ℕ) → live ≤ s → s ≤ ported → total_in s l ≡ count_of s (rows_of l)

module _ (limits : Limits) (small : limits.largest < 256 ^ u32) where
  counted_kept : (l : Bytes) (c : Call) → Counted limits.largest l → Counted limits.largest (ledger_after limits l c)
  counted_kept l (submit m b) h =
      by_outcome limits (record { ledger = l; buffers = b }) m (λ s. Counted limits.largest s.lent.ledger)
      (λ c.
      let f = has_place c.admitted in
      record {
        right = right_after f small c.spare;
        totals = λ s p q. omega (arith, totals_moved f small s p q, moved f small s p, h.totals s p q);
      })
      (λ v z. h)

  module _ (caps : Caps) (l : Bytes) (v : (opened limits caps l).verdict ≡ 0) where
    start_counted : Counted limits.largest (start limits caps l)
    unfolding count
    start_counted =
        record {
          right = right_header limits.largest (start limits caps l) (start_right limits caps l v small);
          totals = λ s p q. start_total limits caps l v s p q ∙ sym (ap (count_of s) (start_empty limits caps l v));
        }

    counted : (cs : List Call) → Counted limits.largest (ledger_after_all limits (start limits caps l) cs)
    counted cs = kept_by_calls limits (Counted limits.largest) counted_kept (start limits caps l) cs start_counted

pub totals_count : TotalsCount
unfolding asked_totals totals_rules first_broken totals_in
totals_count limits small caps l cs v =
    let h : Counted limits.largest (ledger_after_all limits (start limits caps l) cs) = counted limits small caps l v cs in
    rw (
      header_right_lem limits.largest (ledger_after_all limits (start limits caps l) cs) h.right,
      h.totals live (lit≤ tt) (lit≤ tt),
      h.totals closed (lit≤ tt) (lit≤ tt),
      h.totals errored (lit≤ tt) (lit≤ tt),
      h.totals ported (lit≤ tt) (lit≤ tt),
    )

pub totals_sum : TotalsSum
totals_sum limits small caps l cs v =
    let d : Bytes = ledger_after_all limits (start limits caps l) cs in
    (counted limits small caps l v cs).right.totals
    ∙ sym (length_rows d)
    ∙ omega (arith, rows_from limits small cs (start limits caps l), ap length (start_empty limits caps l v))

pub rows_differ : RowsDiffer
unfolding rows_of
rows_differ limits small caps l cs u i j v h b c p q =
    let d : Bytes = ledger_after_all limits (start limits caps l) cs in
    one_place (holds_uti u) (row_at d) (rows_in_use d) 0 i j (one_row limits small caps l cs v u h) b c (rw (zero-add i) p) (rw (zero-add j) q)
