-- A ledger that opening answered with 0. Assumes nothing.
use Prim.Native.Nat.{ℕ, ◌^◌, ◌<◌, ◌≤◌}
use mathlib.Core.Bool.{true}
use mathlib.Core.Path.{◌≡◌, refl, ap, ◌∙◌}
use mathlib.Core.List.{[]}
use native.Mathlib.Omega.{arith}
use lib.ListN.{length}
use borrow.Author.Tests.{ltb-true, ltb-false, eq-eqb}
use Rattle.octets.specs.Bytes.{Bytes}
use Rattle.octets.specs.Part.{splice}
use Rattle.octets.proofs.ChoiceLaws.{not_not}
use Rattle.actions.specs.Statuses.{live, ported}
use Rattle.rules.specs.Findings.{finding_of, AllPassed}
use Rattle.rules.proofs.FindingLaws.{not_broken, unused, distinct, all_passed, is_passed}
use Rattle.ledger.specs.declared.header.Caps.{Caps}
use Rattle.ledger.specs.Layout.{u32, rows_at, header_size, shortest_ledger}
use Rattle.ledger.specs.Totals.{total_in}
use Rattle.ledger.specs.Header.{rows_in_use, next_identifier, caps_in, are_caps, capacity_for, header_right, new_header}
use Rattle.ledger.specs.Rows.{place_of, is_known}
use Rattle.ledger.specs.RowList.{list_from, rows_of}
use Rattle.ledger.proofs.NewHeader as header
use Rattle.submission.specs.Verdicts.{ledger_short, cap_wrong}
use Rattle.submission.specs.Opening.{Limits, opening_rules, opening_verdict, opened}
use Rattle.submission.specs.Demand3.{start}
use Rattle.submission.proofs.PublishedTape.{LedgerAgrees}

opening_differ : (caps : Caps) (l : Bytes) → distinct (opening_rules caps l) ≡ true
unfolding opening_rules unused distinct
opening_differ caps l = refl

module _ (limits : Limits) (caps : Caps) (l : Bytes) (v : (opened limits caps l).verdict ≡ 0) where
  passes : AllPassed (opening_rules caps l)
  unfolding opened opening_verdict
  passes = all_passed (opening_rules caps l) (opening_differ caps l) v

  pub long_enough : shortest_ledger ≤ length l
  unfolding opening_rules finding_of
  long_enough = ltb-false _ _ (not_broken _ (is_passed ledger_short (opening_rules caps l) passes))

  pub caps_right : are_caps caps ≡ true
  unfolding opening_rules finding_of
  caps_right = not_not _ (not_broken _ (is_passed cap_wrong (opening_rules caps l) passes))

  room : header_size ≤ length l
  room = omega (arith, long_enough)

  -- the header is written, and no other byte
  pub start_is : start limits caps l ≡ splice l rows_at (new_header caps (capacity_for limits.largest (length l)))
  unfolding opened
  start_is = rw (eq-eqb _ 0 v)

  pub start_rows : rows_in_use (start limits caps l) ≡ 0
  start_rows = ap rows_in_use start_is ∙ header.opened_rows caps _ l room

  pub start_empty : rows_of (start limits caps l) ≡ []
  unfolding rows_of list_from
  start_empty = rw start_rows

  pub start_next : next_identifier (start limits caps l) ≡ 1
  start_next = ap next_identifier start_is ∙ header.opened_next caps _ l room

  pub start_caps : caps_in (start limits caps l) ≡ caps
  start_caps = ap caps_in start_is ∙ header.opened_caps caps _ l room caps_right

  pub start_total : (s : ℕ) → live ≤ s → s ≤ ported → total_in s (start limits caps l) ≡ 0
  start_total s p q = ap (total_in s) start_is ∙ header.opened_total caps _ l room s p q

  -- it passes the check of the header: no history starts with verdict 3
  pub start_right : limits.largest < 256 ^ u32 → header_right limits.largest (start limits caps l) ≡ true
  start_right small = ap (header_right limits.largest) start_is ∙ header.opened_right limits.largest caps l small long_enough caps_right

  nothing_known : (u : Bytes) → is_known (start limits caps l) u ≡ true → ⊥
  unfolding is_known
  nothing_known u e = omega (arith, ltb-true (place_of (start limits caps l) u) (rows_in_use (start limits caps l)) e, start_rows)

  -- it holds what no message has said
  pub start_agrees : LedgerAgrees caps (start limits caps l) []
  start_agrees =
      record {
        caps_are = start_caps;
        next_is = start_next;
        identifiers = λ u h e. absurd (nothing_known u e);
        terms = λ u h e. absurd (nothing_known u e);
      }
