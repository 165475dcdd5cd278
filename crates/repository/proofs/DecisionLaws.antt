-- The decision where it stops, and what is left where the message has been judged. Assumes nothing.
use Rattle.std.specs.Prelude.{Option, Some, None, ok_or, Result, Err, Ok}
use Prim.Native.Nat.{ℕ, ◌<◌, ◌≤◌}
use mathlib.Core.Bool.{Bool, true, false, not}
use mathlib.Core.Path.{◌≡◌, refl, sym, ap, ◌∙◌, subst}
use mathlib.Core.List.{List, [], ◌∷◌, ◌++◌}
use native.Mathlib.Omega.{arith}
use lib.ListN.{length}
use lib.Dec.{eqb}
use borrow.Author.Tests.{eqb-true, eqb-false, lt-ltb, le-ltb}
use Rattle.octets.specs.Bytes.{Bytes}
use Rattle.octets.specs.Choice.{choose}
use Rattle.actions.specs.declared.Action.{Action}
use Rattle.actions.specs.Actions.{is_full}
use Rattle.rules.specs.Verdicts.{layout_wrong}
use Rattle.rules.specs.Findings.{broken, broken_if, Rule, test, first_broken, finding_of, from_rule, before_rule}
use Rattle.rules.specs.Rules as rules
use Rattle.rules.specs.Rules.{rules_for, rules_of, verdict, conclude}
use Rattle.rules.proofs.FindingLaws.{stops_at, all_passed, passed_then, broken_then}
use Rattle.rules.proofs.VerdictLaws.{differ}
use Rattle.ledger.specs.Layout.{row_start, line_size}
use Rattle.ledger.specs.declared.header.Header.{Header}
use Rattle.ledger.specs.declared.search.Swap.{Swap}
use Rattle.ledger.specs.Header.{rows_in_use, header_right, header_of, checked_header}
use Rattle.ledger.specs.Rows.{row_at, stored_time, swap_time, swap_in}
use Rattle.ledger.proofs.RightHeader.{header_checked, used_fit}
use Rattle.submission.specs.Verdicts.{ledger_wrong, tape_short, row_wrong, not_admitted, other_time, ledger_full, identifiers_spent}
use Rattle.submission.specs.Opening.{Limits}
use Rattle.submission.specs.Lent.{Lent}
use Rattle.submission.specs.Submission.{swap_of, action_in, has_wrong_row, is_not_admitted, has_other_time, finds_full, cap_on, swap_rules, rules_in, after_rules, submission_rules, admitting_rules}
use Rattle.repository.specs.declared.verdicts.Refusal.{Refusal}
use Rattle.repository.specs.declared.verdicts.Refusal.TheVariants.{LedgerWrong}
use Rattle.repository.specs.Decision.{Shown, admission_for, decided, decided_on, decision, decision_from, decided_from, decision_in, HeaderRead}

refuses : (n e : ℕ) (r : Result Action ℕ) (l m : Bytes) → eqb n 0 ≡ false → decided_on (n, e) r l m ≡ Err (n, e)
refuses n e (Err code) l m h = refl
refuses n e (Ok a) l m h = rw h

-- what is left where a message has been judged: nothing where it is refused, the rules after its own where it is not
abbrev pub Left : Bytes → Bytes → Result Shown (ℕ × ℕ) → Result Action (ℕ × ℕ) → Type 0
Left l m d (Err v) = d ≡ Err v
Left l m d (Ok a) = d ≡ decision_in a l m

module _ (longest : ℕ) (l m : Bytes) where
  module _ (a : Action) where
    abbrev rs : List Rule
    rs = rules_for (Ok a) longest m

    left_with : (b : Bool) → eqb (first_broken rs).0 0 ≡ b → Left l m (decided_on (first_broken (rs ++ rules_in a l m)) (Ok a) l m) (choose b (Ok a) (Err (first_broken rs)))
    unfolding decision_in
    left_with true h = ap (λ v. decided_on v (Ok a) l m) (passed_then rs (rules_in a l m) (all_passed rs (differ (Ok a) longest m) (eqb-true _ _ h)))
    left_with false h = rw (broken_then rs (rules_in a l m) (eqb-false _ _ h), h)

  left_by_lem : (r : Result Action ℕ) → Left l m (decided_on (first_broken (before_rule identifiers_spent (rules_for r longest m ++ after_rules r l m))) r l m) (conclude (first_broken (rules_for r longest m)) r)
  unfolding rules_for rules_of swap_rules before_rule
  left_by_lem (Err code) = refl
  left_by_lem (Ok a) = left_with a (eqb (first_broken (rs a)).0 0) refl

-- a test that stops the decision
pub test_stops : (n : ℕ) (limits : Limits) (lent : Lent) (m : Bytes) → eqb n 0 ≡ false → finding_of n (admitting_rules limits (action_in m) lent m) ≡ broken 0 → Err (n, 0) ≡ decision_from n limits lent m
unfolding decision_from
test_stops n limits lent m some f = sym (ap (λ v. decided_on v (action_in m) lent.ledger m) (stops_at n 0 (admitting_rules limits (action_in m) lent m) f) ∙ refuses n 0 (action_in m) lent.ledger m some)

module _ (limits : Limits) (lent : Lent) (m : Bytes) where
  -- 3 is the first rule
  pub from_first : decision_from ledger_wrong limits lent m ≡ decision limits lent m
  unfolding decision decision_from submission_rules from_rule before_rule
  from_first = refl

  pub ledger_refuses : header_right limits.largest lent.ledger ≡ false → Err (ledger_wrong, 0) ≡ decision limits lent m
  unfolding submission_rules finding_of before_rule
  ledger_refuses wrong = test_stops ledger_wrong limits lent m refl (ap (λ b. broken_if (not b)) wrong) ∙ from_first

  -- then 4
  from_tape : header_right limits.largest lent.ledger ≡ true → decision_from tape_short limits lent m ≡ decision limits lent m
  unfolding submission_rules decision_from from_rule before_rule first_broken
  from_tape right =
      let same : decision_from tape_short limits lent m ≡ decision_from ledger_wrong limits lent m = rw right in
      same ∙ from_first

  pub tape_refuses : header_right limits.largest lent.ledger ≡ true → length lent.buffers.tape < line_size → Err (tape_short, 0) ≡ decision limits lent m
  unfolding submission_rules finding_of before_rule
  tape_refuses right short = test_stops tape_short limits lent m refl (ap broken_if (lt-ltb _ _ short)) ∙ from_tape right

  -- then the rules of the message alone
  from_message : header_right limits.largest lent.ledger ≡ true → line_size ≤ length lent.buffers.tape → decision_from layout_wrong limits lent m ≡ decision limits lent m
  unfolding submission_rules decision_from rules_for from_rule before_rule first_broken
  from_message right long =
      let same : decision_from layout_wrong limits lent m ≡ decision_from tape_short limits lent m = rw (le-ltb _ _ long) in
      same ∙ from_tape right

  pub message_left : (j : Result Action (ℕ × ℕ)) → rules.judged limits.longest m ≡ j → Left lent.ledger m (decision_from layout_wrong limits lent m) j
  unfolding rules.judged verdict decision_from submission_rules rules_for from_rule before_rule
  message_left j e = subst (Left lent.ledger m (decision_from layout_wrong limits lent m)) e (left_by_lem limits.longest lent.ledger m (action_in m))

  pub judged_left : header_right limits.largest lent.ledger ≡ true → line_size ≤ length lent.buffers.tape → (j : Result Action (ℕ × ℕ)) → rules.judged limits.longest m ≡ j → Left lent.ledger m (decision limits lent m) j
  judged_left right long j e = subst (λ d. Left lent.ledger m d j) (from_message right long) (message_left j e)

-- rules 14 to 17 with what was read of a ledger
pub decision_is : (a : Action) (l m : Bytes) (h : Header) (s : Swap) (time : Bytes) (cap : ℕ) → h ≡ header_of l → s ≡ swap_in l (swap_of m) → time ≡ choose s.known (stored_time (row_at l s.place)) []
    → cap ≡ choose (is_full a) (cap_on h.caps m) 0 → decided_from row_wrong h s time m (admission_for a h s cap) ≡ decision_in a l m
unfolding decision_in decided_from swap_rules from_rule swap_time header_of
decision_is a l m h s time cap e g t c = rw (t, c, e, g)

-- rules 14 to 17, one by one
one_by_one : (h : Header) (w : Swap) (time m : Bytes) (s : Shown)
    → choose (has_wrong_row h w) (Err (row_wrong, 0)) (choose (is_not_admitted s.action w) (Err (not_admitted, 0)) (choose (has_other_time s.action time m) (Err (other_time, 0)) (choose (finds_full s.action h) (Err (ledger_full, 0)) (Ok s))))
    ≡ decided_from row_wrong h w time m s
unfolding decided_from swap_rules from_rule first_broken
one_by_one h w time m s = by (has_wrong_row h w) (is_not_admitted s.action w) (has_other_time s.action time m) (finds_full s.action h)
  where
    by : (b n t f : Bool)
        → choose b (Err (row_wrong, 0)) (choose n (Err (not_admitted, 0)) (choose t (Err (other_time, 0)) (choose f (Err (ledger_full, 0)) (Ok s))))
        ≡ decided (first_broken (test row_wrong b ∷ test not_admitted n ∷ test other_time t ∷ test ledger_full f ∷ [])) s
    by true n t f = refl
    by false true t f = refl
    by false false true f = refl
    by false false false true = refl
    by false false false false = refl

-- and with what was read of a ledger
pub by_rules : (a : Action) (l m : Bytes) (h : Header) (u : Bytes) (s : Swap) (time : Bytes) (cap : ℕ) → h ≡ header_of l → u ≡ swap_of m → s ≡ swap_in l u
    → time ≡ choose s.known (stored_time (row_at l s.place)) [] → cap ≡ choose (is_full a) (cap_on h.caps m) 0
    → choose (has_wrong_row h s) (Err (row_wrong, 0)) (choose (is_not_admitted a s) (Err (not_admitted, 0)) (choose (has_other_time a time m) (Err (other_time, 0)) (choose (finds_full a h) (Err (ledger_full, 0)) (Ok (admission_for a h s cap)))))
    ≡ decision_in a l m
unfolding decision_in decided_from swap_rules from_rule swap_time header_of
by_rules a l m h u s time cap e i g t c = one_by_one h s time m (admission_for a h s cap) ∙ rw (t, c, e, g, i)

-- rows in use, as a header that was read has them
pub rows_read : (l : Bytes) (h : Header) → HeaderRead h l → (h.rows ≡ rows_in_use l) × (row_start (rows_in_use l) ≤ length l)
unfolding header_of
rows_read l h r =
    let rows : h.rows ≡ rows_in_use l = ap (λ (x : Header). x.rows) r.0 in
    (rows, omega (arith, rows, r.1))

-- rule 14 with what was read
pub wrong_read : (l u : Bytes) (h : Header) (s : Swap) (b : Bool) → h ≡ header_of l → s ≡ swap_in l u → b ≡ has_wrong_row h s → has_wrong_row (header_of l) (swap_in l u) ≡ b
wrong_read l u h s b e g w = sym (w ∙ rw (e, g))

-- ---- what a `?` behind the reading of a header knows

pub right_header_read : (largest : ℕ) (l : Bytes) (o : Option Header) (r : Result Header Refusal) (h : Header) → o ≡ checked_header largest l → r ≡ ok_or o LedgerWrong → r ≡ Ok h
    → (header_right largest l ≡ true) × HeaderRead h l
right_header_read largest l None r h e g f = let z : Err LedgerWrong ≡ Ok h = sym g ∙ f in cc
right_header_read largest l (Some x) r h e g f =
    let same : x ≡ h = cc in
    let right = header_checked largest l (Some x) (sym e) in
    (right.0, (sym same ∙ right.1, used_fit largest l h right.0 (sym same ∙ right.1)))

pub wrong_header_read : (largest : ℕ) (l : Bytes) (o : Option Header) (r : Result Header Refusal) (e : Refusal) → o ≡ checked_header largest l → r ≡ ok_or o LedgerWrong → r ≡ Err e
    → (header_right largest l ≡ false) × (e ≡ LedgerWrong)
wrong_header_read largest l None r d e g f = (header_checked largest l None (sym e), cc)
wrong_header_read largest l (Some x) r d e g f = let z : Ok x ≡ Err d = sym g ∙ f in cc
