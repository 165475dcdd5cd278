-- What the verdict 0 tells of ledger, tape buffer and message. Assumes nothing.
use Rattle.std.specs.Prelude.{Result, Err, Ok}
use Prim.Native.Nat.{ℕ, suc, ◌-◌, ◌<◌, ◌≤◌}
use mathlib.Core.Bool.{Bool, true, false, not, false≢true}
use mathlib.Core.Path.{◌≡◌, refl, sym, ap, ◌∙◌, subst}
use mathlib.Core.List.{[], ◌∷◌, ◌++◌}
use native.Mathlib.Omega.{arith}
use lib.ListN.{length}
use lib.Dec.{eqb, leb, ltb, lit≤}
use borrow.Author.Tests.{eqb-false, ne_eqb, leb-true, ltb-true, ltb-false}
use Rattle.octets.specs.Bytes.{Bytes}
use Rattle.octets.specs.Choice.{choose, both}
use Rattle.octets.proofs.ChoiceLaws.{both_first, both_second, both_false, not_not}
use Rattle.values.specs.Limits.{uti_least, uti_most}
use Rattle.values.specs.Run.{within, run_of}
use Rattle.actions.specs.declared.Action.{Action}
use Rattle.actions.specs.Actions.{is_new, next_status}
use Rattle.actions.specs.Statuses.{live, ported, unknown, no_step}
use Rattle.actions.proofs.TableLaws.{step_to}
use Rattle.actions.proofs.KindLaws.{old_unknown, new_unknown}
use Rattle.elements.specs.Codes.{uti}
use Rattle.message.specs.Values.{is_there}
use Rattle.elements.specs.Forms.{has_form}
use Rattle.elements.specs.Messages.{needs as is-needed}
use Rattle.elements.specs.Table.{element_of}
use Rattle.rules.specs.Rules.{Needed, Formed}
use Rattle.rules.specs.Verdicts.{layout_wrong, action_wrong, element_missing, form_broken}
use Rattle.rules.specs.Findings.{passed, broken, test, first_broken, finding_of, from_rule, before_rule, AllPassed}
use Rattle.rules.specs.Rules.{rules_for, rules_of, at_fault}
use Rattle.rules.proofs.FindingLaws.{not_broken, unused, distinct, all_passed, is_passed, none_broken, passed_before, passed_from, passed_front, passed_then, lowest_passed}
use Rattle.ledger.specs.Layout.{uti_size, line_size}
use Rattle.ledger.specs.Totals.{total_in, totals_in, total_of}
use Rattle.ledger.specs.Header.{rows_in_use, next_identifier, capacity_in, header_right, RightHeader, header_of}
use Rattle.ledger.specs.Rows.{place_of, is_known, swap_status, swap_identifier, swap_time, swap_in}
use Rattle.ledger.proofs.TotalsLaws.{total_of_lem}
use Rattle.ledger.proofs.RightHeader.{right_header}
use Rattle.submission.specs.Verdicts.{ledger_wrong, tape_short, row_wrong, not_admitted, other_time, ledger_full, identifiers_spent}
use Rattle.submission.specs.Opening.{Limits}
use Rattle.submission.specs.Lent.{Lent}
use Rattle.submission.specs.Submission.{swap_of, action_in, line_due_in, row_right, has_wrong_row, is_not_admitted, has_other_time, finds_full, finds_spent, identifier_rule, swap_rules, rules_in, submission_rules, rules_on, admitting_rules, verdict_on, place_for, accepted, refused, concluded, submitted}

-- ---- the rules

module _ (limits : Limits) (lent : Lent) (m : Bytes) where
  -- no two rules have the same number, and none has 0
  pub numbers_differ : (r : Result Action ℕ) → distinct (submission_rules limits r lent m) ≡ true
  unfolding submission_rules rules_for rules_of swap_rules unused distinct
  numbers_differ (Err code) = refl
  numbers_differ (Ok a) = refl

  admitting_differ : (r : Result Action ℕ) → distinct (admitting_rules limits r lent m) ≡ true
  unfolding submission_rules rules_for rules_of swap_rules unused distinct before_rule
  admitting_differ (Err code) = refl
  admitting_differ (Ok a) = refl

  -- a message that every rule but 18 admits has an action
  pub record Admitted : Type 0 where
    pub action : Action
    pub reads : action_in m ≡ Ok action
    pub passes : AllPassed (admitting_rules limits (Ok action) lent m)

  pub as_admitted : (first_broken (admitting_rules limits (action_in m) lent m)).0 ≡ 0 → Admitted
  unfolding submission_rules rules_for finding_of before_rule
  as_admitted v = by (action_in m) refl
    where
      passing : (r : Result Action ℕ) → action_in m ≡ r → AllPassed (admitting_rules limits r lent m)
      passing r e = all_passed (admitting_rules limits r lent m) (admitting_differ r) (ap (λ r. (first_broken (admitting_rules limits r lent m)).0) (sym e) ∙ v)

      by : (r : Result Action ℕ) → action_in m ≡ r → Admitted
      by (Err code) e =
          let p : broken code ≡ passed = is_passed action_wrong (admitting_rules limits (Err code) lent m) (passing (Err code) e) in
          let z : ◌≡◌ {A = ℕ} 0 1 = cc in
          absurd (omega arith)
      by (Ok a) e = record { action = a; reads = e; passes = passing (Ok a) e }

  -- where it has an identifier for its line too, it is accepted
  pub record Accepted : Type 0 where
    pub admitted : Admitted
    pub spare : finds_spent (line_due_in admitted.action lent.ledger m) (next_identifier lent.ledger) ≡ false

  -- 18 stands behind the other rules
  pub eighteen_last : (a : Action) → submission_rules limits (Ok a) lent m ≡ admitting_rules limits (Ok a) lent m ++ (identifier_rule a lent.ledger m ∷ [])
  unfolding submission_rules rules_for rules_of swap_rules before_rule
  eighteen_last a = refl

  is_spare : (a : Action) → AllPassed (submission_rules limits (Ok a) lent m) → finds_spent (line_due_in a lent.ledger m) (next_identifier lent.ledger) ≡ false
  unfolding submission_rules rules_for rules_of swap_rules finding_of
  is_spare a all = not_broken _ (is_passed identifiers_spent (submission_rules limits (Ok a) lent m) all)

  pub as_accepted : (verdict_on limits lent m).0 ≡ 0 → Accepted
  unfolding verdict_on
  as_accepted v =
      let all : AllPassed (rules_on limits lent m) = all_passed (rules_on limits lent m) (numbers_differ (action_in m)) v in
      let c : Admitted = as_admitted (ap (λ x. x.0) (none_broken (admitting_rules limits (action_in m) lent m) (passed_before identifiers_spent (rules_on limits lent m) all))) in
      record { admitted = c; spare = is_spare c.action (subst (λ r. AllPassed (submission_rules limits r lent m)) c.reads all) }

  -- the first rule broken where every rule but 18 admits the message: 18 or none
  pub left_to_18 : (c : Admitted) → verdict_on limits lent m ≡ choose (finds_spent (line_due_in c.action lent.ledger m) (next_identifier lent.ledger)) (identifiers_spent, 0) (0, 0)
  unfolding verdict_on first_broken
  left_to_18 c =
      ap (λ r. first_broken (submission_rules limits r lent m)) c.reads
      ∙ ap first_broken (eighteen_last c.action)
      ∙ passed_then (admitting_rules limits (Ok c.action) lent m) (identifier_rule c.action lent.ledger m ∷ []) c.passes
      ∙ by (finds_spent (line_due_in c.action lent.ledger m) (next_identifier lent.ledger))
    where
      by : (b : Bool) → first_broken (test identifiers_spent b ∷ []) ≡ choose b (identifiers_spent, 0) (0, 0)
      by true = refl
      by false = refl

-- ---- what the rules that an accepted message passes say

-- an action other than NEWT is admitted only for a known swap
pub step_known : (l u : Bytes) (a : Action) → eqb (next_status a (swap_status l u)) no_step ≡ false → is_new a ≡ false → is_known l u ≡ true
unfolding swap_status
step_known l u a admitted old = by (is_known l u) refl
  where
    by : (b : Bool) → is_known l u ≡ b → is_known l u ≡ true
    by true k = k
    by false k =
        let none : swap_status l u ≡ unknown = rw k in
        let step : next_status a (swap_status l u) ≡ no_step = ap (next_status a) none ∙ old_unknown a old in
        absurd (false≢true (sym admitted ∙ ap (λ s. eqb s no_step) step))

-- a value of the form of a UTI
uti_long : (v : Bytes) → has_form uti v ≡ true → length v ≤ uti_size
unfolding has_form element_of run_of
uti_long v e =
    let least : Bool = leb uti_least (length v) in
    let most : Bool = leb (length v) uti_most in
    leb-true (length v) uti_most (both_first most _ (both_second least (both most _) e))

-- the message's swap has a place in the ledger
pub record HasPlace (largest : ℕ) (l m : Bytes) (a : Action) : Type 0 where
  pub header : RightHeader largest l
  pub uti : length (swap_of m) ≤ uti_size
  -- NEWT finds no row, any other action finds its swap's
  pub free : is_new a ≡ true → is_known l (swap_of m) ≡ false
  pub known : is_new a ≡ false → is_known l (swap_of m) ≡ true
  -- the row lies within the capacity
  pub place : place_for a l m < capacity_in l
  -- a swap that has a row is counted with its status; the step leads to one of the four
  pub status : is_new a ≡ false → (live ≤ swap_status l (swap_of m)) × (swap_status l (swap_of m) ≤ ported)
  pub counted : is_new a ≡ false → 0 < total_in (swap_status l (swap_of m)) l
  pub step : (live ≤ next_status a (swap_status l (swap_of m))) × (next_status a (swap_status l (swap_of m)) ≤ ported)

module _ {limits : Limits} {lent : Lent} {m : Bytes} (c : Admitted limits lent m) where
  abbrev l : Bytes
  l = lent.ledger

  abbrev a : Action
  a = c.action

  -- the rule with number n
  rule_passed : (n : ℕ) → finding_of n (admitting_rules limits (Ok a) lent m) ≡ passed
  rule_passed n = is_passed n (admitting_rules limits (Ok a) lent m) c.passes

  pub header_test : header_right limits.largest l ≡ true
  unfolding submission_rules rules_for rules_of swap_rules finding_of before_rule
  header_test = not_not _ (not_broken _ (rule_passed ledger_wrong))

  pub tape_test : ltb (length lent.buffers.tape) line_size ≡ false
  unfolding submission_rules rules_for rules_of swap_rules finding_of before_rule
  tape_test = not_broken _ (rule_passed tape_short)

  pub row_test : has_wrong_row (header_of l) (swap_in l (swap_of m)) ≡ false
  unfolding submission_rules rules_for rules_of swap_rules finding_of before_rule
  row_test = not_broken _ (rule_passed row_wrong)

  pub status_test : eqb (next_status a (swap_status l (swap_of m))) no_step ≡ false
  unfolding submission_rules rules_for rules_of swap_rules finding_of before_rule is_not_admitted
  status_test = not_broken _ (rule_passed not_admitted)

  pub time_test : has_other_time a (swap_time l (swap_of m)) m ≡ false
  unfolding submission_rules rules_for rules_of swap_rules finding_of before_rule
  time_test = not_broken _ (rule_passed other_time)

  -- the rules of the message alone
  pub message_passes : AllPassed (rules_for (Ok a) limits.longest m)
  unfolding submission_rules rules_for rules_of swap_rules from_rule before_rule
  message_passes = passed_front (rules_for (Ok a) limits.longest m) (rules_in a l m) (passed_from layout_wrong (admitting_rules limits (Ok a) lent m) c.passes)

  pub room_test : both (is_new a) (eqb (rows_in_use l) (capacity_in l)) ≡ false
  unfolding submission_rules rules_for rules_of swap_rules finding_of before_rule finds_full header_of
  room_test = not_broken _ (rule_passed ledger_full)

  there : is_there uti m ≡ true
  unfolding submission_rules rules_for rules_of swap_rules finding_of before_rule is-needed element_of
  there = not_not _ (lowest_passed (at_fault Needed a m) (rule_passed element_missing) uti (lit≤ tt) (lit≤ tt))

  formed : has_form uti (swap_of m) ≡ true
  unfolding submission_rules rules_for rules_of swap_rules finding_of before_rule
  formed =
      let f : both (is_there uti m) (not (has_form uti (swap_of m))) ≡ false = lowest_passed (at_fault Formed a m) (rule_passed form_broken) uti (lit≤ tt) (lit≤ tt) in
      not_not _ (both_false (is_there uti m) (not (has_form uti (swap_of m))) f there)

  pub row_right_lem : is_known l (swap_of m) ≡ true → row_right (header_of l) (swap_in l (swap_of m)) ≡ true
  unfolding has_wrong_row
  row_right_lem k = not_not _ (both_false (is_known l (swap_of m)) _ row_test k)

  -- the status of a known swap is one of the four, and its total counts it
  known_status : is_known l (swap_of m) ≡ true → (live ≤ swap_status l (swap_of m)) × (swap_status l (swap_of m) ≤ ported)
  unfolding row_right
  known_status k =
      let status : ℕ = swap_status l (swap_of m) in
      let range : within live ported status ≡ true = both_first (within live ported status) _ (row_right_lem k) in
      (leb-true live status (both_first (leb live status) (leb status ported) range), leb-true status ported (both_second (leb live status) (leb status ported) range))

  known_counted : is_known l (swap_of m) ≡ true → 0 < total_in (swap_status l (swap_of m)) l
  unfolding row_right header_of
  known_counted k =
      let s : ℕ = swap_status l (swap_of m) in
      let given : Bool = within 1 (next_identifier l - 1) (swap_identifier l (swap_of m)) in
      let some : leb 1 (total_of (totals_in l) s) ≡ true = both_second given _ (both_second (within live ported s) (both given (leb 1 (total_of (totals_in l) s))) (row_right_lem k)) in
      omega (arith, leb-true 1 (total_of (totals_in l) s) some, total_of_lem l s (known_status k).0 (known_status k).1)

  is_free : (b : Bool) → is_known l (swap_of m) ≡ b → is_new a ≡ true → is_known l (swap_of m) ≡ false
  is_free false k e = k
  is_free true k e = absurd (omega (arith, new_unknown a _ e status_test, (known_status k).0))

  place_fits : (b : Bool) → is_new a ≡ b → rows_in_use l ≤ capacity_in l → place_for a l m < capacity_in l
  unfolding place_for is_known
  place_fits true e h =
      let differ : eqb (rows_in_use l) (capacity_in l) ≡ false = both_false (is_new a) _ room_test e in
      rw e (omega (arith, eqb-false (rows_in_use l) (capacity_in l) differ))
  place_fits false e h = rw e (omega (arith, ltb-true (place_of l (swap_of m)) (rows_in_use l) (step_known l (swap_of m) a status_test e)))

  pub has_place : HasPlace limits.largest l m a
  has_place =
      let h : RightHeader limits.largest l = right_header limits.largest l header_test in
      record {
        header = h;
        uti = uti_long (swap_of m) formed;
        free = is_free (is_known l (swap_of m)) refl;
        known = step_known l (swap_of m) a status_test;
        place = place_fits (is_new a) refl h.rows;
        status = λ e. known_status (step_known l (swap_of m) a status_test e);
        counted = λ e. known_counted (step_known l (swap_of m) a status_test e);
        step = step_to a (swap_status l (swap_of m)) status_test;
      }

-- ---- what a submission then is

pub tape_room : {limits : Limits} {lent : Lent} {m : Bytes} → Admitted limits lent m → line_size ≤ length lent.buffers.tape
tape_room c = ltb-false _ _ (tape_test c)

module _ {limits : Limits} {lent : Lent} {m : Bytes} where
  pub verdict_0 : Accepted limits lent m → verdict_on limits lent m ≡ (0, 0)
  verdict_0 c = left_to_18 limits lent m c.admitted ∙ rw c.spare

  pub accepted_answer : (c : Accepted limits lent m) → submitted limits lent m ≡ accepted c.admitted.action lent m
  unfolding submitted
  accepted_answer c = rw (c.admitted.reads, verdict_0 c)

module _ (limits : Limits) (lent : Lent) (m : Bytes) where
  pub is_refused : (n : ℕ) → (verdict_on limits lent m).0 ≡ suc n → submitted limits lent m ≡ refused (verdict_on limits lent m) lent
  unfolding submitted
  is_refused n v = by (action_in m)
    where
      by : (r : Result Action ℕ) → concluded (verdict_on limits lent m) r lent m ≡ refused (verdict_on limits lent m) lent
      by (Err code) = refl
      by (Ok a) = rw (ne_eqb (verdict_on limits lent m).0 0 (λ e. omega (arith, e, v)))
