-- Demand 1. Assumes nothing.
use Rattle.std.specs.Prelude.{Result, Err, Ok}
use Prim.Native.Nat.{ℕ, zero, suc}
use mathlib.Core.Bool.{Bool, true, false, not}
use mathlib.Core.Path.{◌≡◌, refl, sym, ap, ◌∙◌}
use mathlib.Core.List.{List, [], ◌∷◌}
use native.Mathlib.Omega.{arith}
use lib.ListN.{length}
use lib.Dec.{eqb, ltb, lit<}
use borrow.Author.Tests.{ne_eqb}
use Rattle.octets.specs.Bytes.{Bytes}
use Rattle.octets.specs.Choice.{choose}
use Rattle.octets.specs.Part.{splice}
use Rattle.message.specs.Values.{value}
use Rattle.actions.specs.declared.Action.{Action}
use Rattle.actions.specs.Actions.{action_type}
use Rattle.elements.specs.Codes.{uti}
use Rattle.elements.specs.Forms.{has_form}
use Rattle.rules.specs.Rules.{Check, Needed, Taken, Formed, Due}
use Rattle.rules.specs.Verdicts.{action_wrong, form_broken}
use Rattle.rules.specs.Findings.{passed, broken, lowest, Rule, test, naming, first_broken, finding_of, is_one_of}
use Rattle.rules.specs.Rules.{finding, at_fault, rules_for, rules_of, number_of}
use Rattle.rules.proofs.FindingLaws.{unused, not_verdict, numbered, has_number, named_by, names_none, broken_first, lowest_broken}
use Rattle.rules.proofs.VerdictLaws.{naming_numbers, action_at_fault}
use Rattle.ledger.specs.Layout.{shortest_ledger}
use Rattle.ledger.specs.Header.{are_caps, capacity_for, header_right, header_of, new_header}
use Rattle.ledger.specs.Rows.{swap_in}
use Rattle.submission.specs.Verdicts.{ledger_short, cap_wrong, ledger_wrong, row_wrong, opening_numbers, submission_numbers, totals_numbers}
use Rattle.submission.specs.Opening.{Limits, opening_rules, opening_verdict, opened}
use Rattle.submission.specs.Lent.{Lent}
use Rattle.submission.specs.Submission.{action_in, has_wrong_row, swap_rules, submission_rules, rules_on, verdict_on, Submitted, submitted}
use Rattle.submission.specs.Status.{status_rules, answered, asked}
use Rattle.submission.specs.Totals.{no_totals, totals_beside, totals_rules, asked_totals}
use Rattle.submission.specs.Demand1.{NamesLowest, Names, Refusal, SubmissionAnswers, OpeningAnswers, Question, QuestionAnswers, TotalsAnswers}
use Rattle.submission.proofs.Acceptance.{numbers_differ, accepted_answer}
use Rattle.submission.proofs.Outcome.{when_refused, when_accepted, verdict_is}

module _ (limits : Limits) (lent : Lent) (m : Bytes) where
  -- the first rule broken, and what the submission answers
  abbrev found : ℕ × ℕ
  found = verdict_on limits lent m

  abbrev answer : Submitted
  answer = submitted limits lent m

  abbrev rules : Result Action ℕ → List Rule
  rules r = submission_rules limits r lent m

  -- each rule's number is one of a submission's, and only 6, 7, 8, 9 and 11 name an element
  all_numbered : (r : Result Action ℕ) → numbered submission_numbers (rules r) ≡ true
  unfolding submission_rules rules_for rules_of swap_rules numbered is_one_of
  all_numbered (Err code) = refl
  all_numbered (Ok a) = refl

  all_named : (r : Result Action ℕ) → named_by naming_numbers (rules r) ≡ true
  unfolding submission_rules rules_for rules_of swap_rules named_by is_one_of
  all_named (Err code) = refl
  all_named (Ok a) = refl

  some_number : (found.0 ≡ 0 → ⊥) → is_one_of submission_numbers found.0 ≡ true
  unfolding verdict_on
  some_number some = has_number submission_numbers (rules_on limits lent m) (all_numbered (action_in m)) some

  no_element_lem : is_one_of naming_numbers found.0 ≡ false → found.1 ≡ 0
  unfolding verdict_on
  no_element_lem other = names_none naming_numbers (rules_on limits lent m) (all_named (action_in m)) other

  -- ---- the element at fault

  -- without an action nothing from 7 on is rules
  not_judged : (code : ℕ) (c : Check) → (first_broken (rules (Err code))).0 ≡ number_of c → ⊥
  unfolding submission_rules rules_for unused
  not_judged code Needed e = not_verdict _ (rules (Err code)) (lit< tt) refl e
  not_judged code Taken e = not_verdict _ (rules (Err code)) (lit< tt) refl e
  not_judged code Formed e = not_verdict _ (rules (Err code)) (lit< tt) refl e
  not_judged code Due e = not_verdict _ (rules (Err code)) (lit< tt) refl e

  check_broken : (a : Action) (c : Check) (e : ℕ) → first_broken (rules (Ok a)) ≡ (number_of c, e) → lowest (at_fault c a m) ≡ broken e
  unfolding submission_rules rules_for rules_of swap_rules finding_of
  check_broken a Needed e v = (broken_first (rules (Ok a)) (number_of Needed) e (numbers_differ limits lent m (Ok a)) (lit< tt) v).0
  check_broken a Taken e v = (broken_first (rules (Ok a)) (number_of Taken) e (numbers_differ limits lent m (Ok a)) (lit< tt) v).0
  check_broken a Formed e v = (broken_first (rules (Ok a)) (number_of Formed) e (numbers_differ limits lent m (Ok a)) (lit< tt) v).0
  check_broken a Due e v = (broken_first (rules (Ok a)) (number_of Due) e (numbers_differ limits lent m (Ok a)) (lit< tt) v).0

  names_lowest : (r : Result Action ℕ) → action_in m ≡ r → (c : Check) → found.0 ≡ number_of c → NamesLowest c m found.1
  unfolding verdict_on
  names_lowest (Err code) e c v = absurd (not_judged code c (ap (λ r. (first_broken (rules r)).0) (sym e) ∙ v))
  names_lowest (Ok a) e c v =
      let is : first_broken (rules (Ok a)) ≡ (number_of c, found.1) = ap (λ r. first_broken (rules r)) (sym e) ∙ ap (λ n. (n, found.1)) v in
      record { action = a; reads = e; lowest = lowest_broken (at_fault c a m) found.1 (check_broken a c found.1 is) }

  action_broken : (r : Result Action ℕ) (e : ℕ) → first_broken (rules r) ≡ (action_wrong, e) → finding r ≡ broken e
  unfolding submission_rules rules_for rules_of swap_rules finding_of
  action_broken (Err code) e v = (broken_first (rules (Err code)) action_wrong e (numbers_differ limits lent m (Err code)) (lit< tt) v).0
  action_broken (Ok a) e v = (broken_first (rules (Ok a)) action_wrong e (numbers_differ limits lent m (Ok a)) (lit< tt) v).0

  names_action : found.0 ≡ action_wrong → found.1 ≡ action_type
  unfolding verdict_on
  names_action v = action_at_fault (value action_type m) found.1 (action_broken (action_in m) found.1 (ap (λ n. (n, found.1)) v))

  -- ---- what the submission answers

  same_element : (n : ℕ) → answer.verdict ≡ n → answer.element ≡ found.1
  unfolding is_one_of
  same_element zero v = ap (λ s. s.element) (accepted_answer (when_accepted limits lent m v)) ∙ sym (no_element_lem (ap (is_one_of naming_numbers) (sym (verdict_is limits lent m) ∙ v)))
  same_element (suc n) v = ap (λ s. s.element) (when_refused limits lent m n v)

  pub element_is : answer.element ≡ found.1
  element_is = same_element answer.verdict refl

  names_element : (v : ℕ) → (v ≡ action_wrong → ⊥) → ((check : Check) → v ≡ number_of check → ⊥) → is_one_of naming_numbers v ≡ false
  unfolding is_one_of
  names_element v a c = rw (ne_eqb action_wrong v (λ e. a (sym e)), other Needed, other Taken, other Formed, other Due)
    where
      other : (check : Check) → eqb (number_of check) v ≡ false
      other check = ne_eqb (number_of check) v (λ e. c check (sym e))

  names : Names answer m
  names =
      let v : answer.verdict ≡ found.0 = verdict_is limits lent m in
      record {
        lowest = λ c e. rw element_is (names_lowest (action_in m) refl c (sym v ∙ e));
        action = λ e. element_is ∙ names_action (sym v ∙ e);
        nothing = λ a b. element_is ∙ no_element_lem (names_element _ (λ e. a (v ∙ e)) (λ c e. b c (v ∙ e)));
      }

  refusal : (n : ℕ) → answer.verdict ≡ n → (answer.verdict ≡ 0 → ⊥) → Refusal answer lent
  refusal zero v z = absurd (z v)
  refusal (suc n) v z =
      let same : answer.verdict ≡ found.0 = verdict_is limits lent m in
      record {
        number = rw same (some_number (λ e. z (same ∙ e)));
        identifier = ap (λ s. s.identifier) (when_refused limits lent m n v);
        unchanged = ap (λ s. s.lent) (when_refused limits lent m n v);
      }

pub submission_answers : SubmissionAnswers
submission_answers limits lent m = (names limits lent m, refusal limits lent m (submitted limits lent m).verdict refl)

-- ---- opening

pub opening_answers : OpeningAnswers
unfolding opened opening_verdict opening_rules first_broken is_one_of
opening_answers limits caps l z = by (ltb (length l) shortest_ledger) (not (are_caps caps)) z
  where
    verdict : Bool → Bool → ℕ
    verdict a b = (first_broken (test ledger_short a ∷ test cap_wrong b ∷ [])).0

    by : (a b : Bool) → (verdict a b ≡ 0 → ⊥) → (is_one_of opening_numbers (verdict a b) ≡ true) × (choose (eqb (verdict a b) 0) (splice l 0 (new_header caps (capacity_for limits.largest (length l)))) l ≡ l)
    by true b n = (refl, refl)
    by false true n = (refl, refl)
    by false false n = absurd (n refl)

-- ---- the status question

pub question_answers : QuestionAnswers
unfolding asked status_rules first_broken is_one_of
question_answers limits l u = by (not (header_right limits.largest l)) (has_form uti u) (has_wrong_row (header_of l) (swap_in l u))
  where
    by : (a b c : Bool) → Question (answered (first_broken (test ledger_wrong a ∷ naming form_broken (choose b passed (broken uti)) ∷ test row_wrong c ∷ [])) l u)
    by true b c = record { named = λ e. absurd (omega arith); nothing = λ n. refl; number = λ n. refl; refused = λ n. (refl, refl) }
    by false false c = record { named = λ e. refl; nothing = λ n. absurd (n refl); number = λ n. refl; refused = λ n. (refl, refl) }
    by false true true = record { named = λ e. absurd (omega arith); nothing = λ n. refl; number = λ n. refl; refused = λ n. (refl, refl) }
    by false true false = record { named = λ e. absurd (omega arith); nothing = λ n. refl; number = λ n. absurd (n refl); refused = λ n. absurd (n refl) }

-- ---- the totals question

pub totals_answers : TotalsAnswers
unfolding asked_totals totals_rules first_broken is_one_of
totals_answers limits l z = by (header_right limits.largest l) z
  where
    verdict : Bool → ℕ
    verdict b = (first_broken (test ledger_wrong (not b) ∷ [])).0

    by : (b : Bool) → (verdict b ≡ 0 → ⊥) → (is_one_of totals_numbers (verdict b) ≡ true) × ((totals_beside (verdict b) l).totals ≡ no_totals)
    by true n = absurd (n refl)
    by false n = (refl, refl)
