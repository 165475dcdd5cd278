-- A rule that is passed leaves the answer to the next one; the first that is broken gives it. Assumes nothing.
use Rattle.std.specs.Prelude.{Ok, ◌≡◌}
use mathlib.Core.Path.{◌≡◌, refl, sym, ap, ◌∙◌}
use Rattle.actions.specs.Actions.{action_of}
use Rattle.rules.specs.declared.verdicts.Refusal.TheVariants.{ActionWrong, ElementMissing, ElementNotTaken, FormBroken, ConditionalMissing}
use Rattle.rules.specs.Verdicts.{action_wrong, element_missing, element_not_taken, form_broken, not_a_pair, conditional_missing, price_and_spread, price_too_long, dates_disordered}
use Rattle.rules.specs.Findings.{first_broken, finding_of, from_rule}
use Rattle.rules.specs.Rules.{action_in, rules_of, judged_from}
use Rattle.rules.proofs.FindingLaws.{after_rule}
use Rattle.rules.proofs.JudgeLaws.{action_stops, action_on, test_stops, test_on, refusal_stops, check_on}
use Rattle.rules.proofs.judge_laid.Goals as goal
use Rattle.rules.proofs.judge_laid.Goals.{In_ok-action, In_ok-action-2, In_ok-action-3, In_ok-action-4, In_ok-action-5, Else-is_not_a_pair, Else-has_both_quotes, Else-has_long_price}

-- where an action is read
action : (c : In_ok-action) → judged_from element_missing (Ok c.in_ok-action.action) c.args.message.src.now ≡ judged_from action_wrong (action_in c.args.message.src.now) c.args.message.src.now
action c = action_on _ _ _ (c.read_action.ensures ∙ ap action_of c.element.ensures.0) _ _ c.map_err.ensures.cases c.in_ok-action.was

-- the checks that are passed
needed : (c : In_ok-action-2) → judged_from element_not_taken (Ok c.in_ok-action-2.action) c.args.message.src.now ≡ judged_from element_missing (Ok c.in_ok-action.action) c.args.message.src.now
unfolding rules_of finding_of from_rule after_rule
needed c = check_on element_missing _ _ _ _ c.lowest_missing.ensures element_not_taken _ _ refl c.map_err-2.ensures.cases c.in_ok-action-2.was

taken : (c : In_ok-action-3) → judged_from form_broken (Ok c.in_ok-action-3.action) c.args.message.src.now ≡ judged_from element_not_taken (Ok c.in_ok-action-2.action) c.args.message.src.now
unfolding rules_of finding_of from_rule after_rule
taken c = check_on element_not_taken _ _ _ _ c.lowest_not_taken.ensures form_broken _ _ refl c.map_err-3.ensures.cases c.in_ok-action-3.was

formed : (c : In_ok-action-4) → judged_from not_a_pair (Ok c.in_ok-action-4.action) c.args.message.src.now ≡ judged_from form_broken (Ok c.in_ok-action-3.action) c.args.message.src.now
unfolding rules_of finding_of from_rule after_rule
formed c = check_on form_broken _ _ _ _ c.lowest_broken.ensures not_a_pair _ _ refl c.map_err-4.ensures.cases c.in_ok-action-4.was

paired : (c : Else-is_not_a_pair) → judged_from conditional_missing (Ok c.in_ok-action-4.action) c.args.message.src.now ≡ judged_from not_a_pair (Ok c.in_ok-action-4.action) c.args.message.src.now
unfolding rules_of finding_of from_rule after_rule
paired c = test_on not_a_pair _ _ conditional_missing refl refl (sym c.is_not_a_pair.ensures ∙ c.if-is_not_a_pair.false)

due : (c : In_ok-action-5) → judged_from price_and_spread (Ok c.in_ok-action-5.action) c.args.message.src.now ≡ judged_from conditional_missing (Ok c.in_ok-action-4.action) c.args.message.src.now
unfolding rules_of finding_of from_rule after_rule
due c = check_on conditional_missing _ _ _ _ c.lowest_due.ensures price_and_spread _ _ refl c.map_err-5.ensures.cases c.in_ok-action-5.was

quoted : (c : Else-has_both_quotes) → judged_from price_too_long (Ok c.in_ok-action-5.action) c.args.message.src.now ≡ judged_from price_and_spread (Ok c.in_ok-action-5.action) c.args.message.src.now
unfolding rules_of finding_of from_rule after_rule
quoted c = test_on price_and_spread _ _ price_too_long refl refl (sym (rw c.of-asked.ensures at c.has_both_quotes.ensures) ∙ c.if-has_both_quotes.false)

short : (c : Else-has_long_price) → judged_from dates_disordered (Ok c.in_ok-action-5.action) c.args.message.src.now ≡ judged_from price_too_long (Ok c.in_ok-action-5.action) c.args.message.src.now
unfolding rules_of finding_of from_rule after_rule
short c = test_on price_too_long _ _ dates_disordered refl refl (sym (rw c.of-asked.ensures at c.has_long_price.ensures) ∙ c.if-has_long_price.false)

pub returns-in_err-action : goal.returns-in_err-action
returns-in_err-action c =
    action_stops _ _ _ (c.read_action.ensures ∙ ap action_of c.element.ensures.0) _ _ ActionWrong (λ e. refl) c.map_err.ensures.cases c.in_err-action.was c.from_residual.ensures

pub returns-in_err-action-2 : goal.returns-in_err-action-2
unfolding rules_of finding_of
returns-in_err-action-2 c =
    let p = goal.at.returns-in_err-action-2 c in
    refusal_stops element_missing _ _ _ _ c.lowest_missing.ensures _ _ ElementMissing (λ e. refl) refl c.map_err-2.ensures.cases c.in_err-action-2.was c.from_residual-in_err-action-2.ensures
    ∙ action p.In_ok-action

pub returns-in_err-action-3 : goal.returns-in_err-action-3
unfolding rules_of finding_of
returns-in_err-action-3 c =
    let p = goal.at.returns-in_err-action-3 c in
    refusal_stops element_not_taken _ _ _ _ c.lowest_not_taken.ensures _ _ ElementNotTaken (λ e. refl) refl c.map_err-3.ensures.cases c.in_err-action-3.was c.from_residual-in_err-action-3.ensures
    ∙ needed p.In_ok-action-2 ∙ action p.In_ok-action

pub returns-in_err-action-4 : goal.returns-in_err-action-4
unfolding rules_of finding_of
returns-in_err-action-4 c =
    let p = goal.at.returns-in_err-action-4 c in
    refusal_stops form_broken _ _ _ _ c.lowest_broken.ensures _ _ FormBroken (λ e. refl) refl c.map_err-4.ensures.cases c.in_err-action-4.was c.from_residual-in_err-action-4.ensures
    ∙ taken p.In_ok-action-3 ∙ needed p.In_ok-action-2 ∙ action p.In_ok-action

pub returns-then-is_not_a_pair : goal.returns-then-is_not_a_pair
unfolding rules_of finding_of
returns-then-is_not_a_pair c =
    let p = goal.at.returns-then-is_not_a_pair c in
    test_stops not_a_pair _ _ refl refl (sym c.is_not_a_pair.ensures ∙ c.if-is_not_a_pair.true)
    ∙ formed p.In_ok-action-4 ∙ taken p.In_ok-action-3 ∙ needed p.In_ok-action-2 ∙ action p.In_ok-action

pub returns-in_err-action-5 : goal.returns-in_err-action-5
unfolding rules_of finding_of
returns-in_err-action-5 c =
    let p = goal.at.returns-in_err-action-5 c in
    refusal_stops conditional_missing _ _ _ _ c.lowest_due.ensures _ _ ConditionalMissing (λ e. refl) refl c.map_err-5.ensures.cases c.in_err-action-5.was c.from_residual-in_err-action-5.ensures
    ∙ paired p.Else-is_not_a_pair ∙ formed p.In_ok-action-4 ∙ taken p.In_ok-action-3 ∙ needed p.In_ok-action-2 ∙ action p.In_ok-action

pub returns-then-has_both_quotes : goal.returns-then-has_both_quotes
unfolding rules_of finding_of
returns-then-has_both_quotes c =
    let p = goal.at.returns-then-has_both_quotes c in
    test_stops price_and_spread _ _ refl refl (sym (rw c.of-asked.ensures at c.has_both_quotes.ensures) ∙ c.if-has_both_quotes.true)
    ∙ due p.In_ok-action-5 ∙ paired p.Else-is_not_a_pair ∙ formed p.In_ok-action-4 ∙ taken p.In_ok-action-3 ∙ needed p.In_ok-action-2 ∙ action p.In_ok-action

pub returns-then-has_long_price : goal.returns-then-has_long_price
unfolding rules_of finding_of
returns-then-has_long_price c =
    let p = goal.at.returns-then-has_long_price c in
    test_stops price_too_long _ _ refl refl (sym (rw c.of-asked.ensures at c.has_long_price.ensures) ∙ c.if-has_long_price.true)
    ∙ quoted p.Else-has_both_quotes ∙ due p.In_ok-action-5 ∙ paired p.Else-is_not_a_pair ∙ formed p.In_ok-action-4 ∙ taken p.In_ok-action-3 ∙ needed p.In_ok-action-2 ∙ action p.In_ok-action

pub returns-then-is_out_of_order : goal.returns-then-is_out_of_order
unfolding rules_of finding_of
returns-then-is_out_of_order c =
    let p = goal.at.returns-then-is_out_of_order c in
    test_stops dates_disordered _ _ refl refl (sym c.is_out_of_order.ensures ∙ c.if-is_out_of_order.true)
    ∙ short p.Else-has_long_price ∙ quoted p.Else-has_both_quotes ∙ due p.In_ok-action-5 ∙ paired p.Else-is_not_a_pair ∙ formed p.In_ok-action-4 ∙ taken p.In_ok-action-3 ∙ needed p.In_ok-action-2 ∙ action p.In_ok-action

pub returns : goal.returns
unfolding judged_from rules_of from_rule first_broken
returns c =
    let p = goal.at.returns c in
    let none : Ok c.in_ok-action-5.action ≡ judged_from dates_disordered (Ok c.in_ok-action-5.action) c.args.message.src.now = rw (sym c.is_out_of_order.ensures ∙ c.if-is_out_of_order.false) in
    none ∙ short p.Else-has_long_price ∙ quoted p.Else-has_both_quotes ∙ due p.In_ok-action-5 ∙ paired p.Else-is_not_a_pair ∙ formed p.In_ok-action-4 ∙ taken p.In_ok-action-3 ∙ needed p.In_ok-action-2 ∙ action p.In_ok-action
