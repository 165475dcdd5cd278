-- The entry of the row at a status is the step from it; past the row there is none. Assumes nothing.
use Rattle.std.proofs.Common.{arith, rules, ◌≡◌, refl, sym, ◌∙◌, ap, ℕ, ◌+◌, length, get_or, List, map, Bool, true, false, Bor}
use Rattle.std.specs.Prelude.{Option, None, Some, nat_lt}
use Rattle.std.specs.Option.{option_flatten, option_copied, is_some, IfSome}
use Rattle.std.proofs.lemmas.List.{get_or-map, get_or_past}
use lib.ListN.{length-map}
use borrow.Author.Tests.{ltb-true, ltb-false}
use Rattle.actions.specs.declared.statuses.Status.{Status}
use Rattle.actions.specs.declared.Action.{Action}
use Rattle.actions.specs.Statuses.{ported, no_step, statuses}
use Rattle.actions.specs.Actions.{step_number, next_status}
use Rattle.actions.proofs.TableLaws.{numbers, entry, step_none}
use Rattle.actions.proofs.statuses.status_after.Goals as goal

-- the number of what `get` finds at a place of the row
found : (steps : List (Option Status)) (k : ℕ) (r : Option (Bor (Option Status))) → (is_some r ≡ nat_lt k (length steps)) × IfSome r (λ x. x.now ≡ get_or steps k x.now)
    → step_number (option_flatten (option_copied r)) ≡ get_or (map step_number steps) k no_step
found steps k None h = sym (get_or_past (map step_number steps) k no_step (simp length-map (ltb-false _ _ (sym h.0))))
found steps k (Some x) h = ap step_number h.1 ∙ sym (get_or-map step_number steps k x.now no_step (ltb-true _ _ (sym h.0)))

-- the numbers of all statuses, and none behind
step_of : (a : Action) (k : ℕ) (t : Bool) → nat_lt ported k ≡ t → get_or (map (next_status a) statuses) k no_step ≡ next_status a k
unfolding numbers
step_of a k true e = get_or_past (map (next_status a) statuses) k no_step (ltb-true _ _ e) ∙ sym (step_none a k (ltb-true _ _ e))
step_of a k false e = entry (next_status a) (ported + 1) k no_step (omega (arith, ltb-false _ _ e))

pub returns : goal.returns
returns c =
    let a = c.args.a in
    let k = c.args.status in
    let at = found c.columns_of.result.steps k c.get.result (search rules) in
    let all = step_of a k (nat_lt ported k) refl in
    cc
