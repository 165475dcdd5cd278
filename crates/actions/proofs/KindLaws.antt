-- How the kinds of actions and the steps of statuses go together. Assumes nothing.
use Prim.Native.Nat.{ℕ}
use mathlib.Core.Bool.{Bool, true, false, not, false≢true}
use mathlib.Core.Path.{◌≡◌, refl, sym, ap, ◌∙◌, subst}
use lib.ListN.{length}
use lib.Dec.{eqb}
use borrow.Author.Tests.{eqb-true}
use Rattle.octets.specs.Choice.{choose, both}
use Rattle.octets.specs.Search.{all_from, all}
use Rattle.octets.proofs.ChoiceLaws.{not_not}
use Rattle.actions.specs.declared.Action.{Action}
use Rattle.actions.specs.declared.Action.TheVariants.{Newt, Modi}
use Rattle.actions.specs.Statuses.{unknown, live, no_step}
use Rattle.actions.specs.Table.{all_actions, action_at}
use Rattle.actions.specs.Actions.{is_full, needs_change, is_new, repeats_time, next_status}
use Rattle.actions.proofs.TableLaws.{stands, every}

-- two tests that no action passes both
never : (p q : Action → Bool) → all (λ k. not (both (p (action_at k)) (q (action_at k)))) (length all_actions) ≡ true → (a : Action) → p a ≡ true → q a ≡ false
never p q e a h = by (q a) (subst (λ b. not (both b (q a)) ≡ true) h (every (λ b. not (both (p b) (q b))) e a))
  where
    by : (b : Bool) → not b ≡ true → b ≡ false
    by true g = absurd (false≢true g)
    by false g = refl

-- a test that one action passes
only : (p : Action → Bool) (k : ℕ) → all (λ j. not (both (p (action_at j)) (not (eqb (stands (action_at j)).0 k)))) (length all_actions) ≡ true → (a : Action) → p a ≡ true → a ≡ action_at k
only p k e a h = sym (stands a).2 ∙ ap action_at (eqb-true (stands a).0 k (not_not _ (never p (λ b. not (eqb (stands b).0 k)) e a h)))

pub is_newt : (a : Action) → is_new a ≡ true → a ≡ Newt
unfolding all_from stands
is_newt = only is_new 0 refl

pub is_modi : (a : Action) → needs_change a ≡ true → a ≡ Modi
unfolding all_from stands
is_modi = only needs_change 1 refl

-- NEWT is full
pub old_unless_full : (a : Action) → is_full a ≡ false → is_new a ≡ false
unfolding all_from
old_unless_full a e = never (λ b. not (is_full b)) is_new refl a (ap not e)

-- NEWT repeats no execution time
pub old_if_repeats : (a : Action) → repeats_time a ≡ true → is_new a ≡ false
unfolding all_from
old_if_repeats = never repeats_time is_new refl

-- an unknown swap admits NEWT alone
pub old_unknown : (a : Action) → is_new a ≡ false → next_status a unknown ≡ no_step
unfolding all_from
old_unknown a e = eqb-true _ _ (not_not _ (never (λ b. not (is_new b)) (λ b. not (eqb (next_status b unknown) no_step)) refl a (ap not e)))

-- and NEWT is admitted for no other swap
pub new_unknown : (a : Action) (s : ℕ) → is_new a ≡ true → eqb (next_status a s) no_step ≡ false → s ≡ unknown
new_unknown a s e f = by (eqb s unknown) refl (subst (λ b. eqb (next_status b s) no_step ≡ false) (is_newt a e) f)
  where
    by : (b : Bool) → eqb s unknown ≡ b → eqb (choose b live no_step) no_step ≡ false → s ≡ unknown
    by true g h = eqb-true s unknown g
    by false g h = absurd (false≢true (sym h))

-- MODI leaves the status
pub modi_stays : (s : ℕ) → eqb (next_status Modi s) no_step ≡ false → next_status Modi s ≡ s
modi_stays s f = by (eqb s live) refl f
  where
    by : (b : Bool) → eqb s live ≡ b → eqb (choose b live no_step) no_step ≡ false → choose b live no_step ≡ s
    by true g h = sym (eqb-true s live g)
    by false g h = absurd (false≢true (sym h))
