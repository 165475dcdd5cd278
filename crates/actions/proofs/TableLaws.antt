-- Laws of specs/Table.antt: a table that is computed from a rule has at each place what the rule says; what the rows show holds of every action. Assumes nothing.
use Prim.Native.Nat.{ℕ, zero, suc, ◌+◌, ◌<◌, ◌≤◌}
use mathlib.Core.Bool.{Bool, true, false, false≢true}
use mathlib.Core.Path.{◌≡◌, refl, sym, ap, ◌∙◌, subst}
use mathlib.Core.List.{List, [], ◌∷◌, map}
use native.Mathlib.Nat.{add-zero, zero-add, not-suc-le-zero, le_of_suc-le-suc}
use native.Mathlib.Omega.{arith}
use lib.ListN.{length, get_or}
use lib.Dec.{eqb, leb, lit<}
use borrow.Author.Tests.{ne_eqb, leb-true}
use Rattle.octets.specs.Choice.{choose, both}
use Rattle.octets.specs.Search.{all_from, all}
use Rattle.octets.proofs.ChoiceLaws.{both_first, both_second}
use Rattle.octets.proofs.SearchLaws.{all_at}
use Rattle.actions.specs.declared.Action.{Action}
use Rattle.actions.specs.declared.Action.TheVariants.{Newt, Modi, Corr, Term, Eror, Revi, Prto}
use Rattle.actions.specs.Statuses.{live, ported, no_step}
use Rattle.actions.specs.Table.{action_row, all_actions, action_at}
use Rattle.actions.specs.Actions.{step_from, next_status}

-- the n numbers from k on
unfoldable pub numbers : ℕ → ℕ → List ℕ
numbers k zero = []
numbers k (suc n) = k ∷ numbers (suc k) n

entry_from_lem : {A : Type 0} (f : ℕ → A) (k n i : ℕ) (d : A) → i < n → get_or (map f (numbers k n)) i d ≡ f (k + i)
unfolding numbers
entry_from_lem f k zero i d h = absurd (not-suc-le-zero h)
entry_from_lem f k (suc n) zero d h = ap f (sym (add-zero k))
entry_from_lem f k (suc n) (suc i) d h =
    let e : suc k + i ≡ k + suc i = omega arith in
    entry_from_lem f (suc k) n i d (le_of_suc-le-suc h) ∙ ap f e

pub entry : {A : Type 0} (f : ℕ → A) (n i : ℕ) (d : A) → i < n → get_or (map f (numbers 0 n)) i d ≡ f i
entry f n i d h = entry_from_lem f 0 n i d h ∙ ap f (zero-add i)

-- ---- every action

-- each action stands in the list
unfoldable pub stands : (a : Action) → (k : ℕ) × (k < length all_actions) × (action_at k ≡ a)
stands Newt = (0, lit< tt, refl)
stands Modi = (1, lit< tt, refl)
stands Corr = (2, lit< tt, refl)
stands Term = (3, lit< tt, refl)
stands Eror = (4, lit< tt, refl)
stands Revi = (5, lit< tt, refl)
stands Prto = (6, lit< tt, refl)

-- what a test shows of each one in the list holds of every action
pub every : (test : Action → Bool) → all (λ k. test (action_at k)) (length all_actions) ≡ true → (a : Action) → test a ≡ true
every test e a =
    let place = stands a in
    subst (λ b. test b ≡ true) (ap action_at (zero-add place.0) ∙ place.2) (all_at _ 0 (length all_actions) place.0 place.1 e)

-- a table with a row for each action and n columns
pub table_at : {A : Type 0} (rule : Action → ℕ → A) (n k : ℕ) (a : Action) (c : ℕ) (d : A) → k < length all_actions → action_at k ≡ a → c < n → get_or (get_or (map (λ r. map (rule (action_at r)) (numbers 0 n)) (numbers 0 (length all_actions))) k []) c d ≡ rule a c
table_at rule n k a c d h e l =
    ap (λ row. get_or row c d) (entry (λ r. map (rule (action_at r)) (numbers 0 n)) (length all_actions) k [] h)
    ∙ entry (rule (action_at k)) n c d l
    ∙ ap (λ b. rule b c) e

-- ---- beyond the last status

-- each step is from a status
abbrev within : List (ℕ × ℕ) → Bool
within [] = true
within (step ∷ steps) = both (leb step.0 ported) (within steps)

none_after : (steps : List (ℕ × ℕ)) (s : ℕ) → ported < s → within steps ≡ true → step_from steps s ≡ no_step
none_after [] s h e = refl
none_after (step ∷ steps) s h e =
    let from : step.0 ≤ ported = leb-true _ _ (both_first (leb step.0 ported) (within steps) e) in
    rw (ne_eqb s step.0 (omega arith)) (none_after steps s h (both_second (leb step.0 ported) (within steps) e))

pub step_none : (a : Action) (s : ℕ) → ported < s → next_status a s ≡ no_step
unfolding all_from
step_none a s h = none_after (action_row a).steps s h (every (λ b. within (action_row b).steps) refl a)

-- ---- a step leads to a status

-- each step is to a status from live to ported
abbrev to_statuses : List (ℕ × ℕ) → Bool
to_statuses [] = true
to_statuses (step ∷ steps) = both (both (leb live step.1) (leb step.1 ported)) (to_statuses steps)

leads : (steps : List (ℕ × ℕ)) (s : ℕ) → to_statuses steps ≡ true → eqb (step_from steps s) no_step ≡ false → (live ≤ step_from steps s) × (step_from steps s ≤ ported)
leads [] s e f = absurd (false≢true (sym f))
leads (step ∷ steps) s e f = by (eqb s step.0) f (leads steps s (both_second (both (leb live step.1) (leb step.1 ported)) _ e))
  where
    by : (b : Bool) → eqb (choose b step.1 (step_from steps s)) no_step ≡ false → (eqb (step_from steps s) no_step ≡ false → (live ≤ step_from steps s) × (step_from steps s ≤ ported))
        → (live ≤ choose b step.1 (step_from steps s)) × (choose b step.1 (step_from steps s) ≤ ported)
    by true g more =
        let range : both (leb live step.1) (leb step.1 ported) ≡ true = both_first _ (to_statuses steps) e in
        (leb-true _ _ (both_first (leb live step.1) (leb step.1 ported) range), leb-true _ _ (both_second (leb live step.1) (leb step.1 ported) range))
    by false g more = more g

pub step_to : (a : Action) (s : ℕ) → eqb (next_status a s) no_step ≡ false → (live ≤ next_status a s) × (next_status a s ≤ ported)
unfolding all_from
step_to a s f = leads (action_row a).steps s (every (λ b. to_statuses (action_row b).steps) refl a) f
