-- The codes that messages of an action take, by a test that is computed over the table. Assumes nothing.
use Prim.Native.Nat.{ℕ, ◌+◌, ◌-◌}
use mathlib.Core.Bool.{Bool, true, false, false≢true}
use mathlib.Core.Path.{◌≡◌, refl, subst}
use native.Mathlib.Omega.{arith}
use Rattle.octets.specs.Search.{all_from}
use Rattle.octets.proofs.SearchLaws.{all_at}
use Rattle.actions.specs.declared.Action.{Action}
use Rattle.actions.specs.Actions.{is_full}
use Rattle.elements.specs.declared.table.Kinds.{Kinds}
use Rattle.elements.specs.declared.table.Kinds.TheVariants.{None, All, Full}
use Rattle.elements.specs.Table.{element_of}
use Rattle.elements.specs.Messages.{is_taken, is_among, takes, TakenUpTo}

-- a test of kinds that tells of the action's messages
up_to : (a : Action) (test : Kinds → Bool) → ((k : Kinds) → test k ≡ true → is_among k a ≡ true) → (n : ℕ) → all_from (λ code. test (element_of code).taken) 1 n ≡ true → TakenUpTo a n
unfolding takes
up_to a test tells n e code l u =
    let at : 1 + (code - 1) ≡ code = omega arith in
    tells (element_of code).taken (subst (λ c. test (element_of c).taken ≡ true) at (all_at (λ c. test (element_of c).taken) 1 n (code - 1) (omega arith) e))

pub full_up_to : (a : Action) → is_full a ≡ true → (n : ℕ) → all_from (λ code. is_taken (element_of code).taken) 1 n ≡ true → TakenUpTo a n
full_up_to a full = up_to a is_taken by
  where
    by : (k : Kinds) → is_taken k ≡ true → is_among k a ≡ true
    by None e = absurd (false≢true e)
    by All e = refl
    by Full e = full

abbrev pub by_all : Kinds → Bool
by_all None = false
by_all All = true
by_all Full = false

pub short_up_to : (a : Action) (n : ℕ) → all_from (λ code. by_all (element_of code).taken) 1 n ≡ true → TakenUpTo a n
short_up_to a = up_to a by_all by
  where
    by : (k : Kinds) → by_all k ≡ true → is_among k a ≡ true
    by None e = absurd (false≢true e)
    by All e = refl
    by Full e = absurd (false≢true e)
