-- The step of an amount by the place of its band. Assumes nothing.
use Prim.Native.Nat.{ℕ, zero, suc, ◌+◌, ◌*◌, ◌<◌, ◌≤◌}
use mathlib.Core.Bool.{Bool, true, false}
use mathlib.Core.List.{List, [], ◌∷◌}
use mathlib.Core.Path.{◌≡◌, refl, sym, ◌∙◌}
use native.Mathlib.Omega.{arith}
use lib.Dec.{ltb, leb}
use lib.ListN.{length, get_or, drop}
use lib.Seq.{drop-cons}
use borrow.Author.Tests.{lt-ltb, le-ltb, leb-true, ltb-true}
use Rattle.octets.specs.Choice.{both}
use Rattle.octets.proofs.ChoiceLaws.{both_first, both_second}
use Rattle.values.specs.Run.{within}
use Rattle.notional.specs.Amount.{unit}
use Rattle.notional.specs.Rounding.{bands, last_step, step_in, step, least_shown}

-- an amount below the first bound, and from there on
module _ (b : ℕ × ℕ) (bs : List (ℕ × ℕ)) (a : ℕ) where
  pub step_here : a < b.0 * unit → step_in (b ∷ bs) a ≡ b.1
  unfolding step_in
  step_here h = rw (lt-ltb a (b.0 * unit) h)

  pub step_after : b.0 * unit ≤ a → step_in (b ∷ bs) a ≡ step_in bs a
  unfolding step_in
  step_after h = rw (le-ltb a (b.0 * unit) h)

-- there are k bands, and all end at lo or before
abbrev ended : ℕ → ℕ → List (ℕ × ℕ) → Bool
ended zero lo bs = true
ended (suc k) lo [] = false
ended (suc k) lo (b ∷ bs) = both (leb b.0 lo) (ended k lo bs)

past : (k lo a : ℕ) (bs : List (ℕ × ℕ)) → ended k lo bs ≡ true → lo * unit ≤ a → step_in bs a ≡ step_in (drop k bs) a
past zero lo a bs e h = refl
past (suc k) lo a [] e h = refl
past (suc k) lo a (b ∷ bs) e h =
    let l : b.0 ≤ lo = leb-true b.0 lo (both_first (leb b.0 lo) (ended k lo bs) e) in
    let g : b.0 * unit ≤ a = omega arith in
    step_after b bs a g ∙ past k lo a bs (both_second (leb b.0 lo) (ended k lo bs) e) h

-- band k's own bound and step, and the bound of the band before
abbrev pub band : ℕ → ℕ × ℕ
band k = get_or bands k (0, 0)

abbrev pub from : ℕ → ℕ
from zero = 0
from (suc k) = (band k).0

abbrev pub is_band : ℕ → Bool
is_band k = both (ltb k (length bands)) (both (ended k (from k) bands) (within least_shown last_step (band k).1))

-- r is the step of every amount of w whole units
abbrev pub IsStep : ℕ → ℕ → Type 0
IsStep w r = ((f : ℕ) → f < unit → r ≡ step (w * unit + f)) × (least_shown ≤ r) × (r ≤ last_step)

pub in_band : (k w r : ℕ) → is_band k ≡ true → from k ≤ w → w < (band k).0 → r ≡ (band k).1 → IsStep w r
unfolding step
in_band k w r e l u s =
    let e₁ = both_second (ltb k (length bands)) _ e in
    let e₂ = both_second (ended k (from k) bands) _ e₁ in
    let n : k < length bands = ltb-true k (length bands) (both_first (ltb k (length bands)) _ e) in
    let least : least_shown ≤ (band k).1 = leb-true least_shown (band k).1 (both_first (leb least_shown (band k).1) _ e₂) in
    let most : (band k).1 ≤ last_step = leb-true (band k).1 last_step (both_second (leb least_shown (band k).1) _ e₂) in (
      λ f h.
          let low : from k * unit ≤ w * unit + f = omega arith in
          let high : w * unit + f < (band k).0 * unit = omega arith in
          s ∙ sym (past k (from k) (w * unit + f) bands (both_first (ended k (from k) bands) _ e₁) low ∙ rw (drop-cons bands k (0, 0) n) (step_here (band k) (drop (suc k) bands) (w * unit + f) high)),
      omega arith,
      omega arith,
    )

-- from the last bound on
pub in_last : (w r : ℕ) → from (length bands) ≤ w → r ≡ last_step → IsStep w r
unfolding step step_in bands
in_last w r l s = (
  λ f h.
      let low : from (length bands) * unit ≤ w * unit + f = omega arith in
      s ∙ sym (past (length bands) (from (length bands)) (w * unit + f) bands refl low),
  omega arith,
  omega arith,
)
