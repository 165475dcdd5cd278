-- Laws of specs/Masking.antt, and its examples. Assumes nothing.
use Prim.Native.Nat.{ℕ, ◌+◌, ◌*◌, ◌<◌, ◌≤◌, min}
use mathlib.Core.Bool.{Bool, true, false}
use mathlib.Core.Path.{◌≡◌, refl, sym}
use native.Mathlib.Omega.{arith}
use lib.Dec.{ltb, leb}
use borrow.Author.Tests.{lt-ltb, le-ltb, ltb-true, ltb-false, leb-true, eqb-true}
use Rattle.octets.specs.Search.{first_from}
use Rattle.octets.specs.Text.{text}
use Rattle.octets.proofs.ChoiceLaws.{both_first, both_second}
use Rattle.values.specs.Run.{within}
use Rattle.numbers.specs.Numbers.{point_in, whole_of, decimals_of}
use Rattle.notional.specs.Amount.{unit, digit, spelled, fraction, amount}
use Rattle.notional.specs.Rounding.{bands, step_in, step, nearest, least_shown, rounded}
use Rattle.notional.specs.Masking.{over, shown, smallest_cap, largest_cap, is_cap}
use Rattle.notional.specs.Examples.{all_shown, ExamplesShown}
use Rattle.notional.specs.Laws.{LeastShown, ShownWithin, MaskingLaws}
use Rattle.notional.proofs.RoundingLaws.{nearest_step, rounded_monotone, rounded_least, rounded_again}

module _ (cap a : ℕ) where
  -- the test of the cap
  pub over_yes : cap * unit < a → over cap a ≡ true
  unfolding over
  over_yes h = lt-ltb (cap * unit) a h

  pub over_not : a ≤ cap * unit → over cap a ≡ false
  unfolding over
  over_not h = le-ltb (cap * unit) a h

  over_lt : over cap a ≡ true → cap * unit < a
  unfolding over
  over_lt e = ltb-true (cap * unit) a e

  pub over_le : over cap a ≡ false → a ≤ cap * unit
  unfolding over
  over_le e = ltb-false (cap * unit) a e

  -- what is shown above the cap, and up to it
  pub shown_over : over cap a ≡ true → shown cap a ≡ cap
  unfolding shown
  shown_over e = rw e

  pub shown_under : over cap a ≡ false → shown cap a ≡ rounded a
  unfolding shown
  shown_under e = rw e

-- an amount of as many whole units as the cap
pub over_at_cap : (cap f : ℕ) → ltb 0 f ≡ over cap (cap * unit + f)
over_at_cap cap f = go (ltb 0 f) refl
  where
    go : (t : Bool) → ltb 0 f ≡ t → t ≡ over cap (cap * unit + f)
    go true e = sym (over_yes cap (cap * unit + f) (omega (arith, ltb-true 0 f e)))
    go false e = sym (over_not cap (cap * unit + f) (omega (arith, ltb-false 0 f e)))

-- whole units that stop growing just above the largest cap are above every cap where the exact ones are
pub over_saturated : (cap w f : ℕ) → cap ≤ largest_cap → f < unit → over cap (min w (largest_cap + 1) * unit + f) ≡ over cap (w * unit + f)
over_saturated cap w f h l = go (over cap (w * unit + f)) refl
  where
    go : (t : Bool) → over cap (w * unit + f) ≡ t → over cap (min w (largest_cap + 1) * unit + f) ≡ t
    go true e = over_yes cap _ (omega (arith, over_lt cap (w * unit + f) e))
    go false e = over_not cap _ (omega (arith, over_le cap (w * unit + f) e))

-- ---- what is shown under a cap

shown_below : (cap top a : ℕ) → cap ≤ top → rounded (top * unit) ≡ top → shown cap a ≤ top
shown_below cap top a h own = go (over cap a) refl
  where
    go : (t : Bool) → over cap a ≡ t → shown cap a ≤ top
    go true e = omega (arith, shown_over cap a e)
    go false e =
        let l : a ≤ top * unit = omega (arith, over_le cap a e) in
        omega (arith, shown_under cap a e, rounded_monotone a (top * unit) l)

pub shown_within : ShownWithin
unfolding is_cap
shown_within cap a e = shown_below cap cap a (omega arith) (eqb-true (rounded (cap * unit)) cap (both_second (within smallest_cap largest_cap cap) _ e))

-- a cap is what the masking requires of it
pub cap_largest : (cap : ℕ) → is_cap cap ≡ true → cap ≤ largest_cap
unfolding is_cap
cap_largest cap e = leb-true cap largest_cap (both_second (leb smallest_cap cap) _ (both_first (within smallest_cap largest_cap cap) _ e))

cap_smallest : (cap : ℕ) → is_cap cap ≡ true → smallest_cap ≤ cap
unfolding is_cap
cap_smallest cap e = leb-true smallest_cap cap (both_first (leb smallest_cap cap) _ (both_first (within smallest_cap largest_cap cap) _ e))

pub least_shown_lem : LeastShown
least_shown_lem cap a e = go (over cap a) refl
  where
    go : (t : Bool) → over cap a ≡ t → least_shown ≤ shown cap a
    go true o = omega (arith, shown_over cap a o, cap_smallest cap e)
    go false o = omega (arith, shown_under cap a o, rounded_least a)

largest_own : rounded (largest_cap * unit) ≡ largest_cap
unfolding rounded step step_in bands nearest
largest_own = refl

-- nor does what is shown under any number up to the largest cap exceed that
pub shown_largest : (cap a : ℕ) → cap ≤ largest_cap → shown cap a ≤ largest_cap
shown_largest cap a h = shown_below cap largest_cap a h largest_own

-- ---- the examples of clause 6.7

pub examples_shown : ExamplesShown
unfolding all_shown text first_from point_in whole_of decimals_of digit spelled fraction amount bands step_in step nearest rounded over shown
examples_shown = refl

-- ---- what `mask` cites

pub masking_laws : MaskingLaws
masking_laws =
    record {
      examples = examples_shown;
      nearest = nearest_step;
      least = least_shown_lem;
      again = rounded_again;
      within = shown_within;
    }
