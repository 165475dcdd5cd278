-- Specification, section 6: what holds of every amount. `mask` cites it.
use Rattle.std.specs.Prelude.{ℕ, ◌*◌, ◌≤◌, true, ◌≡◌}
use Rattle.notional.specs.Amount.{unit}
use Rattle.notional.specs.Rounding.{NearestStep, least_shown, rounded}
use Rattle.notional.specs.Masking.{shown, is_cap}
use Rattle.notional.specs.Examples.{ExamplesShown}

-- no cap shows an amount below 5
abbrev pub LeastShown : Type 0
LeastShown = (cap a : ℕ) → is_cap cap ≡ true → least_shown ≤ shown cap a

-- rounding a rounded amount changes nothing
abbrev pub RoundedAgain : Type 0
RoundedAgain = (a : ℕ) → rounded (rounded a * unit) ≡ rounded a

-- no cap shows more than itself
abbrev pub ShownWithin : Type 0
ShownWithin = (cap a : ℕ) → is_cap cap ≡ true → shown cap a ≤ cap

pub record MaskingLaws : Type 0 where
  pub examples : ExamplesShown
  pub nearest : NearestStep
  pub least : LeastShown
  pub again : RoundedAgain
  pub within : ShownWithin
