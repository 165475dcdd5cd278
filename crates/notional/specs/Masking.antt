-- Specification, section 6: what is shown of an amount under a cap, and which numbers are caps.
use Rattle.std.specs.Prelude.{ℕ, ◌*◌, Bool, ltb, eqb}
use Rattle.octets.specs.Choice.{choose, both}
use Rattle.values.specs.Run.{within}
use Rattle.notional.specs.Amount.{unit}
use Rattle.notional.specs.Rounding.{rounded}

-- the exact amount is above the cap; an amount equal to the cap is not
unfoldable pub over : ℕ → ℕ → Bool
over cap a = ltb (cap * unit) a

-- an amount above its cap shows the cap, and a plus sign
unfoldable pub shown : ℕ → ℕ → ℕ
shown cap a = choose (over cap a) cap (rounded a)

abbrev pub smallest_cap : ℕ
smallest_cap = 1_000

abbrev pub largest_cap : ℕ
largest_cap = 1_000_000_000_000_000

-- a cap is in its range, and is its own rounded amount
unfoldable pub is_cap : ℕ → Bool
is_cap cap = both (within smallest_cap largest_cap cap) (eqb (rounded (cap * unit)) cap)
