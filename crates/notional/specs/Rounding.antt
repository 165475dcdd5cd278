-- Specification, section 6: the bands and the rounded amount. Amounts are in units of 10^-5, what is shown is in units.
use Rattle.std.specs.Prelude.{ℕ, ◌+◌, ◌*◌, ◌/◌, ◌%◌, ◌<◌, ◌≤◌, max, List, [], ◌∷◌, ◌≡◌, ltb}
use Rattle.octets.specs.Choice.{choose}
use Rattle.notional.specs.Amount.{unit}

-- below so many units, nearest so many units
unfoldable pub bands : List (ℕ × ℕ)
bands =
    (1_000, 5)
    ∷ (10_000, 100)
    ∷ (100_000, 1_000)
    ∷ (1_000_000, 10_000)
    ∷ (100_000_000, 1_000_000)
    ∷ (500_000_000, 10_000_000)
    ∷ (1_000_000_000, 50_000_000)
    ∷ (100_000_000_000, 1_000_000_000)
    ∷ []

-- from there nearest so many units
abbrev pub last_step : ℕ
last_step = 50_000_000_000

-- the step of the first band that an amount lies below
unfoldable pub step_in : List (ℕ × ℕ) → ℕ → ℕ
step_in [] a = last_step
step_in (b ∷ bs) a = choose (ltb a (b.0 * unit)) b.1 (step_in bs a)

-- bands by the exact amount
unfoldable pub step : ℕ → ℕ
step a = step_in bands a

-- the multiple of s units nearest to an amount; a tie goes up
unfoldable pub nearest : ℕ → ℕ → ℕ
nearest s a = (2 * a + s * unit) / (2 * (s * unit)) * s

-- nearest, and a tie goes up: a multiple of the step, above the amount by half a step at most, below it by less
abbrev pub NearestStep : Type 0
NearestStep =
    (s a : ℕ) → 0 < s → (nearest s a % s ≡ 0) × (2 * (nearest s a * unit) ≤ 2 * a + s * unit) × (2 * a < 2 * (nearest s a * unit) + s * unit)

-- never shown below 5
abbrev pub least_shown : ℕ
least_shown = 5

unfoldable pub rounded : ℕ → ℕ
rounded a = max least_shown (nearest (step a) a)
