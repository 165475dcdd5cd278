-- n is what the first digits spell, or just above the largest cap.
use Rattle.std.proofs.Common.{◌≡◌, ◌+◌, min, take}
use Rattle.notional.specs.Amount.{spelled}
use Rattle.notional.specs.Masking.{largest_cap}
use Rattle.notional.proofs.whole_units.Given as goal

abbrev pub invariant-loop-b : goal.invariant-loop-b
invariant-loop-b l = l.n ≡ min (spelled 0 (take l.b-index l.b-items)) (largest_cap + 1)
