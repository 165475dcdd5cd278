-- r is the running remainder of the characters before b.
use Rattle.std.proofs.Common.{◌≡◌, ◌<◌, take}
use Rattle.values.specs.Limits.{lei_modulus}
use Rattle.values.specs.Lei.{running_remainder}
use Rattle.values.proofs.lei.remainder_of.Given as goal

abbrev pub invariant-loop-b : goal.invariant-loop-b
invariant-loop-b l = (l.r < lei_modulus) × (l.r ≡ running_remainder 0 (take l.b-index l.v))
