-- What is left drops as many zeros as the whole.
use Rattle.std.proofs.Common.{◌≡◌, length}
use Rattle.price.specs.Price.{trim_zeros}
use Rattle.price.proofs.trim_zeros.Given as goal

abbrev pub invariant-loop-left : goal.invariant-loop-left
invariant-loop-left l = trim_zeros l.left ≡ trim_zeros l.d

abbrev pub decreases-loop-left : goal.decreases-loop-left
decreases-loop-left l = length l.left
