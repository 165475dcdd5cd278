-- What is left drops as many zeros as the whole.
use Rattle.std.proofs.Common.{◌≡◌, length}
use Rattle.price.specs.Price.{drop_zeros}
use Rattle.price.proofs.drop_zeros.Given as goal

abbrev pub invariant-loop-left : goal.invariant-loop-left
invariant-loop-left l = drop_zeros l.left ≡ drop_zeros l.w

abbrev pub decreases-loop-left : goal.decreases-loop-left
decreases-loop-left l = length l.left
