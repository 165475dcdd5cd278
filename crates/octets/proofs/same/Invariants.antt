-- What is left of a and b is as long, and the same where they are.
use Rattle.std.proofs.Common.{◌≡◌, length}
use Rattle.octets.specs.Same.{same_bytes}
use Rattle.octets.proofs.same.Given as goal

abbrev pub invariant-loop-front : goal.invariant-loop-front
invariant-loop-front l = (length l.left ≡ length l.right) × (same_bytes l.left l.right ≡ same_bytes l.a l.b)

abbrev pub decreases-loop-front : goal.decreases-loop-front
decreases-loop-front l = length l.left
