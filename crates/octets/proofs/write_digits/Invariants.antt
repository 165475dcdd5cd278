-- The digits from i on are written, and the rest of the number is for those before.
use Rattle.std.proofs.Common.{◌≡◌, ◌++◌, length, drop}
use Rattle.octets.specs.Number.{digits}
use Rattle.octets.proofs.write_digits.Given as goal

abbrev pub invariant-loop-i : goal.invariant-loop-i
invariant-loop-i l = digits l.i l.rest ++ drop l.i l.dst ≡ digits (length l.fn.dst) l.v
