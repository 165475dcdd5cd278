-- The bytes before the index are written, and those of what is left of v are the others.
use Rattle.std.proofs.Common.{◌≡◌, ◌-◌, ◌++◌, length, take}
use Rattle.octets.specs.Number.{to_le}
use Rattle.octets.proofs.write_le.Given as goal

abbrev pub invariant-loop-b : goal.invariant-loop-b
invariant-loop-b l =
    take l.b-index l.b-items ++ to_le (length l.fn.dst - l.b-index) l.rest ≡ to_le (length l.fn.dst) l.v
