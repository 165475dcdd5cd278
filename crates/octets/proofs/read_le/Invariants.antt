-- What is read so far is the number that the bytes from i on stand for.
use Rattle.std.proofs.Common.{◌≡◌, ◌-◌, ◌<◌, ◌^◌, length, drop}
use Rattle.octets.specs.Number.{from_le}
use Rattle.octets.proofs.read_le.Given as goal

abbrev pub invariant-loop-i : goal.invariant-loop-i
invariant-loop-i l = (l.v ≡ from_le (drop l.i l.s)) × (l.v < 256 ^ (length l.s - l.i))
