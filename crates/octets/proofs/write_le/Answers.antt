-- Each turn writes the next byte of what is left.
use Rattle.std.proofs.Common.{◌+◌, ◌-◌, ◌/◌, ◌%◌, ◌≡◌, suc, length, arith}
use Rattle.octets.specs.Number.{to_le}
use Rattle.octets.proofs.WriteLaws.{turn, finish, left_one}
use Rattle.octets.proofs.write_le.Goals as goal

pub loop-b-preserved : goal.loop-b-preserved
unfolding to_le
loop-b-preserved c =
    let l = c.loop-b in
    let n = length c.args.dst.now in
    let next : n - l.b-index ≡ suc (n - (l.b-index + 1)) = left_one n l.b-index (omega arith) in
    turn l.b-items l.b-index (l.rest % 256) (to_le (n - (l.b-index + 1)) (l.rest / 256)) (to_le n c.args.v) (omega arith) (rw next at l.invariant)

pub returns : goal.returns
unfolding to_le
returns c =
    let l = c.loop-b in
    let none : length c.args.dst.now - l.b-index ≡ 0 = omega arith in
    finish l.b-items (to_le (length c.args.dst.now - l.b-index) l.rest) _ l.b-index (omega arith) (rw none) l.invariant
