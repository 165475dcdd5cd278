-- Each turn writes the digit before those that stand.
use Rattle.std.proofs.Common.{◌≡◌, length, sym, ◌∙◌, append-nil, arith, drop_of_length-le}
use Rattle.octets.specs.Number.{digits}
use Rattle.octets.proofs.NumberLaws.{digit_more}
use Rattle.octets.proofs.write_digits.Goals as goal

pub loop-i-init : goal.loop-i-init
loop-i-init c = rw (drop_of_length-le c.args.dst.now {i = length c.args.dst.now} (omega arith)) (append-nil _)

pub loop-i-preserved : goal.loop-i-preserved
loop-i-preserved c =
    let l = c.loop-i in
    sym (digit_more l.i l.rest l.dst c.loop-i-test.true (omega arith)) ∙ l.invariant

pub returns : goal.returns
unfolding digits
returns c =
    let l = c.loop-i in
    let z : l.i ≡ 0 = omega arith in
    rw z at l.invariant
