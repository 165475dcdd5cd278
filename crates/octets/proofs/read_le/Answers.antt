-- Each turn puts one byte more in front, and there is room for eight.
use Rattle.std.proofs.Common.{◌≡◌, ◌+◌, ◌-◌, suc, length, sym, ap, arith, drop_of_length-le}
use native.Mathlib.Nat.{one-le-pow, sub-zero}
use Rattle.octets.specs.Number.{from_le}
use Rattle.octets.proofs.NumberLaws.{byte_more, byte_fits}
use Rattle.octets.proofs.WriteLaws.{drop_next}
use Rattle.octets.proofs.read_le.Goals as goal

pub loop-i-init : goal.loop-i-init
unfolding from_le
loop-i-init c = (ap from_le (sym (drop_of_length-le c.args.s.now (omega arith))), one-le-pow _ 256 (omega arith))

pub overflow_mul-v : goal.overflow_mul-v
overflow_mul-v c =
    let l = c.loop-i in
    record { fits = omega (arith, byte_fits (length c.args.s.now - l.i) l.v 0 (omega arith) l.invariant.1 (omega arith)) }

pub overflow_add-v : goal.overflow_add-v
overflow_add-v c =
    let l = c.loop-i in
    record { fits = omega (arith, byte_fits (length c.args.s.now - l.i) l.v c.from.result (omega arith) l.invariant.1 (omega arith)) }

pub loop-i-preserved : goal.loop-i-preserved
unfolding from_le
loop-i-preserved c =
    let l = c.loop-i in
    let s = c.args.s.now in
    let here : l.i - 1 + 1 ≡ l.i = omega arith in
    let wider : length s - (l.i - 1) ≡ suc (length s - l.i) = omega arith in (
      rw (drop_next s (l.i - 1) (omega arith), here, ← l.invariant.0, c.from.ensures),
      rw wider (byte_more (length s - l.i) l.v c.from.result l.invariant.1 (omega arith)),
    )

pub returns : goal.returns
returns c =
    let l = c.loop-i in
    let z : l.i ≡ 0 = omega arith in
    (rw z at l.invariant.0, rw (z, sub-zero) at l.invariant.1)
