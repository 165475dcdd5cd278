-- Past the end the bytes stand for 0; a part that ends early is what there is.
use Rattle.std.proofs.Common.{◌≡◌, ◌≤◌, ◌-◌, length, take, drop, ap, sym, ◌∙◌, arith, length-take, length-drop, drop_of_length-le}
use native.Mathlib.Nat.{lt_of_lt_of_le, pow-le-pow_right, one-le-pow}
use lib.Seq.{take_all, take-nil}
use Rattle.octets.specs.Number.{from_le}
use Rattle.octets.proofs.read_at.Goals as goal

pub returns-then-s-at : goal.returns-then-s-at
unfolding from_le
returns-then-s-at c =
    let a = c.args in
    let past : length a.s.now ≤ a.at = omega arith in
    (rw (drop_of_length-le a.s.now past, take-nil a.n), one-le-pow a.n 256 (omega arith))

pub returns-then-s-at-2 : goal.returns-then-s-at-2
returns-then-s-at-2 c =
    let a = c.args in
    let s = a.s.now in
    let whole : take (length s - a.at) (drop a.at s) ≡ drop a.at s = take_all (length s - a.at) (drop a.at s) (omega (arith, length-drop a.at s)) in
    let short : length (take (length s - a.at) (drop a.at s)) ≤ a.n = omega (arith, length-take (length s - a.at) (drop a.at s)) in (
      c.read_le.ensures.0 ∙ ap from_le (whole ∙ sym (take_all a.n (drop a.at s) (omega (arith, length-drop a.at s)))),
      lt_of_lt_of_le c.read_le.ensures.1 (pow-le-pow_right (omega arith) short),
    )
