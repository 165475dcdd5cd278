-- The remainder stays below the modulus by what is promised of next_remainder.
use Rattle.std.proofs.Common.{ℕ, get_or, ◌∙◌, ap, arith}
use Rattle.values.specs.Lei.{next_remainder}
use Rattle.values.proofs.LeiLaws.{running_next}
use Rattle.values.proofs.lei.remainder_of.Goals as goal

pub loop-b-preserved : goal.loop-b-preserved
loop-b-preserved c =
    let l = c.loop-b in
    let v = c.args.v.now in
    let b : ℕ = get_or v l.b-index 0 in
    (c.next_remainder-r.ensures.value.1, c.next_remainder-r.ensures.value.0 ∙ ap (λ r. next_remainder r b) l.invariant.1 ∙ running_next v l.b-index (omega arith))
