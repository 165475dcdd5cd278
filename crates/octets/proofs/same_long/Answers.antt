-- Bytes that differ at an end are not the same.
use Rattle.std.proofs.Common.{sym, ap, drop, take, length, ◌∙◌, ◌-◌}
use Rattle.octets.proofs.SameLaws.{chunks_apart, same_false}
use Rattle.octets.proofs.same_long.Goals as goal

pub returns-then-a-b : goal.returns-then-a-b
returns-then-a-b c = sym (same_false _ _ (λ e. c.if-a-b.true (ap length e)))

pub returns-then-ne : goal.returns-then-ne
returns-then-ne c =
    let a = c.args.a.now in
    chunks_apart
    a
    _
    (drop (length a - 8) a)
    c.last_chunk.result
    c.last_chunk-2.result
    c.last_chunk.ensures.cases
    (λ e. rw (sym e) at c.last_chunk-2.ensures.cases)
    (λ y h. (h.0, h.1.same))
    (sym c.ne.ensures ∙ c.if-ne.true)

pub returns-then-ne-2 : goal.returns-then-ne-2
returns-then-ne-2 c =
    let a = c.args.a.now in
    chunks_apart
    a
    _
    (take 8 a)
    c.first_chunk.result
    c.first_chunk-2.result
    c.first_chunk.ensures.cases
    (λ e. rw (sym e) at c.first_chunk-2.ensures.cases)
    (λ y h. (h.enough, h.same))
    (sym c.ne-2.ensures ∙ c.if-ne-2.true)
