-- The test of code k: it is found, or it is found from the next one on.
use Rattle.std.proofs.Common.{ℕ, ◌*◌, ◌≡◌, Bool, sym, ap, ◌∙◌, arith}
use Rattle.octets.specs.Bytes.{Bytes}
use Rattle.octets.specs.Part.{part}
use Rattle.octets.specs.Same.{same_bytes}
use Rattle.octets.proofs.SearchLaws.{first_more, first_stop, first_end}
use Rattle.octets.proofs.place_in.Goals as goal
use Rattle.octets.proofs.place_in.Goals.{After-same}

abbrev Is : Bytes → Bytes → ℕ → ℕ → Bool
Is v codes width k = same_bytes v (part codes (k * width) width)

-- what the test tells of code k
told : (c : After-same) → Is c.args.v.now c.args.codes.now c.args.width c.loop-k.k ≡ c.same.result
told c = ap (same_bytes _) (sym c.part_of.ensures.0) ∙ sym c.same.ensures

pub returns-then-same : goal.returns-then-same
returns-then-same c =
    let a = c.args in
    sym (first_stop (Is a.v.now a.codes.now a.width) c.loop-k.k a.count c.loop-k-test.true (told (goal.at.returns-then-same c).After-same ∙ c.if-same.true)) ∙ c.loop-k.invariant

pub loop-k-preserved : goal.loop-k-preserved
loop-k-preserved c =
    let a = c.args in
    sym (first_more (Is a.v.now a.codes.now a.width) c.loop-k.k a.count c.loop-k-test.true (told (goal.at.loop-k-preserved c).After-same ∙ c.if-same.false)) ∙ c.loop-k.invariant

pub returns : goal.returns
returns c =
    let a = c.args in
    let last : c.loop-k.k ≡ a.count = omega arith in
    sym last ∙ sym (first_end (Is a.v.now a.codes.now a.width) c.loop-k.k a.count (omega arith)) ∙ c.loop-k.invariant
