-- The last words are apart, or what stands before them decides; of what is left at last, all pairs are the same.
use Rattle.std.proofs.Common.{rules, tests, length, sym, ap, ◌∙◌, arith}
use Rattle.std.proofs.lemmas.Iterator.{same_from_all, YieldsList-from_zip, YieldsList-from_slice}
use Rattle.std.proofs.lemmas.Bool.Decides.{same_from_decides}
use Rattle.octets.proofs.SameLaws.{same_decides, same_false, ne_true, ne_false, ends_apart, fronts_decide}
use Rattle.octets.proofs.same.Goals as goal

pub returns-then-a-b : goal.returns-then-a-b
returns-then-a-b c = sym (same_false _ _ (λ e. c.if-a-b.true (ap length e)))

pub returns-then-ne : goal.returns-then-ne
returns-then-ne c =
    let l = c.loop-front in
    let s = c.in-Some-Some in
    sym (ends_apart 8 l.left.now l.right.now (λ e. ne_true s.word.now s.other.now (sym c.ne.ensures ∙ c.if-ne.true) (s.ensures.cases.1 ∙ e ∙ sym s.ensures'.cases.1)))
    ∙ l.invariant.1

pub loop-front-preserved : goal.loop-front-preserved
loop-front-preserved c =
    let l = c.loop-front in
    let s = c.in-Some-Some in (
      omega (arith, l.invariant.0, s.ensures.cases.2, s.ensures'.cases.2),
      rw (s.ensures.cases.0, s.ensures'.cases.0)
          (fronts_decide 8 l.left.now l.right.now (sym s.ensures.cases.1 ∙ ne_false s.word.now s.other.now (sym c.ne.ensures ∙ c.if-ne.false) ∙ s.ensures'.cases.1)
          ∙ l.invariant.1),
    )

pub returns : goal.returns
returns c =
    let l = c.loop-front in
    let a = l.left.now in
    let b = l.right.now in
    same_from_decides
    _
    _
    (same_from_all
    c.all.new.self
    _
    c.all.result
    a
    b
    c.all.ensures.ran
    (YieldsList-from_zip (YieldsList-from_slice a (cc)) (YieldsList-from_slice b (cc)))
    l.invariant.0
    (λ x q h. search (rules, tests))
    (λ x q h. search (rules, tests)))
    (same_decides a b)
    ∙ l.invariant.1
