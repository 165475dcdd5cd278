-- What is found among the codes from this one on is what is found.
use Rattle.std.proofs.Common.{arith, rules, ◌+◌, ◌<◌, ◌≤◌, sym, ◌∙◌}
use borrow.Author.Tests.{le-leb, lt-leb}
use Rattle.octets.proofs.SearchLaws.{first_more, first_stop, first_end}
use Rattle.message.specs.Reading.{Read}
use Rattle.elements.specs.Table.{last_code}
use Rattle.rules.specs.Findings.{lowest}
use Rattle.rules.proofs.checks.lowest_fault.Goals as goal

pub returns-then-is_at_fault : goal.returns-then-is_at_fault
unfolding lowest
returns-then-is_at_fault g c faulty decides =
    let l = c.loop-code in
    let read : Read c.args.message.src.now l.code c.value_of.result = rw l.invariant.same at c.value_of.ensures.value in
    let h : l.code < last_code + 1 = omega arith in
    let u : l.code ≤ last_code = omega arith in
    let found = first_stop faulty l.code (last_code + 1) h (sym (decides l.code _ _ u read c.is_at_fault.ensures) ∙ c.if-is_at_fault.true) in
    rw (sym (l.invariant.first faulty decides) ∙ found, le-leb _ _ u)

pub loop-code-preserved : goal.loop-code-preserved
loop-code-preserved g c =
    let l = c.loop-code in
    let read : Read c.args.message.src.now l.code c.value_of.result = rw l.invariant.same at c.value_of.ensures.value in
    let h : l.code < last_code + 1 = omega arith in
    let u : l.code ≤ last_code = omega arith in
    record {
      same = search rules;
      reached = search rules;
      first = λ faulty decides. sym (first_more faulty l.code (last_code + 1) h (sym (decides l.code _ _ u read c.is_at_fault.ensures) ∙ c.if-is_at_fault.false)) ∙ l.invariant.first faulty decides;
    }

pub returns : goal.returns
unfolding lowest
returns g c faulty decides =
    let l = c.loop-code in
    let h : last_code + 1 ≤ l.code = omega arith in
    let u : last_code < l.code = omega arith in
    rw (sym (l.invariant.first faulty decides) ∙ first_end faulty l.code (last_code + 1) h, lt-leb _ _ u)
