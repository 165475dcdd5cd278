use Rattle.std.proofs.Common.{◌<◌, ◌≤◌, length, arith}
use borrow.Author.Tests.{leb-false}
use Rattle.dayrun.proofs.ProgressLaws.{written_within, judged_start, none_left, judged_none, judged_more}
use Rattle.dayrun.proofs.run.judge_block.Goals as goal

pub loop-p-init : goal.loop-p-init
loop-p-init c = record { within = c.requires.within; judged = judged_start _ _ _ _ }

pub returns-then-p-before-clause-judged_up_to : goal.returns-then-p-before-clause-judged_up_to
returns-then-p-before-clause-judged_up_to c =
    let e = c.judge_next-p.ensures in
    let l = c.loop-p.invariant in
    let room : c.judge_next-p.result.used ≤ length c.loop-p.out = omega (arith, e.steps.within.waiting, l.within.waiting) in
    judged_none l.judged e.value e.tape_after e.out_after room c.if-p-before.true

pub returns-then-p-before-clause-leaves : goal.returns-then-p-before-clause-leaves
returns-then-p-before-clause-leaves c =
    let e = c.judge_next-p.ensures in
    let stays = e.steps.stays c.if-p-before.true in
    λ _ _. (none_left c.loop-p.invariant.judged e.value e.tape_after c.if-p-before.true, omega (arith, stays.0, c.if-p-before.true))

pub loop-p-preserved : goal.loop-p-preserved
loop-p-preserved c =
    let e = c.judge_next-p.ensures in
    let l = c.loop-p.invariant in
    let w = c.write_enough-p.ensures in
    let room : c.judge_next-p.result.used ≤ length c.loop-p.out = omega (arith, e.steps.within.waiting, l.within.waiting) in
    let forward : c.loop-p.p.at < c.judge_next-p.result.at = omega (arith, e.steps.forward, c.if-p-before.false) in
    record {
      within = written_within _ _ _ _ _ _ w (leb-false _ _) e.steps.within;
      judged = judged_more l.judged e.value e.tape_after e.out_after room _ _ forward w;
    }
