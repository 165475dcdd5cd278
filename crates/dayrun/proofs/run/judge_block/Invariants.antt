-- The progress is within the input, and the messages before it are judged.
use Rattle.std.proofs.Common.{◌-◌, length}
use Rattle.submission.specs.Lent.{lent_of}
use Rattle.dayrun.specs.Day.{most_messages}
use Rattle.dayrun.specs.Progress.{write_size, JudgedUpTo, Within}
use Rattle.dayrun.proofs.run.judge_block.Given as goal

abbrev pub invariant-loop-p : goal.invariant-loop-p
invariant-loop-p l = record {
  within : Within (length l.input) write_size l.p;
  judged : JudgedUpTo (lent_of l.fn.ledger l.fn.tape) l.input l.fn.out l.initial.p (lent_of l.ledger l.tape) l.out l.p;
}

abbrev pub decreases-loop-p : goal.decreases-loop-p
decreases-loop-p l = most_messages - l.p.judged
