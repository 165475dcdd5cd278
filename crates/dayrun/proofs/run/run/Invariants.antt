-- Nothing of the input is passed, fewer bytes wait than are written at a time, and less is kept than the longest message.
use Rattle.std.proofs.Common.{◌≡◌, ◌<◌, true}
use Rattle.day.specs.Frame.{longest_frame}
use Rattle.dayrun.specs.Day.{most_messages}
use Rattle.dayrun.specs.Progress.{write_size, Within}
use Rattle.dayrun.proofs.run.run.Given as goal

abbrev pub invariant-loop : goal.invariant-loop
invariant-loop l = record {
  within : Within 0 write_size l.p;
  few_kept : l.p.is_open ≡ true → l.p.judged < most_messages → l.kept < longest_frame;
}
