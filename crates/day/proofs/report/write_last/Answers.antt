use Rattle.std.proofs.Common.{arith}
use Rattle.day.specs.Report.{line, last_line}
use Rattle.day.proofs.ReportLaws.{put_three}
use Rattle.day.proofs.report.write_last.Goals as goal

pub returns-clause-put : goal.returns-clause-put
unfolding line last_line
returns-clause-put c =
    put_three _ _ _ c.put_word-second.ensures.put c.put_number-third.ensures.put c.put_number.ensures.put (omega arith)
