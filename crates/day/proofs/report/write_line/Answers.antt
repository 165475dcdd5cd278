use Rattle.std.proofs.Common.{arith}
use Rattle.day.specs.Report.{line, report_line}
use Rattle.day.proofs.ReportLaws.{put_four}
use Rattle.day.proofs.report.write_line.Goals as goal

pub returns-clause-put : goal.returns-clause-put
unfolding line report_line
returns-clause-put c =
    put_four _ _ _ _ c.put_number-second.ensures.put c.put_number-third.ensures.put c.put_number-fourth.ensures.put c.put_number.ensures.put (omega arith)
