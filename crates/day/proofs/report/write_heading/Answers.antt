use Rattle.std.proofs.Common.{arith}
use Rattle.octets.specs.Text.{text}
use Rattle.day.specs.Report.{line, heading}
use Rattle.day.proofs.ReportLaws.{put_four}
use Rattle.day.proofs.report.write_heading.Goals as goal

pub returns-clause-put : goal.returns-clause-put
unfolding text line heading
returns-clause-put c =
    let first = c.put_text-verdict.ensures in
    let second = c.put_text-element.ensures in
    let third = c.put_text-record.ensures in
    let last = c.put_text.ensures in
    put_four _ _ _ _ first second third last (omega (arith, first.place, second.place, third.place, last.place))
