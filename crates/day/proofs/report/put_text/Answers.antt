use Rattle.std.proofs.Common.{refl, arith}
use Rattle.day.proofs.ReportLaws.{put_set}
use Rattle.day.proofs.report.put_text.Goals as goal

pub returns : goal.returns
returns c =
    let a = c.args in
    put_set a.out.now a.s.now a.at _ a.end refl (omega arith) c.copy_at.ensures
