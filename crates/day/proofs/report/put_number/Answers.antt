use Rattle.std.proofs.Common.{◌≡◌, ◌+◌, [], ◌∷◌, ◌++◌, ap, subst, set, arith}
use Rattle.octets.specs.Bytes.{Bytes}
use Rattle.octets.specs.Number.{digits}
use Rattle.octets.proofs.NumberLaws.{length_digits}
use Rattle.day.specs.Report.{decimal, Put}
use Rattle.day.proofs.ReportLaws.{put_set}
use Rattle.day.proofs.report.put_number.Goals as goal

pub returns-clause-put : goal.returns-clause-put
unfolding decimal
returns-clause-put c =
    let a = c.args in
    let shown : digits c.digit_count-count.result a.n ≡ decimal a.n = ap (λ j. digits j a.n) c.digit_count-count.ensures.value.0 in
    let Shows : Bytes → Type 0 = λ ys. Put a.out.now a.at (ys ++ (a.end ∷ [])) (set c.digits_at.new.dst (a.at + c.digit_count-count.result) a.end) (a.at + c.digit_count-count.result + 1) in
    subst Shows shown (put_set a.out.now _ a.at _ a.end (length_digits _ a.n) (omega arith) c.digits_at.ensures)
