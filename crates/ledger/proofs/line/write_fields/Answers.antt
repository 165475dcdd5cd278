-- The fields are written in their order, each behind the one before it.
use Rattle.std.proofs.Common.{refl, arith}
use Rattle.octets.proofs.NumberLaws.{length_digits}
use Rattle.octets.proofs.FieldRun.{then_written, then_exact, last_exact}
use Rattle.ledger.specs.Line.{identifier_digits}
use Rattle.ledger.proofs.RowLaws.{byte_written}
use Rattle.ledger.proofs.LineLaws.{line_written}
use Rattle.ledger.proofs.line.write_fields.Goals as goal

pub returns : goal.returns
returns c =
    line_written _ _ _ _ _ _ c.told-dst
    (then_exact _ _ (length_digits identifier_digits _) _ _ c.digits_at.ensures
    (then_written _ _ _ _ c.previous_at.ensures
    (then_written _ _ _ _ (rw c.element.ensures.0 at c.field_at.ensures)
    (then_written _ _ _ _ (rw c.element-2.ensures.0 at c.field_at-2.ensures)
    (then_written _ _ _ _ (rw c.element-3.ensures.0 at c.field_at-3.ensures)
    (then_exact _ _ c.args.shown.terms_whole _ _ c.copy_at.ensures
    (last_exact _ _ refl _ (byte_written _ _ _ (omega arith)))))))))
