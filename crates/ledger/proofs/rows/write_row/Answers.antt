-- The fields are written in their order, each behind the one before it.
use Rattle.std.proofs.Common.{refl, arith}
use Rattle.octets.proofs.NumberLaws.{length-to_le}
use Rattle.octets.proofs.FieldRun.{then_written, then_exact, last_exact}
use Rattle.ledger.specs.Layout.{u64}
use Rattle.ledger.specs.Rows.{with_status}
use Rattle.ledger.proofs.RowLaws.{byte_written}
use Rattle.ledger.proofs.RowAfterLaws.{row_written}
use Rattle.ledger.proofs.rows.write_row.Goals as goal

pub returns : goal.returns
unfolding with_status
returns c =
    row_written _ _ _ _ _ c.told-row
    (then_exact _ _ refl _ _ c.set_status.ensures
    (then_exact _ _ refl _ _ (byte_written _ _ _ (omega arith))
    (then_written _ _ _ _ c.field_at.ensures
    (then_exact _ _ (length-to_le u64 _) _ _ c.write_at.ensures
    (then_exact _ _ c.args.change.whole_terms _ _ c.copy_at.ensures
    (last_exact _ _ refl _ c.fill_at.ensures))))))
