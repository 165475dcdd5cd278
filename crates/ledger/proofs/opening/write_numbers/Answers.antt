-- The fields are written in their order, each behind the one before it.
use Rattle.octets.proofs.NumberLaws.{length-to_le}
use Rattle.octets.proofs.FieldRun.{then_exact, then_group}
use Rattle.ledger.specs.Layout.{u32, u64}
use Rattle.ledger.proofs.NewHeader.{header_written}
use Rattle.ledger.proofs.opening.write_numbers.Goals as goal

pub returns : goal.returns
returns c =
    header_written _ _ _ c.told-dst
    (then_exact _ _ (length-to_le u32 _) _ _ c.write_at.ensures
    (then_exact _ _ (length-to_le u32 _) _ _ c.write_at-2.ensures
    (then_exact _ _ (length-to_le u64 _) _ _ c.write_at-3.ensures
    (then_group _ _ _ _ c.write_caps.ensures
    (then_exact _ _ (length-to_le u32 _) _ _ c.write_at-4.ensures
    (then_exact _ _ (length-to_le u32 _) _ _ c.write_at-5.ensures
    c.write_totals.ensures))))))
