-- The caps are written in their order, each behind the one before it.
use Rattle.octets.proofs.NumberLaws.{length-to_le}
use Rattle.octets.proofs.FieldRun.{then_exact, last_exact}
use Rattle.ledger.specs.Layout.{u64}
use Rattle.ledger.proofs.opening.write_caps.Goals as goal

pub returns : goal.returns
returns c =
    then_exact _ _ (length-to_le u64 _) _ _ c.write_at.ensures
    (then_exact _ _ (length-to_le u64 _) _ _ c.write_at-2.ensures
    (then_exact _ _ (length-to_le u64 _) _ _ c.write_at-3.ensures
    (then_exact _ _ (length-to_le u64 _) _ _ c.write_at-4.ensures
    (last_exact _ _ (length-to_le u64 _) _ c.write_at-5.ensures))))
