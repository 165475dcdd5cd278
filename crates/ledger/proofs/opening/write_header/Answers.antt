-- The part that was lent is a header long, and so is what comes back.
use Rattle.octets.proofs.PartLaws.{lent_back}
use Rattle.ledger.specs.Layout.{header_size}
use Rattle.ledger.proofs.NewHeader.{length_header}
use Rattle.ledger.proofs.opening.write_header.Goals as goal

pub returns : goal.returns
returns c = lent_back _ _ _ 0 header_size c.write_numbers.ensures (length_header _ _)
