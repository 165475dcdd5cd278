-- The part that was lent is a line long, and so is what comes back.
use Rattle.octets.proofs.PartLaws.{lent_back}
use Rattle.ledger.specs.Layout.{line_size}
use Rattle.ledger.proofs.LineLaws.{length_line}
use Rattle.ledger.proofs.line.write_line.Goals as goal

pub returns-clause-tape_after : goal.returns-clause-tape_after
returns-clause-tape_after c = lent_back _ _ _ 0 line_size c.write_fields.ensures (length_line _ _ _ _ _)
