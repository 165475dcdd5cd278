-- Four numbers 0 are as many zeros.
use Rattle.std.proofs.Common.{sym, ◌∙◌, rules}
use Rattle.octets.specs.Field.{field}
use Rattle.octets.specs.Fields.{bytes_of}
use Rattle.octets.specs.Number.{to_le}
use Rattle.octets.proofs.FieldRun.{written_row}
use Rattle.ledger.specs.Layout.{totals_at}
use Rattle.ledger.specs.Header.{total_fields}
use Rattle.ledger.proofs.opening.write_totals.Goals as goal

pub returns : goal.returns
unfolding bytes_of field to_le
returns c = c.fill_at.ensures ∙ sym (written_row totals_at total_fields _ (search rules))
