-- The range that is lent is as long as a row.
use Rattle.std.proofs.Common.{◌∙◌}
use Rattle.std.proofs.lemmas.Option.{MatchOption-at_some}
use Rattle.ledger.proofs.RowLaws.{row_lent}
use Rattle.ledger.proofs.row.row_at.Goals as goal

pub returns : goal.returns
returns c = (MatchOption-at_some _ _ _ c.unwrap.ensures c.as_array.ensures.cases).same ∙ row_lent _ _
