-- The part that was lent is the row, and what comes back is as long.
use Rattle.std.proofs.Common.{◌≡◌, take, ap, ◌∙◌}
use Rattle.std.proofs.lemmas.Option.{MatchOption-at_some}
use Rattle.ledger.specs.Layout.{row_size, row_start}
use Rattle.ledger.specs.Rows.{row_at, row_after}
use Rattle.ledger.proofs.RowLaws.{length_row, row_back}
use Rattle.ledger.proofs.RowAfterLaws.{length_row_after}
use Rattle.ledger.proofs.rows.store_row.Goals as goal
use Rattle.ledger.proofs.rows.store_row.Goals.{After-update_row}

lent : (c : After-update_row) → c.unwrap.result.now ≡ row_at c.args.l.now c.args.k
unfolding row_at
lent c = (MatchOption-at_some _ _ _ c.unwrap.ensures c.first_chunk_mut.ensures.cases).same ∙ ap (take row_size) c.split_at_mut-rest.ensures.back

pub returns : goal.returns
returns c =
    let a = c.args.change in
    let l = c.args.l.now in
    let k = c.args.k in
    let size = length_row_after a.action a.due a.status a.uti.now a.identifier a.terms.now (row_at l k) a.whole_terms (length_row l k c.requires) in
    let row = c.update_row.ensures ∙ ap (row_after a.action a.due a.status a.uti.now a.identifier a.terms.now) (lent (goal.at.returns c).After-update_row) in
    rw (c.split_at_mut-rest.ensures.front, c.split_at_mut-rest.ensures.back) (row_back l _ _ (row_start k) row_size row size)
