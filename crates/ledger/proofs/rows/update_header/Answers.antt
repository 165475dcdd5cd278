-- The numbers are written elsewhere: they leave the totals.
use Rattle.std.proofs.Common.{ap, ◌∙◌, rules}
use Rattle.actions.specs.Actions.{step_number}
use Rattle.ledger.specs.Totals.{totals_after}
use Rattle.ledger.specs.Rows.{header_after}
use Rattle.ledger.proofs.ReadBack.{numbers_total}
use Rattle.ledger.proofs.rows.update_header.Goals as goal

pub move_totals-requires : goal.move_totals-requires
move_totals-requires c =
    let p = c.requires in
    let a = c.args in
    (search rules, λ h. rw (c.raise_numbers.ensures, numbers_total a.a a.due a.rows a.next a.l.now p.0 (step_number a.before)) (p.3 h))

pub returns : goal.returns
unfolding header_after
returns c = c.move_totals.ensures ∙ ap (totals_after _ _) c.raise_numbers.ensures
