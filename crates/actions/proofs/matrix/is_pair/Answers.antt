-- With an event, its column is the place of its code.
use Rattle.std.proofs.Common.{Some, None, sym, ◌∙◌}
use Rattle.octets.specs.Text.{text}
use Rattle.actions.specs.Matrix.{pair_allowed}
use Rattle.actions.proofs.MatrixLaws.{pair_column}
use Rattle.actions.proofs.matrix.is_pair.Goals as goal

pub returns-then-is_empty-clause-value : goal.returns-then-is_empty-clause-value
unfolding pair_allowed
returns-then-is_empty-clause-value c = rw (sym c.is_empty.ensures ∙ c.if-is_empty.true) c.has_tick.ensures

pub returns-in_default-clause-value : goal.returns-in_default-clause-value
unfolding text
returns-in_default-clause-value c =
    pair_column c.args.a c.args.event.now None (sym c.is_empty.ensures ∙ c.if-is_empty.false) (sym c.in_default.is ∙ c.find_code.ensures)

pub returns-clause-value : goal.returns-clause-value
unfolding text
returns-clause-value c =
    c.has_tick-2.ensures
    ∙ pair_column c.args.a c.args.event.now (Some c.in-Some.column) (sym c.is_empty.ensures ∙ c.if-is_empty.false) (sym c.in-Some.is ∙ c.find_code.ensures)
