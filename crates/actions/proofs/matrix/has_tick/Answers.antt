-- The table has at each place what the rows of the specification say. Assumes nothing.
use Rattle.std.proofs.Common.{rules, ◌+◌, false}
use Rattle.octets.specs.Text.{text}
use Rattle.actions.specs.Matrix.{no_event, tick}
use Rattle.actions.proofs.TableLaws.{numbers, table_at}
use Rattle.actions.proofs.matrix.has_tick.Goals as goal

pub returns : goal.returns
unfolding numbers tick text
returns c =
    let row = c.columns_of-row.ensures in
    table_at tick (no_event + 1) c.columns_of-row.result.place c.args.a c.args.column false row.0 row.1 (search rules)
