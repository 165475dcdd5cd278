-- The cursor goes on over an entry whose element is there, and stays where the element is missing.
use Rattle.std.proofs.Common.{sym, ◌∙◌}
use Rattle.message.proofs.ReadingLaws.{reached_over, reached_past}
use Rattle.message.proofs.laid.Cursor.value_of.Goals as goal

pub returns-then-not-is_here-clause-reached : goal.returns-then-not-is_here-clause-reached
returns-then-not-is_here-clause-reached c =
    let s = c.args.self.now in
    reached_past s.message.src.now s.message.laid c.args.code s.at c.requires (sym c.is_here.ensures.value ∙ c.if-not-is_here.true)

pub returns-clause-reached : goal.returns-clause-reached
returns-clause-reached c =
    let s = c.args.self.now in
    rw c.next_place-self.ensures.0 (reached_over s.message.src.now s.message.laid c.args.code s.at c.requires (sym c.is_here.ensures.value ∙ c.if-not-is_here.false))
