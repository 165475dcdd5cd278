-- Computed over the table. Assumes nothing.
use Rattle.std.proofs.Common.{refl, sym, ◌∙◌}
use Rattle.octets.specs.Search.{all_from}
use Rattle.elements.specs.Table.{element_of}
use Rattle.elements.proofs.TakenLaws.{full_up_to, short_up_to}
use Rattle.elements.proofs.messages.taken_up_to.Goals as goal

pub returns-then-is_full : goal.returns-then-is_full
unfolding element_of all_from
returns-then-is_full c = full_up_to c.args.a (sym c.is_full.ensures ∙ c.if-is_full.true) _ refl

pub returns : goal.returns
unfolding element_of all_from
returns c = short_up_to c.args.a _ refl
