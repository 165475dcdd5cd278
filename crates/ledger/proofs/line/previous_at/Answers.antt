-- Spaces are the field of no text, and twelve digits fill their field.
use Rattle.std.proofs.Common.{sym, ap, ◌∙◌}
use Rattle.octets.specs.Part.{splice}
use Rattle.octets.specs.Field.{field}
use Rattle.octets.proofs.NumberLaws.{length_digits}
use Rattle.octets.proofs.FieldLaws.{field_exact}
use Rattle.ledger.specs.Line.{identifier_digits}
use Rattle.ledger.proofs.line.previous_at.Goals as goal

pub returns-then-is_new : goal.returns-then-is_new
unfolding field
returns-then-is_new c = rw (← c.if-is_new.ensures) c.fill_at.ensures

pub returns-else-is_new : goal.returns-else-is_new
returns-else-is_new c =
    rw (← c.if-is_new.ensures)
    (c.digits_at.ensures ∙ ap (splice _ _) (sym (field_exact identifier_digits _ (length_digits identifier_digits _))))
