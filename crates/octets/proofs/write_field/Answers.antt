-- Spaces hold no text; then src is the text.
use Rattle.std.proofs.Common.{length}
use Rattle.octets.proofs.FieldLaws.{holds_none, holds_more}
use Rattle.octets.proofs.write_field.Goals as goal

pub returns : goal.returns
returns c = (holds_more c.args.src.now (holds_none (length c.args.dst.now) _ c.fill.ensures) c.append.ensures).bytes
