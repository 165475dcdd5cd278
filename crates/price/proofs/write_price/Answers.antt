-- The text is built piece by piece.
use Rattle.std.proofs.Common.{ap, ◌∙◌, length}
use Rattle.octets.specs.Field.{field}
use Rattle.octets.proofs.FieldLaws.{holds_none, holds_more}
use Rattle.price.proofs.PriceLaws.{shown_built, price_laws}
use Rattle.price.proofs.write_price.Goals as goal

pub returns-clause-dst_after : goal.returns-clause-dst_after
returns-clause-dst_after c =
    let v = c.args.v.now in
    let n = length c.args.dst.now in
    let empty = holds_none n _ c.fill.ensures in
    let signed = holds_more c.sign_of.result.now empty c.append-whole.ensures in
    let whole = c.append_whole-point.ensures n _ signed in
    let shown = c.append_decimals.ensures n _ whole in
    shown.bytes ∙ ap (field n) (shown_built v _ _ _ _ c.sign_of.ensures c.unsigned_of-u.ensures c.whole_of.ensures c.decimals_of.ensures)

pub returns-clause-price_laws : goal.returns-clause-price_laws
returns-clause-price_laws c = price_laws
