use Rattle.octets.specs.Field.{field}
use Rattle.octets.proofs.PartLaws.{lent_filled}
use Rattle.octets.proofs.FieldLaws.{length_field}
use Rattle.price.specs.Price.{shown_price}
use Rattle.price.proofs.price_at.Goals as goal

pub returns : goal.returns
returns c =
    lent_filled _ _ _ _ (λ k. field k (shown_price c.args.v.now)) (λ k. length_field k _) c.requires c.write_price.ensures.dst_after
