-- The codes of the array are the texts of the codes that the specification lists.
use Rattle.std.proofs.Common.{◌∙◌}
use Rattle.octets.specs.Text.{text}
use Rattle.octets.proofs.SameLaws.{one_listed}
use Rattle.values.specs.Code.{price_notations, is_price_notation}
use Rattle.values.proofs.code.is_price_notation.Goals as goal

pub returns : goal.returns
unfolding is_price_notation text
returns c = c.has_code.ensures ∙ one_listed c.args.v.now price_notations
