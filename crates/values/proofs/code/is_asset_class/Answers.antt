-- The codes of the array are the texts of the codes that the specification lists.
use Rattle.std.proofs.Common.{◌∙◌}
use Rattle.octets.specs.Text.{text}
use Rattle.octets.proofs.SameLaws.{one_listed}
use Rattle.values.specs.Code.{asset_classes, is_asset_class}
use Rattle.values.proofs.code.is_asset_class.Goals as goal

pub returns : goal.returns
unfolding is_asset_class text
returns c = c.has_code.ensures ∙ one_listed c.args.v.now asset_classes
