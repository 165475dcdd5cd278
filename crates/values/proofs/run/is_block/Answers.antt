-- The fold is the test of each byte.
use Rattle.std.proofs.Common.{rules, true, ◌∙◌}
use mathlib.Core.Bool.{◌&&◌}
use borrow.Author.Tests.{tests}
use Rattle.std.proofs.lemmas.Iterator.{YieldsList-from_slice}
use Rattle.std.proofs.lemmas.Iterator.Consumers.{fold_from_yields_List}
use Rattle.values.specs.Run.{in_class}
use Rattle.values.proofs.RunLaws.{fold_bytes}
use Rattle.values.proofs.run.is_block.Goals as goal

pub returns : goal.returns
returns c =
    let v = c.args.v.now in
    fold_from_yields_List _ (λ t b. t && in_class c.args.class b) true c.fold.result c.fold.ensures.ran (YieldsList-from_slice v cc) (λ x t r q k. search (rules, tests)) ∙ fold_bytes (in_class c.args.class) v
