-- Of the right length, a pattern is told by each pair of bytes. Assumes nothing.
use Rattle.std.proofs.Common.{rules, ◌∙◌}
use borrow.Author.Tests.{tests}
use Rattle.std.proofs.lemmas.Iterator.{YieldsList-from_slice, YieldsList-from_zip}
use Rattle.std.proofs.lemmas.Iterator.Search.{all_from_yields_List}
use Rattle.dates.proofs.OrderLaws.{pair_fits, fits_pairs}
use Rattle.dates.proofs.fits_pattern.Goals as goal

pub returns-then-v-p : goal.returns-then-v-p
returns-then-v-p c =
    let v = c.args.v.now in
    let p = c.args.p.now in
    all_from_yields_List pair_fits c.all.new.self _ _ c.all.ensures.ran (YieldsList-from_zip (YieldsList-from_slice v cc) (YieldsList-from_slice p cc)) (λ x b q k. search (rules, tests))
    ∙ fits_pairs p v c.if-v-p.true
