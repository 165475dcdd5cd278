-- The search answers the first point. Assumes nothing.
use Rattle.std.proofs.Common.{rules}
use borrow.Author.Tests.{tests}
use Rattle.std.proofs.lemmas.Iterator.{YieldsList-from_slice}
use Rattle.std.proofs.lemmas.Iterator.Search.{position_from_yields_List}
use Rattle.numbers.proofs.NumbersLaws.{is_point, point_found}
use Rattle.numbers.proofs.point_in.Goals as goal

pub returns : goal.returns
returns c =
    let v = c.args.v.now in
    point_found v c.position.result (position_from_yields_List is_point _ _ _ c.position.ensures.ran (YieldsList-from_slice v cc) (λ x b q k. search (rules, tests)))
