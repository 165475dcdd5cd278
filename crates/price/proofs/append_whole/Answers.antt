use Rattle.std.proofs.Common.{◌≡◌, ◌<◌, length, ap, arith}
use borrow.Author.Tests.{eq-eqb}
use Rattle.octets.specs.Text.{text}
use Rattle.octets.proofs.FieldLaws.{holds_more}
use Rattle.price.specs.Price.{drop_zeros, shown_whole}
use Rattle.price.proofs.PriceLaws.{empty_some}
use Rattle.price.proofs.append_whole.Goals as goal

pub returns-then-is_empty : goal.returns-then-is_empty
unfolding shown_whole text
returns-then-is_empty c =
    let none : length (drop_zeros c.args.w.now) ≡ 0 = grind (arith, ap length c.drop_zeros-kept.ensures) in
    rw (eq-eqb _ _ none) (λ n xs h. holds_more (text "0") h c.append.ensures)

pub returns : goal.returns
unfolding shown_whole
returns c =
    let some : 0 < length (drop_zeros c.args.w.now) = grind (arith, ap length c.drop_zeros-kept.ensures) in
    rw (empty_some _ some, ← c.drop_zeros-kept.ensures) (λ n xs h. holds_more c.drop_zeros-kept.result.now h c.append-2.ensures)
