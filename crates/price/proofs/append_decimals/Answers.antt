use Rattle.std.proofs.Common.{◌≡◌, ◌<◌, length, ap, append-nil, append_assoc, arith}
use borrow.Author.Tests.{eq-eqb}
use Rattle.octets.specs.Text.{text}
use Rattle.octets.proofs.FieldLaws.{holds_more}
use Rattle.price.specs.Price.{trim_zeros, shown_decimals}
use Rattle.price.proofs.PriceLaws.{empty_some}
use Rattle.price.proofs.append_decimals.Goals as goal

pub returns-then-is_empty : goal.returns-then-is_empty
unfolding shown_decimals
returns-then-is_empty c =
    let none : length (trim_zeros c.args.d.now) ≡ 0 = grind (arith, ap length c.trim_zeros-rest.ensures) in
    rw (eq-eqb _ _ none) (λ n xs h. rw append-nil h)

pub returns : goal.returns
unfolding shown_decimals text
returns c =
    let some : 0 < length (trim_zeros c.args.d.now) = grind (arith, ap length c.trim_zeros-rest.ensures) in
    rw (empty_some _ some, ← c.trim_zeros-rest.ensures) (λ n xs h. rw append_assoc at (holds_more c.trim_zeros-rest.result.now (holds_more (text ".") h c.append-next.ensures) c.append.ensures))
