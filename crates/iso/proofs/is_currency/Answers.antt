-- The numbers of the arm are those of the list, both computed. Assumes nothing.
use Rattle.std.proofs.Common.{◌≡◌, true, refl, ◌∙◌, arith, rules}
use Rattle.octets.specs.Search.{all_from}
use Rattle.octets.specs.Text.{text}
use Rattle.values.specs.Limits.{currency_size}
use Rattle.values.specs.Run.{run_of}
use Rattle.iso.specs.Lists.{iso4217}
use Rattle.iso.specs.Codes.{is_currency, CurrencyCapitals}
use Rattle.iso.proofs.ListLaws.{each, capitals, read_on, number, numbers, number_three, listed_capitals, other_length, listed, not_listed}
use Rattle.iso.proofs.is_currency.Goals as goal

test : capitals currency_size iso4217 ≡ true
unfolding capitals each iso4217 run_of all_from text
test = refl

law : CurrencyCapitals
unfolding is_currency
law = listed_capitals currency_size iso4217 test

pub returns-in_default : goal.returns-in_default
unfolding is_currency
returns-in_default c = record { value = other_length currency_size iso4217 test c.args.v.now (λ e. omega arith); currency_capitals = law }

pub returns-in_default-2 : goal.returns-in_default-2
unfolding is_currency
returns-in_default-2 c = record { value = other_length currency_size iso4217 test c.args.v.now (λ e. omega arith); currency_capitals = law }

pub returns-in-1095058432 : goal.returns-in-1095058432
unfolding is_currency iso4217 numbers number read_on text
returns-in-1095058432 c =
    let v = c.args.v.now in
    let n = c.from_be_bytes.result in
    record { value = listed currency_size iso4217 test v n (c.from_be_bytes.ensures ∙ number_three v (omega arith)) (omega arith) (λ k. (c.type_inv.v k).fits) c.in-1095058432.is; currency_capitals = law }

pub returns-in_default-from_be_bytes : goal.returns-in_default-from_be_bytes
unfolding is_currency iso4217 numbers number read_on text
returns-in_default-from_be_bytes c =
    let v = c.args.v.now in
    let n = c.from_be_bytes.result in
    record { value = not_listed currency_size iso4217 test v n (c.from_be_bytes.ensures ∙ number_three v (omega arith)) (search rules); currency_capitals = law }
