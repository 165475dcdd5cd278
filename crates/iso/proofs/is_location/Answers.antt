-- The numbers of the arm are those of the list, both computed. Assumes nothing.
use Rattle.std.proofs.Common.{◌≡◌, true, refl, ◌∙◌, arith, rules}
use Rattle.octets.specs.Search.{all_from}
use Rattle.octets.specs.Text.{text}
use Rattle.values.specs.Limits.{location_size}
use Rattle.values.specs.Run.{run_of}
use Rattle.iso.specs.Lists.{iso3166}
use Rattle.iso.specs.Codes.{is_location, LocationCapitals}
use Rattle.iso.proofs.ListLaws.{each, capitals, read_on, number, numbers, number_two, listed_capitals, other_length, listed, not_listed}
use Rattle.iso.proofs.is_location.Goals as goal

test : capitals location_size iso3166 ≡ true
unfolding capitals each iso3166 run_of all_from text
test = refl

law : LocationCapitals
unfolding is_location
law = listed_capitals location_size iso3166 test

pub returns-in_default : goal.returns-in_default
unfolding is_location
returns-in_default c = record { value = other_length location_size iso3166 test c.args.v.now (λ e. omega arith); location_capitals = law }

pub returns-in_default-2 : goal.returns-in_default-2
unfolding is_location
returns-in_default-2 c = record { value = other_length location_size iso3166 test c.args.v.now (λ e. omega arith); location_capitals = law }

pub returns-in-4277248 : goal.returns-in-4277248
unfolding is_location iso3166 numbers number read_on text
returns-in-4277248 c =
    let v = c.args.v.now in
    let n = c.from_be_bytes.result in
    record { value = listed location_size iso3166 test v n (c.from_be_bytes.ensures ∙ number_two v (omega arith)) (omega arith) (λ k. (c.type_inv.v k).fits) c.in-4277248.is; location_capitals = law }

pub returns-in_default-from_be_bytes : goal.returns-in_default-from_be_bytes
unfolding is_location iso3166 numbers number read_on text
returns-in_default-from_be_bytes c =
    let v = c.args.v.now in
    let n = c.from_be_bytes.result in
    record { value = not_listed location_size iso3166 test v n (c.from_be_bytes.ensures ∙ number_two v (omega arith)) (search rules); location_capitals = law }
