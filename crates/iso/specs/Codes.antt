-- Specification, clause 4.14: currencies and locations.
use Rattle.std.specs.Prelude.{Bool, true, ◌≡◌}
use Rattle.octets.specs.Bytes.{Bytes}
use Rattle.octets.specs.Same.{one_of}
use Rattle.values.specs.Limits.{currency_size, location_size}
use Rattle.values.specs.Run.{run_of}
use Rattle.values.specs.declared.run.Class.TheVariants.{Capital}
use Rattle.iso.specs.Lists.{iso4217, iso3166}

-- codes 19, 21 and 28
unfoldable pub is_currency : Bytes → Bool
is_currency v = one_of iso4217 v

-- code 22
unfoldable pub is_location : Bytes → Bool
is_location v = one_of iso3166 v

-- a currency is 3 capitals
abbrev pub CurrencyCapitals : Type 0
CurrencyCapitals = (v : Bytes) → is_currency v ≡ true → run_of currency_size currency_size Capital v ≡ true

-- a location is 2 capitals
abbrev pub LocationCapitals : Type 0
LocationCapitals = (v : Bytes) → is_location v ≡ true → run_of location_size location_size Capital v ≡ true
