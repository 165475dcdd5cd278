-- Specification, clause 7.4: what holds of every price. `write_price` cites it.
use Rattle.std.specs.Prelude.{◌≤◌, true, ◌≡◌, length}
use Rattle.octets.specs.Bytes.{Bytes}
use Rattle.numbers.specs.Numbers.{is_price}
use Rattle.price.specs.Price.{price_size, shown_price}
use Rattle.price.specs.Examples.{PricesShown}

-- a price that its form admits fits its 20 bytes
abbrev pub PriceFits : Type 0
PriceFits = (v : Bytes) → is_price v ≡ true → length (shown_price v) ≤ price_size

pub record PriceLaws : Type 0 where
  pub examples : PricesShown
  pub fits : PriceFits
