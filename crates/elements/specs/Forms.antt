-- Specification, sections 3 and 4: the form of each element (verdict 9).
use Rattle.std.specs.Prelude.{ℕ, Bool, true, false, Err, Ok, Result}
use Rattle.octets.specs.Bytes.{Bytes}
use Rattle.values.specs.Run.{is_uti, is_event, is_package_identifier}
use Rattle.values.specs.Code.{is_truth, is_cleared, is_allocation, is_price_notation, is_spread_notation, is_asset_class}
use Rattle.values.specs.Lei.{is_lei}
use Rattle.iso.specs.Codes.{is_currency, is_location}
use Rattle.numbers.specs.Numbers.{is_price, is_notional}
use Rattle.dates.specs.Dates.{is_date, is_time}
use Rattle.actions.specs.Actions.{action_of}
use Rattle.elements.specs.declared.table.Form.{Form}
use Rattle.elements.specs.declared.table.Form.TheVariants.{Unknown, Uti, Action, Event, Time, Date, Cleared, Truth, Allocation, PackageIdentifier, Price, PriceNotation, SpreadNotation, Currency, Notional, Location, Lei, AssetClass}
use Rattle.elements.specs.Table.{element_of}

-- one of the seven
abbrev pub is_read : {T E : Type 0} → Result T E → Bool
is_read (Err code) = false
is_read (Ok a) = true

-- a value has a form; there is none for a code that no element has
abbrev pub fits : Form → Bytes → Bool
fits Unknown v = false
fits Uti v = is_uti v
fits Action v = is_read (action_of v)
fits Event v = is_event v
fits Time v = is_time v
fits Date v = is_date v
fits Cleared v = is_cleared v
fits Truth v = is_truth v
fits Allocation v = is_allocation v
fits PackageIdentifier v = is_package_identifier v
fits Price v = is_price v
fits PriceNotation v = is_price_notation v
fits SpreadNotation v = is_spread_notation v
fits Currency v = is_currency v
fits Notional v = is_notional v
fits Location v = is_location v
fits Lei v = is_lei v
fits AssetClass v = is_asset_class v

-- a value has the form of the element with a code
unfoldable pub has_form : ℕ → Bytes → Bool
has_form code v = fits (element_of code).form v
