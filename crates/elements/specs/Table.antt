-- Specification, section 3: the table, a row for each code.
use Rattle.std.specs.Prelude.{ℕ, ◌-◌, List, [], ◌∷◌, length, get_or}
use Rattle.elements.specs.declared.table.Form.{Form}
use Rattle.elements.specs.declared.table.Form.TheVariants.{Unknown, Uti, Action, Event, Time, Date, Cleared, Truth, Allocation, PackageIdentifier, Price, PriceNotation, SpreadNotation, Currency, Notional, Location, Lei, AssetClass}
use Rattle.elements.specs.declared.table.Kinds.{Kinds}
use Rattle.elements.specs.declared.table.Kinds.TheVariants.{None, All, Full}
use Rattle.elements.specs.declared.table.Condition.{Condition}
use Rattle.elements.specs.declared.table.Condition.TheVariants.{Never, Always, ClearedIsN, Package, NoSpread, HasPrice, MonetaryPrice, HasSpread, MonetarySpread}
use Rattle.elements.specs.declared.table.Public.{Public}
use Rattle.elements.specs.declared.table.Public.TheVariants.{Hidden, Masked, Shown}
use Rattle.elements.specs.declared.table.Element.{Element}

-- the columns: form; by which messages it is taken, and by which needed; due if, beside that; shown if; public
abbrev pub row : Form → Kinds → Kinds → Condition → Condition → Public → Element
row form taken needed due shown public = record { form = form; taken = taken; needed = needed; due = due; shown = shown; public = public }

abbrev pub no_element : Element
no_element = row Unknown None None Never Never Hidden

-- by code, from 0 on
abbrev pub elements : List Element
elements =
    no_element  -- 0 is no code
    ∷ row Uti All All Never Never Hidden  -- 1 UTI
    ∷ row Action All All Never Always Shown  -- 2 action type
    ∷ row Event All None Never Always Shown  -- 3 event type, needed by pair
    ∷ row Time All All Never Always Shown  -- 4 event timestamp
    ∷ row Time All All Never Never Hidden  -- 5 reporting timestamp
    ∷ row Time Full Full Never Always Shown  -- 6 execution timestamp
    ∷ row Date Full Full Never Always Shown  -- 7 effective date
    ∷ row Date Full Full Never Always Shown  -- 8 expiration date
    ∷ row Date Full Full Never Never Hidden  -- 9 final contractual settlement date
    ∷ row Cleared Full Full Never Always Shown  -- 10 cleared
    ∷ row Truth Full None ClearedIsN ClearedIsN Shown  -- 11 non-standardized term
    ∷ row Truth Full Full Never Always Shown  -- 12 block election
    ∷ row Truth Full Full Never Always Shown  -- 13 large notional election
    ∷ row Allocation Full Full Never Never Hidden  -- 14 allocation
    ∷ row Truth Full Full Never Always Shown  -- 15 package indicator
    ∷ row PackageIdentifier Full None Package Never Hidden  -- 16 package identifier
    ∷ row Price Full None NoSpread Package Shown  -- 17 package price
    ∷ row PriceNotation Full None HasPrice HasPrice Shown  -- 18 price notation
    ∷ row Currency Full None MonetaryPrice MonetaryPrice Shown  -- 19 price currency
    ∷ row Notional Full Full Never Always Masked  -- 20 notional amount
    ∷ row Currency Full Full Never Always Shown  -- 21 notional currency
    ∷ row Location Full None Never Always Shown  -- 22 settlement location
    ∷ row Lei Full Full Never Never Hidden  -- 23 counterparty 1
    ∷ row Lei Full Full Never Never Hidden  -- 24 counterparty 2
    ∷ row AssetClass Full Full Never Always Shown  -- 25 asset class
    ∷ row Price Full None Never Package Shown  -- 26 package spread
    ∷ row SpreadNotation Full None HasSpread HasSpread Shown  -- 27 spread notation
    ∷ row Currency Full None MonetarySpread MonetarySpread Shown  -- 28 spread currency
    ∷ []

unfoldable pub element_of : ℕ → Element
element_of code = get_or elements code no_element

abbrev pub last_code : ℕ
last_code = length elements - 1
