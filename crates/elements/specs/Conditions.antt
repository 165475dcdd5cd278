-- Specification, section 3: elements that are needed under an "if" (verdict 11), and what is left out.
use Rattle.std.specs.Prelude.{ℕ, Bool, true, false, not, []}
use Rattle.octets.specs.Bytes.{Bytes}
use Rattle.octets.specs.Choice.{choose, both}
use Rattle.octets.specs.Text.{text}
use Rattle.octets.specs.Same.{same_bytes}
use Rattle.values.specs.Code.{is_true}
use Rattle.message.specs.Values.{value, is_there}
use Rattle.elements.specs.Codes.{cleared, package_indicator, package_price, price_notation, package_spread, spread_notation}
use Rattle.elements.specs.declared.table.Condition.{Condition}
use Rattle.elements.specs.declared.table.Condition.TheVariants.{Never, Always, ClearedIsN, Package, NoSpread, HasPrice, MonetaryPrice, HasSpread, MonetarySpread}
use Rattle.elements.specs.declared.conditions.Quote.{Quote}
use Rattle.elements.specs.declared.conditions.Quote.TheVariants.{Missing, Other, Monetary}
use Rattle.elements.specs.declared.conditions.Facts.{Facts}
use Rattle.elements.specs.Table.{element_of}

-- 15 is true
unfoldable pub is_package : Bytes → Bool
is_package m = is_true (value package_indicator m)

-- the value of an element is this one
unfoldable pub value_is : ℕ → Bytes → Bytes → Bool
value_is code v m = same_bytes (value code m) v

-- 15 is true, and the element is there
unfoldable pub is_quoted : ℕ → Bytes → Bool
is_quoted code m = both (is_package m) (is_there code m)

-- of a price or a spread with its notation: a package has it, and the notation is 1
unfoldable pub quote_of : ℕ → ℕ → Bytes → Quote
quote_of code notation m = choose (is_quoted code m) (choose (value_is notation (text "1") m) Monetary Other) Missing

-- a package has it
abbrev pub is_quote : Quote → Bool
is_quote Missing = false
is_quote Other = true
is_quote Monetary = true

-- and its notation is 1
abbrev pub is_monetary : Quote → Bool
is_monetary Missing = false
is_monetary Other = false
is_monetary Monetary = true

-- what the "if"s ask of a message
unfoldable pub facts_of : Bytes → Facts
facts_of m =
    record {
      uncleared = value_is cleared (text "N") m;
      packaged = is_package m;
      price = quote_of package_price price_notation m;
      spread = quote_of package_spread spread_notation m;
    }

-- an "if" is met
abbrev pub met : Condition → Facts → Bool
met Never f = false
met Always f = true
met ClearedIsN f = f.uncleared
met Package f = f.packaged
met NoSpread f = both f.packaged (not (is_quote f.spread))
met HasPrice f = is_quote f.price
met MonetaryPrice f = is_monetary f.price
met HasSpread f = is_quote f.spread
met MonetarySpread f = is_monetary f.spread

-- the element is due under its "if"
unfoldable pub is_due : ℕ → Bytes → Bool
is_due code m = met (element_of code).due (facts_of m)

-- an element whose "if" is not met is left out
unfoldable pub kept : ℕ → Bytes → Bytes
kept code m = choose (met (element_of code).shown (facts_of m)) (value code m) []
