-- Examples of the price in a tape line, one statement about one table.
use Prim.Native.String.{String}
use Rattle.std.specs.Prelude.{Bool, true, List, [], ◌∷◌, ◌≡◌}
use Rattle.octets.specs.Choice.{both}
use Rattle.octets.specs.Text.{text}
use Rattle.octets.specs.Same.{same_bytes}
use Rattle.price.specs.Price.{shown_price}

-- a price, and how a line shows it
abbrev pub examples : List (String × String)
examples =
    ("000", "0")
    ∷ ("0", "0")
    ∷ ("-0", "0")
    ∷ ("-00.00", "0")
    ∷ ("007", "7")
    ∷ ("100", "100")
    ∷ ("-100", "-100")
    ∷ ("-0.50", "-0.5")
    ∷ ("0100.0010", "100.001")
    ∷ ("0.0", "0")
    ∷ ("00.5", "0.5")
    ∷ ("-12.", "-12")
    ∷ ("10.00", "10")
    ∷ ("-12345.1234567890123", "-12345.1234567890123")
    ∷ []

unfoldable pub all_shown : List (String × String) → Bool
all_shown [] = true
all_shown (e ∷ es) = both (same_bytes (shown_price (text e.0)) (text e.1)) (all_shown es)

-- each price is shown as what stands beside it
abbrev pub PricesShown : Type 0
PricesShown = all_shown examples ≡ true
