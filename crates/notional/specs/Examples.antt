-- Specification, clause 6.7: the 14 examples, one statement about one table.
use Rattle.std.specs.Prelude.{ℕ, Bool, true, List, [], ◌∷◌, ◌≡◌, eqb}
use Prim.Native.String.{String}
use Rattle.octets.specs.Choice.{both}
use Rattle.octets.specs.Text.{text}
use Rattle.notional.specs.Amount.{amount}
use Rattle.notional.specs.Masking.{shown, largest_cap}

-- an amount, and what is shown of it
abbrev pub examples : List (String × ℕ)
examples =
    ("0", 5)
    ∷ ("2.49999", 5)
    ∷ ("7.5", 10)
    ∷ ("997.5", 1_000)
    ∷ ("1049.99999", 1_000)
    ∷ ("1050", 1_100)
    ∷ ("9950", 10_000)
    ∷ ("1499999.99999", 1_000_000)
    ∷ ("1500000", 2_000_000)
    ∷ ("104999999", 100_000_000)
    ∷ ("105000000", 110_000_000)
    ∷ ("525000000", 550_000_000)
    ∷ ("975000000", 1_000_000_000)
    ∷ ("125000000000", 150_000_000_000)
    ∷ []

-- each amount shows what stands beside it, no cap reached
unfoldable pub all_shown : List (String × ℕ) → Bool
all_shown [] = true
all_shown (e ∷ es) = both (eqb (shown largest_cap (amount (text e.0))) e.1) (all_shown es)

-- each amount of the table shows what stands beside it
abbrev pub ExamplesShown : Type 0
ExamplesShown = all_shown examples ≡ true
