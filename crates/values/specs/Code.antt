-- Specification, section 4: values that are one of a few codes, byte for byte.
use Prim.Native.String.{String}
use Rattle.std.specs.Prelude.{Bool, List, [], ◌∷◌}
use Rattle.octets.specs.Bytes.{Bytes}
use Rattle.octets.specs.Choice.{either}
use Rattle.octets.specs.Text.{text}
use Rattle.octets.specs.Same.{same_bytes, one_of}

-- truth: True, False, true or false
unfoldable pub is_true : Bytes → Bool
is_true v = either (same_bytes v (text "True")) (same_bytes v (text "true"))

unfoldable pub is_false : Bytes → Bool
is_false v = either (same_bytes v (text "False")) (same_bytes v (text "false"))

unfoldable pub is_truth : Bytes → Bool
is_truth v = either (is_true v) (is_false v)

-- code 10: Y, N or I
abbrev pub cleared_codes : List String
cleared_codes = "Y" ∷ "N" ∷ "I" ∷ []

unfoldable pub is_cleared : Bytes → Bool
is_cleared v = one_of cleared_codes v

-- code 14: POST, PREA or UNAL
unfoldable pub is_allocation : Bytes → Bool
is_allocation v = either (same_bytes v (text "POST")) (either (same_bytes v (text "PREA")) (same_bytes v (text "UNAL")))

-- code 18: 1 or 3
abbrev pub price_notations : List String
price_notations = "1" ∷ "3" ∷ []

unfoldable pub is_price_notation : Bytes → Bool
is_price_notation v = one_of price_notations v

-- code 27: 1, 3 or 4
abbrev pub spread_notations : List String
spread_notations = "1" ∷ "3" ∷ "4" ∷ []

unfoldable pub is_spread_notation : Bytes → Bool
is_spread_notation v = one_of spread_notations v

-- code 25: CR, IR, FX, EQ or CO
abbrev pub asset_classes : List String
asset_classes = "CR" ∷ "IR" ∷ "FX" ∷ "EQ" ∷ "CO" ∷ []

unfoldable pub is_asset_class : Bytes → Bool
is_asset_class v = one_of asset_classes v
