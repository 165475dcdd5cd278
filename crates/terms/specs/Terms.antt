-- Specification, clause 7.2: the masked terms, what a full message's elements and a cap put into a line between the event time and the newline.
use Rattle.std.specs.Prelude.{ℕ, ◌+◌, Bool, List, [], ◌∷◌, ◌++◌}
use Rattle.octets.specs.Bytes.{Bytes}
use Rattle.octets.specs.Choice.{choose}
use Rattle.octets.specs.Text.{text}
use Rattle.octets.specs.Number.{digits}
use Rattle.octets.specs.Fields.{FieldText, size_of, bytes_of}
use Rattle.values.specs.Code.{is_true}
use Rattle.values.specs.Limits.{currency_size, location_size}
use Rattle.elements.specs.Codes.{execution_timestamp, effective_date, expiration_date, cleared, non_standardized_term, block_election, large_notional_election, package_indicator, package_price, price_notation, price_currency, notional_amount, notional_currency, settlement_location, asset_class, package_spread, spread_notation, spread_currency}
use Rattle.elements.specs.Conditions.{kept}
use Rattle.notional.specs.Amount.{amount}
use Rattle.notional.specs.Masking.{over, shown}
use Rattle.price.specs.Price.{price_size, empty, shown_price}

-- ---- the lengths of fields that no other chapter gives

abbrev pub time_size : ℕ
time_size = 20

abbrev pub date_size : ℕ
date_size = 10

-- Cleared, a truth, a notation, the plus sign
abbrev pub mark_size : ℕ
mark_size = 1

abbrev pub class_size : ℕ
class_size = 2

-- zero padded
abbrev pub notional_size : ℕ
notional_size = 16

-- ---- what is shown of a value

-- the tape shows T or F
unfoldable pub shown_truth : Bytes → Bytes
shown_truth v = choose (empty v) [] (choose (is_true v) (text "T") (text "F"))

-- a price or a spread that is missing or left out shows nothing
unfoldable pub price_text : Bytes → Bytes
price_text v = choose (empty v) [] (shown_price v)

-- plus sign or blank
unfoldable pub plus_text : Bool → Bytes
plus_text plus = choose plus (text "+") []

-- ---- the fields, in the line's order

-- execution time, effective, expiration, Cleared
abbrev pub date_fields : Bytes → List FieldText
date_fields m =
    (time_size, kept execution_timestamp m)
    ∷ (date_size, kept effective_date m)
    ∷ (date_size, kept expiration_date m)
    ∷ (mark_size, kept cleared m)
    ∷ []

-- non-standardized, block, large, package
abbrev pub truth_fields : Bytes → List FieldText
truth_fields m =
    (mark_size, shown_truth (kept non_standardized_term m))
    ∷ (mark_size, shown_truth (kept block_election m))
    ∷ (mark_size, shown_truth (kept large_notional_election m))
    ∷ (mark_size, shown_truth (kept package_indicator m))
    ∷ []

-- a price or a spread, its notation, its currency
abbrev pub quote_fields : ℕ → ℕ → ℕ → Bytes → List FieldText
quote_fields price notation currency m =
    (price_size, price_text (kept price m))
    ∷ (mark_size, kept notation m)
    ∷ (currency_size, kept currency m)
    ∷ []

abbrev pub quote_size : ℕ
quote_size = size_of (quote_fields 0 0 0 [])

-- price, notation, price currency
abbrev pub price_fields : Bytes → List FieldText
price_fields m = quote_fields package_price price_notation price_currency m

-- asset class, notional, plus sign, notional currency, location
abbrev pub notional_fields : ℕ → Bytes → List FieldText
notional_fields cap m =
    (class_size, kept asset_class m)
    ∷ (notional_size, digits notional_size (shown cap (amount (kept notional_amount m))))
    ∷ (mark_size, plus_text (over cap (amount (kept notional_amount m))))
    ∷ (currency_size, kept notional_currency m)
    ∷ (location_size, kept settlement_location m)
    ∷ []

-- spread, notation, spread currency
abbrev pub spread_fields : Bytes → List FieldText
spread_fields m = quote_fields package_spread spread_notation spread_currency m

-- the masked terms of a full message under the cap that applies
abbrev pub term_fields : ℕ → Bytes → List FieldText
term_fields cap m = date_fields m ++ (truth_fields m ++ (price_fields m ++ (notional_fields cap m ++ spread_fields m)))

unfoldable pub terms_of : ℕ → Bytes → Bytes
terms_of cap m = bytes_of (term_fields cap m)

-- ---- where each group starts, and the length of the terms, whatever they show

abbrev pub non_standardized_at : ℕ
non_standardized_at = size_of (date_fields [])

abbrev pub price_at : ℕ
price_at = non_standardized_at + size_of (truth_fields [])

abbrev pub class_at : ℕ
class_at = price_at + size_of (price_fields [])

abbrev pub spread_at : ℕ
spread_at = class_at + size_of (notional_fields 0 [])

abbrev pub terms_size : ℕ
terms_size = spread_at + size_of (spread_fields [])
