-- The messages of both histories: what the tape shows is written out, what it does not show is a parameter. Each has its own reporting time, and a full
-- one its own amount.
use Rattle.std.specs.Prelude.{ℕ, List, [], ◌∷◌, ◌++◌}
use Prim.Native.String.{String}
use Rattle.octets.specs.Bytes.{Bytes}
use Rattle.actions.specs.Actions.{action_type}
use Rattle.elements.specs.Codes.{uti, event_type, event_timestamp, reporting_timestamp, execution_timestamp, effective_date, expiration_date, settlement_date, cleared, non_standardized_term, block_election, large_notional_election, package_indicator, package_identifier, package_price, price_notation, price_currency, notional_amount, notional_currency, settlement_location, asset_class, package_spread, spread_notation, spread_currency}
use Rattle.witness.specs.Encoding.{Element, encoded}

-- elements that only this crate speaks of by name
abbrev pub allocation : ℕ
allocation = 14

abbrev pub counterparty1 : ℕ
counterparty1 = 23

abbrev pub counterparty2 : ℕ
counterparty2 = 24

-- what the messages of a swap tell and the tape does not; the tape shows price and spread without the zeros that say nothing
pub record Hidden : Type 0 where
  pub uti : String
  pub settlement : String
  pub allocation : String
  pub package_name : String
  pub quote : String
  pub counterparty1 : String
  pub counterparty2 : String

-- ---- what a message shows of itself: action, event or none, event time

abbrev pub with_event : String → String → String → List Element
with_event action event time = (action_type, action) ∷ (event_type, event) ∷ (event_timestamp, time) ∷ []

abbrev pub without_event : String → String → List Element
without_event action time = (action_type, action) ∷ (event_timestamp, time) ∷ []

-- ---- full messages of a swap of a package that is quoted in dollars, by a price or by a spread

abbrev pub by_price : Hidden → List Element
by_price h = (package_price, h.quote) ∷ (price_notation, "1") ∷ (price_currency, "USD") ∷ []

abbrev pub by_spread : Hidden → List Element
by_spread h = (package_spread, h.quote) ∷ (spread_notation, "1") ∷ (spread_currency, "USD") ∷ []

unfoldable pub package_swap : List Element → String → List Element → List Element → Hidden → String → String → Bytes
package_swap shown expiration price spread h reported amount =
    encoded
    ((uti, h.uti)
    ∷ (shown
    ++ ((reporting_timestamp, reported)
    ∷ (execution_timestamp, "2026-03-02T14:29:58Z")
    ∷ (effective_date, "2026-03-04")
    ∷ (expiration_date, expiration)
    ∷ (settlement_date, h.settlement)
    ∷ (cleared, "Y")
    ∷ (block_election, "False")
    ∷ (large_notional_election, "true")
    ∷ (allocation, h.allocation)
    ∷ (package_indicator, "True")
    ∷ (package_identifier, h.package_name)
    ∷ (price
    ++ ((notional_amount, amount)
    ∷ (notional_currency, "USD")
    ∷ (settlement_location, "US")
    ∷ (counterparty1, h.counterparty1)
    ∷ (counterparty2, h.counterparty2)
    ∷ (asset_class, "IR")
    ∷ spread)))))

-- it is new
abbrev pub new_package_swap : Hidden → String → String → Bytes
new_package_swap h = package_swap (with_event "NEWT" "TRAD" "2026-03-02T14:30:00Z") "2031-03-04" (by_price h) [] h

-- it is modified: it expires two years later
abbrev pub extended_package_swap : Hidden → String → String → Bytes
extended_package_swap h = package_swap (with_event "MODI" "TRAD" "2026-03-03T09:00:00Z") "2033-03-04" (by_price h) [] h

-- it is modified again, and shows what it showed
abbrev pub repeated_package_swap : Hidden → String → String → Bytes
repeated_package_swap h = package_swap (with_event "MODI" "NOVA" "2026-03-03T09:20:00Z") "2033-03-04" (by_price h) [] h

-- it is revived, with its first expiration and quoted by a spread
abbrev pub revived_package_swap : Hidden → String → String → Bytes
revived_package_swap h = package_swap (without_event "REVI" "2026-03-05T11:00:00Z") "2031-03-04" [] (by_spread h) h

-- ---- full messages of a swap that is not cleared and of no package: package name, price and spread are sent and left out

unfoldable pub uncleared_swap : List Element → String → Hidden → String → String → Bytes
uncleared_swap shown executed h reported amount =
    encoded
    ((uti, h.uti)
    ∷ (shown
    ++ ((reporting_timestamp, reported)
    ∷ (execution_timestamp, executed)
    ∷ (effective_date, "2026-04-01")
    ∷ (expiration_date, "2027-04-01")
    ∷ (settlement_date, h.settlement)
    ∷ (cleared, "N")
    ∷ (non_standardized_term, "True")
    ∷ (block_election, "false")
    ∷ (large_notional_election, "False")
    ∷ (allocation, h.allocation)
    ∷ (package_indicator, "false")
    ∷ (package_identifier, h.package_name)
    ∷ (package_price, h.quote)
    ∷ (notional_amount, amount)
    ∷ (notional_currency, "EUR")
    ∷ (counterparty1, h.counterparty1)
    ∷ (counterparty2, h.counterparty2)
    ∷ (asset_class, "CO")
    ∷ (package_spread, h.quote)
    ∷ [])))

-- it is new
abbrev pub new_uncleared_swap : Hidden → String → String → Bytes
new_uncleared_swap = uncleared_swap (with_event "NEWT" "TRAD" "2026-03-03T10:15:00Z") "2026-03-03T10:14:30Z"

-- it is corrected: it was executed earlier
abbrev pub corrected_uncleared_swap : Hidden → String → String → Bytes
corrected_uncleared_swap = uncleared_swap (without_event "CORR" "2026-03-03T16:20:00Z") "2026-03-03T10:14:03Z"

-- ---- short messages

unfoldable pub short_message : List Element → Hidden → String → Bytes
short_message shown h reported = encoded ((uti, h.uti) ∷ (shown ++ ((reporting_timestamp, reported) ∷ [])))

-- a swap is terminated early
abbrev pub termination : Hidden → String → Bytes
termination = short_message (with_event "TERM" "ETRM" "2026-03-03T17:45:00Z")

-- a swap was reported in error
abbrev pub in_error : Hidden → String → Bytes
in_error = short_message (without_event "EROR" "2026-03-04T08:00:00Z")

-- a swap is ported to another repository
abbrev pub porting : Hidden → String → Bytes
porting = short_message (with_event "PRTO" "PTNG" "2026-03-06T07:30:00Z")
