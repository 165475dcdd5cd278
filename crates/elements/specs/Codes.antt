-- Specification, section 3: the codes of the elements that a rule or the tape line speaks of by name.
use Rattle.std.specs.Prelude.{ℕ}

abbrev pub uti : ℕ
uti = 1

abbrev pub event_type : ℕ
event_type = 3

abbrev pub event_timestamp : ℕ
event_timestamp = 4

abbrev pub reporting_timestamp : ℕ
reporting_timestamp = 5

abbrev pub execution_timestamp : ℕ
execution_timestamp = 6

abbrev pub effective_date : ℕ
effective_date = 7

abbrev pub expiration_date : ℕ
expiration_date = 8

abbrev pub settlement_date : ℕ
settlement_date = 9

abbrev pub cleared : ℕ
cleared = 10

abbrev pub non_standardized_term : ℕ
non_standardized_term = 11

abbrev pub block_election : ℕ
block_election = 12

abbrev pub large_notional_election : ℕ
large_notional_election = 13

abbrev pub package_indicator : ℕ
package_indicator = 15

abbrev pub package_identifier : ℕ
package_identifier = 16

abbrev pub package_price : ℕ
package_price = 17

abbrev pub price_notation : ℕ
price_notation = 18

abbrev pub price_currency : ℕ
price_currency = 19

abbrev pub notional_amount : ℕ
notional_amount = 20

abbrev pub notional_currency : ℕ
notional_currency = 21

abbrev pub settlement_location : ℕ
settlement_location = 22

abbrev pub asset_class : ℕ
asset_class = 25

abbrev pub package_spread : ℕ
package_spread = 26

abbrev pub spread_notation : ℕ
spread_notation = 27

abbrev pub spread_currency : ℕ
spread_currency = 28
