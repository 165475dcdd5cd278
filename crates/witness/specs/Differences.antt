-- What differs between the two histories.
use Rattle.std.specs.Prelude.{ℕ, ◌<◌, ◌≡◌, List, [], ◌∷◌, ◌++◌, map, length, get_or}
use Rattle.octets.specs.Bytes.{Bytes}
use Rattle.message.specs.Values.{value}
use Rattle.elements.specs.Codes.{uti, reporting_timestamp, settlement_date, package_identifier, package_price, notional_amount, package_spread}
use Rattle.notional.specs.Amount.{amount}
use Rattle.submission.specs.History.{Call, submit, message_of}
use Rattle.witness.specs.Messages.{allocation, counterparty1, counterparty2}
use Rattle.witness.specs.Histories.{left, left_ledger, right, right_ledger}

-- the elements that the tape does not show, or not as they were sent
abbrev pub hidden_codes : List ℕ
hidden_codes = uti ∷ reporting_timestamp ∷ settlement_date ∷ allocation ∷ package_identifier ∷ notional_amount ∷ counterparty1 ∷ counterparty2 ∷ []

-- the places of the accepted full messages
abbrev pub full_places : List ℕ
full_places = 0 ∷ 1 ∷ 2 ∷ 4 ∷ 5 ∷ 8 ∷ []

-- a full message of a history
abbrev pub full_message : List Call → ℕ → Bytes
full_message h i = get_or (map message_of h) (get_or full_places i 0) []

-- the value of a hidden element in it
abbrev pub hidden : List Call → ℕ → ℕ → Bytes
hidden h i k = value (get_or hidden_codes k 0) (full_message h i)

-- price and spread as they were sent
abbrev pub quote : List Call → ℕ → Bytes
quote h i = value package_price (full_message h i) ++ value package_spread (full_message h i)

-- its exact amount
abbrev pub exact : List Call → ℕ → ℕ
exact h i = amount (value notional_amount (full_message h i))

-- the tape buffer that is lent for a call
abbrev pub buffer_of : Call → Bytes
buffer_of (submit m b) = b.tape

abbrev pub buffer_size : List Call → ℕ → ℕ
buffer_size h i = length (get_or (map buffer_of h) i [])

-- each hidden element of each full message, its price or spread, its exact amount, the length of each tape buffer, and the length of the ledger
pub record Differ : Type 0 where
  pub elements : (i k : ℕ) → i < length full_places → k < length hidden_codes → hidden left i k ≡ hidden right i k → ⊥
  pub quotes : (i : ℕ) → i < length full_places → quote left i ≡ quote right i → ⊥
  pub amounts : (i : ℕ) → i < length full_places → exact left i ≡ exact right i → ⊥
  pub buffers : (i : ℕ) → i < length left → buffer_size left i ≡ buffer_size right i → ⊥
  pub ledgers : length left_ledger ≡ length right_ledger → ⊥
