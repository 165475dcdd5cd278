-- Specification, section 9: rules 5 to 13 and 19, which judge a message alone.
use Rattle.std.specs.Prelude.{ℕ, ◌+◌, ◌≤◌, Option, Bool, false, not, ◌≡◌, List, [], ◌∷◌, length, ltb, eqb, Err, Ok, Result}
use Rattle.std.specs.Borrow.{Bor}
use Rattle.octets.specs.Bytes.{Bytes}
use Rattle.octets.specs.Choice.{choose, both, either}
use Rattle.octets.specs.Text.{text}
use Rattle.numbers.specs.Numbers.{whole_of, decimals_of, unsigned_of}
use Rattle.dates.specs.Dates.{before}
use Rattle.message.specs.Values.{value, is_there}
use Rattle.message.specs.Reading.{Read}
use Rattle.actions.specs.declared.Action.{Action}
use Rattle.actions.specs.Actions.{action_type, action_of, is_full}
use Rattle.elements.specs.Messages.{has_layout, takes, needs}
use Rattle.actions.specs.Matrix.{pair_allowed}
use Rattle.elements.specs.Codes.{event_type, reporting_timestamp, execution_timestamp, effective_date, expiration_date, settlement_date, package_price, price_notation, package_spread, spread_notation}
use Rattle.elements.specs.Table.{last_code}
use Rattle.elements.specs.Forms.{has_form}
use Rattle.elements.specs.Conditions.{is_package, value_is, is_quoted, facts_of, is_due}
use Rattle.elements.specs.declared.conditions.Facts.{Facts}
use Rattle.rules.specs.Verdicts.{layout_wrong, action_wrong, element_missing, element_not_taken, form_broken, not_a_pair, conditional_missing, price_and_spread, price_too_long, dates_disordered}
use Rattle.rules.specs.Findings.{Finding, passed, broken, lowest, Rule, test, naming, first_broken, from_rule}
use Rattle.rules.specs.declared.verdicts.Refusal.{Refusal}
use Rattle.rules.specs.declared.verdicts.Refusal.TheVariants.{LayoutWrong, ActionWrong, ElementMissing, ElementNotTaken, FormBroken, NotAPair, ConditionalMissing, PriceAndSpread, PriceTooLong, DatesDisordered}

-- what a check answers is what a rule finds: the element at fault, or that the rule is passed
abbrev pub finding : Result Action ℕ → Finding
finding (Err code) = broken code
finding (Ok a) = passed

abbrev pub answer_of : Action → Finding → Result Action ℕ
answer_of a passed = Ok a
answer_of a (broken code) = Err code

-- the checks that name the lowest element code at fault: 7, 8, 9 and 11
pub data Check : Type 0 where
  Needed : Check
  Taken : Check
  Formed : Check
  Due : Check

-- an element is at fault: it is needed and missing (7), there and not taken (8), there in a broken form (9), or due under its condition and missing (11)
abbrev pub at_fault : Check → Action → Bytes → ℕ → Bool
at_fault Needed a m code = both (needs a code) (not (is_there code m))
at_fault Taken a m code = both (is_there code m) (not (takes a code))
at_fault Formed a m code = both (is_there code m) (not (has_form code (value code m)))
at_fault Due a m code = both (is_due code m) (not (is_there code m))

-- check 11 is handed what the conditions ask of the message, the others nothing
abbrev pub FactsFor : Check → Facts → Bytes → Type 0
FactsFor Needed f m = Unit {0}
FactsFor Taken f m = Unit {0}
FactsFor Formed f m = Unit {0}
FactsFor Due f m = f ≡ facts_of m

-- a test of the code says of each element whether it is at fault, by what a reader has of it
abbrev pub TellsFaults : (ℕ → Option (Bor Bytes) → Bool → Type 0) → (ℕ → Bool) → Bytes → Type 0
TellsFaults says faulty m =
    (code : ℕ) (value : Option (Bor Bytes)) (b : Bool) → code ≤ last_code → Read m code value → says code value b → b ≡ faulty code

-- the number of a check
abbrev pub number_of : Check → ℕ
number_of Needed = element_missing
number_of Taken = element_not_taken
number_of Formed = form_broken
number_of Due = conditional_missing

-- a package has both price and spread (19)
unfoldable pub has_both_quotes : Bytes → Bool
has_both_quotes m = both (is_quoted package_price m) (is_quoted package_spread m)

-- an unsigned number has more digits than these, in all or after the point
unfoldable pub longer : ℕ → ℕ → Bytes → Bool
longer digits decimals v = either (ltb digits (length (whole_of v) + length (decimals_of v))) (ltb decimals (length (decimals_of v)))

-- the most digits under notations 3 and 4, in all and after the point (12)
abbrev pub notation_three_digits : ℕ
notation_three_digits = 11

abbrev pub notation_three_decimals : ℕ
notation_three_decimals = 10

abbrev pub notation_four_digits : ℕ
notation_four_digits = 5

abbrev pub notation_four_decimals : ℕ
notation_four_decimals = 0

-- a price or a spread has more digits than its notation allows, as it was sent
unfoldable pub long_quote : ℕ → ℕ → Bytes → Bool
long_quote price notation m =
    choose (value_is notation (text "3") m) (longer notation_three_digits notation_three_decimals (unsigned_of (value price m)))
    (choose (value_is notation (text "4") m) (longer notation_four_digits notation_four_decimals (unsigned_of (value price m))) false)

-- the price or the spread of a package is too long (12)
unfoldable pub has_long_price : Bytes → Bool
has_long_price m = both (is_package m) (either (long_quote package_price price_notation m) (long_quote package_spread spread_notation m))

-- dates and times of a full message are out of order (13)
abbrev pub element_before : Bytes → ℕ → ℕ → Bool
element_before m a b = before (value a m) (value b m)

unfoldable pub out_of_order : Action → Bytes → Bool
out_of_order a m =
    both (is_full a)
    (either (element_before m expiration_date effective_date)
    (either (element_before m settlement_date expiration_date) (element_before m reporting_timestamp execution_timestamp)))

-- rules 7 to 13 and 19, for the message's action
unfoldable pub rules_of : Action → Bytes → List Rule
rules_of a m =
    naming element_missing (lowest (at_fault Needed a m))
    ∷ naming element_not_taken (lowest (at_fault Taken a m))
    ∷ naming form_broken (lowest (at_fault Formed a m))
    ∷ test not_a_pair (not (pair_allowed a (value event_type m)))
    ∷ naming conditional_missing (lowest (at_fault Due a m))
    ∷ test price_and_spread (has_both_quotes m)
    ∷ test price_too_long (has_long_price m)
    ∷ test dates_disordered (out_of_order a m)
    ∷ []

-- where 6 is broken there is no action, and nothing is judged after it
abbrev pub after_action : Result Action ℕ → Bytes → List Rule
after_action (Err code) m = []
after_action (Ok a) m = rules_of a m

-- the rules after the layout's, by what the action's element says
abbrev pub laid_rules : Result Action ℕ → Bytes → List Rule
laid_rules action m = naming action_wrong (finding action) ∷ after_action action m

-- the rules in checking order
unfoldable pub rules_for : Result Action ℕ → ℕ → Bytes → List Rule
rules_for action longest m = test layout_wrong (not (has_layout longest m)) ∷ laid_rules action m

-- what the value of the action's element says
abbrev pub action_in : Bytes → Result Action ℕ
action_in m = action_of (value action_type m)

abbrev pub rules : ℕ → Bytes → List Rule
rules longest m = rules_for (action_in m) longest m

-- verdict and element of a message alone; 0 and 0 where no rule is broken
unfoldable pub verdict : ℕ → Bytes → ℕ × ℕ
verdict longest m = first_broken (rules longest m)

-- what judging answers: a refusal with verdict and element, or the action of a message that no rule refuses
abbrev pub conclude : ℕ × ℕ → Result Action ℕ → Result Action (ℕ × ℕ)
conclude v (Err code) = Err v
conclude v (Ok a) = choose (eqb v.0 0) (Ok a) (Err v)

unfoldable pub judged : ℕ → Bytes → Result Action (ℕ × ℕ)
judged longest m = conclude (verdict longest m) (action_in m)

-- what judging answers where the layout is right and no rule before number n is broken
unfoldable pub judged_from : ℕ → Result Action ℕ → Bytes → Result Action (ℕ × ℕ)
judged_from n action m = conclude (first_broken (from_rule n (laid_rules action m))) action

-- what a check says under its number: a refusal that names the element at fault, or the action
abbrev pub judged_by : ℕ → Result Action ℕ → Result Action (ℕ × ℕ)
judged_by n (Err code) = Err (n, code)
judged_by n (Ok a) = Ok a

-- the specification's number and element of an answer
abbrev pub verdict_of : Result Action (ℕ × ℕ) → ℕ × ℕ
verdict_of (Err v) = v
verdict_of (Ok a) = (0, 0)

-- the specification's number and element of each refusal
abbrev pub numbers_of : Refusal → ℕ × ℕ
numbers_of LayoutWrong = (layout_wrong, 0)
numbers_of (ActionWrong e) = (action_wrong, e)
numbers_of (ElementMissing e) = (element_missing, e)
numbers_of (ElementNotTaken e) = (element_not_taken, e)
numbers_of (FormBroken e) = (form_broken, e)
numbers_of NotAPair = (not_a_pair, 0)
numbers_of (ConditionalMissing e) = (conditional_missing, e)
numbers_of PriceAndSpread = (price_and_spread, 0)
numbers_of PriceTooLong = (price_too_long, 0)
numbers_of DatesDisordered = (dates_disordered, 0)

-- an answer of the code, with number and element in the place of a refusal
abbrev pub numbered : Result Action Refusal → Result Action (ℕ × ℕ)
numbered (Err r) = Err (numbers_of r)
numbered (Ok a) = Ok a
