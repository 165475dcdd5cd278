-- Specification, sections 7 to 9 and clause 10.5: submitting one message.
use Rattle.std.specs.Prelude.{ℕ, ◌-◌, Bool, not, List, [], ◌∷◌, ◌++◌, length, eqb, leb, ltb, Err, Ok, Result}
use Rattle.octets.specs.Bytes.{Bytes}
use Rattle.octets.specs.Choice.{choose, both}
use Rattle.octets.specs.Part.{splice}
use Rattle.octets.specs.Same.{same_bytes}
use Rattle.values.specs.Run.{within}
use Rattle.message.specs.Values.{value}
use Rattle.actions.specs.declared.Action.{Action}
use Rattle.actions.specs.Actions.{is_full, is_new, writes_line, needs_change, repeats_time, next_status}
use Rattle.actions.specs.Statuses.{live, ported, no_step}
use Rattle.elements.specs.Codes.{uti, execution_timestamp, asset_class}
use Rattle.terms.specs.Terms.{terms_of}
use Rattle.rules.specs.Findings.{Rule, test, first_broken, before_rule}
use Rattle.rules.specs.Rules.{rules_for}
pub use Rattle.rules.specs.Rules.{action_in}
use Rattle.ledger.specs.declared.header.Caps.{Caps}
use Rattle.ledger.specs.declared.header.Header.{Header}
use Rattle.ledger.specs.declared.search.Swap.{Swap}
use Rattle.ledger.specs.Layout.{row_start, line_size, identifier_limit}
use Rattle.ledger.specs.Totals.{total_of}
use Rattle.ledger.specs.Header.{rows_in_use, next_identifier, caps_in, cap_for, header_right, header_of}
use Rattle.ledger.specs.Rows.{row_at, stored_terms, place_of, swap_row, swap_status, swap_identifier, swap_time, swap_in, row_after, header_after}
use Rattle.ledger.specs.Line.{line}
use Rattle.submission.specs.Verdicts.{ledger_wrong, tape_short, row_wrong, not_admitted, other_time, ledger_full, identifiers_spent}
use Rattle.submission.specs.Opening.{Limits}
use Rattle.submission.specs.Lent.{Lent, lent_of}

-- the swap a message names is its value of code 1
abbrev pub swap_of : Bytes → Bytes
swap_of m = value uti m

-- ---- what a line would show of the swap

-- the cap that applies to a full message: that of its asset class
unfoldable pub cap_on : Caps → Bytes → ℕ
cap_on caps m = cap_for caps (value asset_class m)

-- masked terms are what a full message's elements and the caps put into a line from the execution time up to the newline
unfoldable pub masked_terms : Caps → Bytes → Bytes
masked_terms caps m = terms_of (cap_on caps m) m

-- TERM and EROR show the stored terms
unfoldable pub terms_for : Action → Bytes → Bytes → Bytes
terms_for a l m = choose (is_full a) (masked_terms (caps_in l) m) (stored_terms (swap_row l (swap_of m)))

-- ---- whether a line is due

-- by the action; one that needs a change has a line where the terms that it would show are not the stored ones
unfoldable pub line_due : Action → Bytes → Bytes → Bool
line_due a terms stored = choose (needs_change a) (not (same_bytes terms stored)) (writes_line a)

-- with what a ledger has of the swap that the message names
unfoldable pub line_due_in : Action → Bytes → Bytes → Bool
line_due_in a l m = line_due a (terms_for a l m) (stored_terms (swap_row l (swap_of m)))

-- ---- rules 14 to 17, by what is known of the swap and the numbers of the header

-- a swap's status is 1 to 4, its identifier 1 to next less 1, and its status has a total that counts it
unfoldable pub row_right : Header → Swap → Bool
row_right h s =
    both (within live ported s.status) (both (within 1 (h.next - 1) s.identifier) (leb 1 (total_of h.totals s.status)))

-- the swap has a row, and that row is wrong (14)
unfoldable pub has_wrong_row : Header → Swap → Bool
has_wrong_row h s = both s.known (not (row_right h s))

-- the swap's status does not admit the action (15)
unfoldable pub is_not_admitted : Action → Swap → Bool
is_not_admitted a s = eqb (next_status a s.status) no_step

-- MODI or REVI has another execution timestamp than the row (16)
unfoldable pub has_other_time : Action → Bytes → Bytes → Bool
has_other_time a time m = both (repeats_time a) (not (same_bytes (value execution_timestamp m) time))

-- NEWT finds rows in use equal to capacity (17)
unfoldable pub finds_full : Action → Header → Bool
finds_full a h = both (is_new a) (eqb h.rows h.capacity)

-- in checking order, for the message m of a swap with this execution timestamp
unfoldable pub swap_rules : Action → Header → Swap → Bytes → Bytes → List Rule
swap_rules a h s time m =
    test row_wrong (has_wrong_row h s)
    ∷ test not_admitted (is_not_admitted a s)
    ∷ test other_time (has_other_time a time m)
    ∷ test ledger_full (finds_full a h)
    ∷ []

-- with what a ledger has of the swap that the message names
abbrev pub rules_in : Action → Bytes → Bytes → List Rule
rules_in a l m = swap_rules a (header_of l) (swap_in l (swap_of m)) (swap_time l (swap_of m)) m

-- ---- rule 18, by whether a line is due and the next identifier

-- a line is due and the next identifier is 1,000,000,000,000
unfoldable pub finds_spent : Bool → ℕ → Bool
finds_spent due next = both due (eqb next identifier_limit)

abbrev pub identifier_rule : Action → Bytes → Bytes → Rule
identifier_rule a l m = test identifiers_spent (finds_spent (line_due_in a l m) (next_identifier l))

-- ---- the rules of a submission in checking order

-- where 6 is broken there is no action, and nothing is judged after it
abbrev pub after_rules : Result Action ℕ → Bytes → Bytes → List Rule
after_rules (Err code) l m = []
after_rules (Ok a) l m = rules_in a l m ++ (identifier_rule a l m ∷ [])

-- 3 and 4, then the rules of the message alone, then 14 to 18
unfoldable pub submission_rules : Limits → Result Action ℕ → Lent → Bytes → List Rule
submission_rules limits action lent m =
    test ledger_wrong (not (header_right limits.largest lent.ledger))
    ∷ test tape_short (ltb (length lent.buffers.tape) line_size)
    ∷ (rules_for action limits.longest m ++ after_rules action lent.ledger m)

abbrev pub rules_on : Limits → Lent → Bytes → List Rule
rules_on limits lent m = submission_rules limits (action_in m) lent m

-- every rule but 18, which stands behind them
abbrev pub admitting_rules : Limits → Result Action ℕ → Lent → Bytes → List Rule
admitting_rules limits action lent m = before_rule identifiers_spent (submission_rules limits action lent m)

-- verdict and element
unfoldable pub verdict_on : Limits → Lent → Bytes → ℕ × ℕ
verdict_on limits lent m = first_broken (rules_on limits lent m)

-- ---- what an accepted message writes

-- NEWT writes the next row, any other action its swap's
unfoldable pub place_for : Action → Bytes → Bytes → ℕ
place_for a l m = choose (is_new a) (rows_in_use l) (place_of l (swap_of m))

unfoldable pub row_for : Action → Bytes → Bytes → Bytes
row_for a l m =
    row_after a (line_due_in a l m) (next_status a (swap_status l (swap_of m))) (swap_of m) (next_identifier l) (terms_for a l m) (row_at l (place_for a l m))

unfoldable pub ledger_for : Action → Bytes → Bytes → Bytes
ledger_for a l m =
    let before : ℕ = swap_status l (swap_of m) in
    header_after a (line_due_in a l m) before (next_status a before) (rows_in_use l) (next_identifier l) (splice l (row_start (place_for a l m)) (row_for a l m))

-- the line takes the next identifier
unfoldable pub line_for : Action → Bytes → Bytes → Bytes
line_for a l m = line a (next_identifier l) (swap_identifier l (swap_of m)) m (terms_for a l m)

-- a line takes the first bytes of the tape buffer; later bytes stay. Where none is due no byte of it is written
abbrev pub tape_after : Bool → Bytes → Bytes → Bytes
tape_after due line t = choose due (splice t 0 line) t

abbrev pub tape_for : Action → Bytes → Bytes → Bytes → Bytes
tape_for a l t m = tape_after (line_due_in a l m) (line_for a l m) t

abbrev pub lent_for : Action → Lent → Bytes → Lent
lent_for a lent m = lent_of (ledger_for a lent.ledger m) (tape_for a lent.ledger lent.buffers.tape m)

-- ---- one submission

-- what a submission answers (verdict, element, and the identifier its line took) and leaves in what was lent
pub record Submitted : Type 0 where
  pub verdict : ℕ
  pub element : ℕ
  pub identifier : ℕ
  pub lent : Lent

-- the identifier is 0 where no line is written
abbrev pub accepted : Action → Lent → Bytes → Submitted
accepted a lent m =
    record {
      verdict = 0;
      element = 0;
      identifier = choose (line_due_in a lent.ledger m) (next_identifier lent.ledger) 0;
      lent = lent_for a lent m;
    }

-- the identifier is 0 under every refusal, and nothing moves
abbrev pub refused : ℕ × ℕ → Lent → Submitted
refused v lent = record { verdict = v.0; element = v.1; identifier = 0; lent = lent }

abbrev pub concluded : ℕ × ℕ → Result Action ℕ → Lent → Bytes → Submitted
concluded v (Err code) lent m = refused v lent
concluded v (Ok a) lent m = choose (eqb v.0 0) (accepted a lent m) (refused v lent)

unfoldable pub submitted : Limits → Lent → Bytes → Submitted
submitted limits lent m = concluded (verdict_on limits lent m) (action_in m) lent m
