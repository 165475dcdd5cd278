-- Demand 2 (specification, clause 12.2): each verdict, ledger row and tape line is the specified one; 0 where no rule is broken, else the first rule broken.
use Rattle.std.specs.Prelude.{ℕ, ◌+◌, ◌-◌, ◌^◌, ◌<◌, ◌≤◌, true, false, ◌≡◌, ◌↔◌, [], ◌∷◌, map, length, get_or, drop, eqb, Ok}
use Rattle.octets.specs.Bytes.{Bytes}
use Rattle.octets.specs.Choice.{choose}
use Rattle.octets.specs.Part.{part}
use Rattle.octets.specs.Fields.{Placed}
use Rattle.message.specs.Values.{value}
use Rattle.actions.specs.declared.Action.{Action}
use Rattle.actions.specs.declared.Action.TheVariants.{Modi, Prto}
use Rattle.actions.specs.Actions.{is_full, is_new, repeats_time, next_status}
use Rattle.actions.specs.Statuses.{live, closed, errored, ported, no_step}
use Rattle.elements.specs.Codes.{uti, execution_timestamp}
use Rattle.elements.specs.Forms.{has_form}
use Rattle.rules.specs.Verdicts.{form_broken}
use Rattle.rules.specs.Findings.{rule_number, AllPassed, FirstBroken}
use Rattle.rules.specs.Rules.{verdict}
use Rattle.ledger.specs.declared.header.Caps.{Caps}
use Rattle.ledger.specs.Layout.{u32, u64, rows_at, next_at, status_at, length_at, identifier_at, tail_at, tail_size, total_at, header_size, row_size, row_start, shortest_ledger, line_size, identifier_limit}
use Rattle.ledger.specs.Totals.{total_in, adds}
use Rattle.ledger.specs.Header.{rows_in_use, next_identifier, capacity_in, caps_in, are_caps, capacity_for, header_right, RightHeader, header_of, header_fields}
use Rattle.ledger.specs.Rows.{row_at, status_of, identifier_of, stored_terms, stored_time, is_known, swap_row, swap_status, swap_identifier, swap_in, row_fields}
use Rattle.ledger.specs.Line.{line_fields}
use Rattle.submission.specs.Verdicts.{ledger_short, cap_wrong, ledger_wrong, row_wrong, submission_numbers}
use Rattle.submission.specs.Opening.{Limits, opened}
use Rattle.submission.specs.Lent.{Lent}
use Rattle.submission.specs.Status.{asked}
use Rattle.submission.specs.Totals.{asked_totals}
use Rattle.submission.specs.Submission.{Submitted, submitted, swap_of, action_in, line_due_in, has_wrong_row, rules_on, submission_rules, admitting_rules, masked_terms, terms_for, place_for}

-- ---- the verdict of a submission

-- verdict and element are those of a rule exactly where the rule is broken and no earlier one is
abbrev pub VerdictExactly : Type 0
VerdictExactly =
    (limits : Limits) (lent : Lent) (m : Bytes) (n e : ℕ)
    → 0 < n
    → (((submitted limits lent m).verdict ≡ n) × ((submitted limits lent m).element ≡ e)) ↔ FirstBroken (rules_on limits lent m) n e

-- the rules of a message with an action have these numbers, in this order
abbrev pub CheckingOrder : Type 0
CheckingOrder = (limits : Limits) (a : Action) (lent : Lent) (m : Bytes) → map rule_number (submission_rules limits (Ok a) lent m) ≡ submission_numbers

-- a row that 14 lets pass
pub record RightRow (l r : Bytes) : Type 0 where
  pub least : live ≤ status_of r
  pub most : status_of r ≤ ported
  pub given : 1 ≤ identifier_of r
  pub before : identifier_of r < next_identifier l
  pub counted : 1 ≤ total_in (status_of r) l

-- what the specification asks of a message that is accepted, in words: 3 and 4, the message alone, and 14 to 18
pub record RulesAccept (limits : Limits) (lent : Lent) (m : Bytes) : Type 0 where
  pub action : Action
  pub reads : action_in m ≡ Ok action
  pub header : RightHeader limits.largest lent.ledger
  pub tape : line_size ≤ length lent.buffers.tape
  pub message : verdict limits.longest m ≡ (0, 0)
  pub row : is_known lent.ledger (swap_of m) ≡ true → RightRow lent.ledger (swap_row lent.ledger (swap_of m))
  pub step : next_status action (swap_status lent.ledger (swap_of m)) ≡ no_step → ⊥
  pub time : repeats_time action ≡ true → value execution_timestamp m ≡ stored_time (swap_row lent.ledger (swap_of m))
  pub room : is_new action ≡ true → rows_in_use lent.ledger ≡ capacity_in lent.ledger → ⊥
  pub spare : line_due_in action lent.ledger m ≡ true → next_identifier lent.ledger ≡ identifier_limit → ⊥

abbrev pub AcceptedExactly : Type 0
AcceptedExactly = (limits : Limits) (lent : Lent) (m : Bytes) → ((submitted limits lent m).verdict ≡ 0) ↔ RulesAccept limits lent m

-- ---- whether a line is due

-- PRTO has no line, MODI none where its masked terms are the stored ones, any other message always one
pub record LineDue (a : Action) (l m : Bytes) : Type 0 where
  pub porting : a ≡ Prto → line_due_in a l m ≡ false
  pub modification : a ≡ Modi → (line_due_in a l m ≡ false) ↔ (masked_terms (caps_in l) m ≡ stored_terms (swap_row l (swap_of m)))
  pub others : (a ≡ Prto → ⊥) → (a ≡ Modi → ⊥) → line_due_in a l m ≡ true

abbrev pub LineDueExactly : Type 0
LineDueExactly = (a : Action) (l m : Bytes) → LineDue a l m

-- a MODI that every rule but 18 admits and whose masked terms are the stored ones is accepted, takes no identifier, and nothing moves
abbrev pub QuietModificationUnder : Limits → Type 0
QuietModificationUnder limits =
    (lent : Lent) (m : Bytes)
    → action_in m ≡ Ok Modi
    → AllPassed (admitting_rules limits (action_in m) lent m)
    → masked_terms (caps_in lent.ledger) m ≡ stored_terms (swap_row lent.ledger (swap_of m))
    → submitted limits lent m ≡ record { verdict = 0; element = 0; identifier = 0; lent = lent }

-- under any limits whose largest capacity the header's field can hold
abbrev pub QuietModification : Type 0
QuietModification = (limits : Limits) → limits.largest < 256 ^ u32 → QuietModificationUnder limits

-- ---- what an accepted message writes

-- the byte at i is not one of the n bytes from `at` on
abbrev pub Outside : ℕ → ℕ → ℕ → Type 0
Outside at n i = at ≤ i → at + n ≤ i

-- the message takes its swap out of the total of s or into it
abbrev pub MovesTotal : Action → Bytes → Bytes → ℕ → Type 0
MovesTotal a l m s =
    (live ≤ s) × (s ≤ ported)
    × (eqb (swap_status l (swap_of m)) s ≡ eqb (next_status a (swap_status l (swap_of m))) s → ⊥)

-- the swap's row, rows in use, the next identifier, the totals, and every other byte of the ledger
pub record LedgerWritten (a : Action) (l m l' : Bytes) : Type 0 where
  -- NEWT writes the whole next row, field by field
  pub whole : is_new a ≡ true → Placed status_at (row_fields live (swap_of m) (next_identifier l) (masked_terms (caps_in l) m)) (row_at l' (rows_in_use l))
  -- every action writes the status, a line the identifier, a full action the terms
  pub status : status_of (row_at l' (place_for a l m)) ≡ next_status a (swap_status l (swap_of m))
  pub identifier : identifier_of (row_at l' (place_for a l m)) ≡ choose (line_due_in a l m) (next_identifier l) (identifier_of (row_at l (place_for a l m)))
  pub terms : stored_terms (row_at l' (place_for a l m)) ≡ choose (is_full a) (masked_terms (caps_in l) m) (stored_terms (row_at l (place_for a l m)))
  -- only NEWT writes length, UTI and padding, and the last bytes
  pub name :
      is_new a ≡ false
      → part (row_at l' (place_for a l m)) length_at (identifier_at - length_at)
      ≡ part (row_at l (place_for a l m)) length_at (identifier_at - length_at)
  pub tail : is_new a ≡ false → part (row_at l' (place_for a l m)) tail_at tail_size ≡ part (row_at l (place_for a l m)) tail_at tail_size
  -- NEWT raises rows in use by one; a line raises the next identifier by one
  pub rows : rows_in_use l' ≡ choose (is_new a) (rows_in_use l + 1) (rows_in_use l)
  pub next : next_identifier l' ≡ choose (line_due_in a l m) (next_identifier l + 1) (next_identifier l)
  -- each total loses the swap where it had that status and gains it where it has it now; an unknown swap is in none
  pub totals :
      (s : ℕ)
      → live ≤ s
      → s ≤ ported
      → total_in s l' + adds (swap_status l (swap_of m)) s ≡ total_in s l + adds (next_status a (swap_status l (swap_of m))) s
  -- nothing else moves
  pub long : length l' ≡ length l
  pub others :
      (i : ℕ)
      → Outside (row_start (place_for a l m)) row_size i
      → (is_new a ≡ true → Outside rows_at u32 i)
      → (line_due_in a l m ≡ true → Outside next_at u64 i)
      → ((s : ℕ) → MovesTotal a l m s → Outside (total_at s) u32 i)
      → get_or l' i 0 ≡ get_or l i 0

-- the line at the front of the tape buffer, and every later byte; no byte where no line is due
pub record TapeWritten (a : Action) (l t m t' : Bytes) : Type 0 where
  pub line : line_due_in a l m ≡ true → Placed 0 (line_fields a (next_identifier l) (swap_identifier l (swap_of m)) m (terms_for a l m)) t'
  pub later : drop line_size t' ≡ drop line_size t
  pub long : length t' ≡ length t
  pub none : line_due_in a l m ≡ false → t' ≡ t

-- an accepted message
pub record Written (lent : Lent) (m : Bytes) (s : Submitted) : Type 0 where
  pub action : Action
  pub reads : action_in m ≡ Ok action
  pub ledger : LedgerWritten action lent.ledger m s.lent.ledger
  pub tape : TapeWritten action lent.ledger lent.buffers.tape m s.lent.buffers.tape
  pub identifier : s.identifier ≡ choose (line_due_in action lent.ledger m) (next_identifier lent.ledger) 0

abbrev pub WritesUnder : Limits → Type 0
WritesUnder limits = (lent : Lent) (m : Bytes) → (submitted limits lent m).verdict ≡ 0 → Written lent m (submitted limits lent m)

-- under any limits whose largest capacity the header's field can hold
abbrev pub AcceptanceWrites : Type 0
AcceptanceWrites = (limits : Limits) → limits.largest < 256 ^ u32 → WritesUnder limits

-- ---- opening

-- 1, then 2
pub record OpeningExactly (caps : Caps) (l : Bytes) (v : ℕ) : Type 0 where
  pub short : (v ≡ ledger_short) ↔ (length l < shortest_ledger)
  pub cap : (v ≡ cap_wrong) ↔ ((shortest_ledger ≤ length l) × (are_caps caps ≡ false))
  pub accepted : (v ≡ 0) ↔ ((shortest_ledger ≤ length l) × (are_caps caps ≡ true))

abbrev pub EachOpeningExactly : Type 0
EachOpeningExactly = (limits : Limits) (caps : Caps) (l : Bytes) → OpeningExactly caps l (opened limits caps l).verdict

-- the header, field by field, and every later byte
pub record HeaderWritten (limits : Limits) (caps : Caps) (l l' : Bytes) : Type 0 where
  pub header : Placed rows_at (header_fields caps (capacity_for limits.largest (length l))) l'
  pub later : drop header_size l' ≡ drop header_size l
  pub long : length l' ≡ length l

abbrev pub OpeningWrites : Type 0
OpeningWrites =
    (limits : Limits) (caps : Caps) (l : Bytes) → (opened limits caps l).verdict ≡ 0 → HeaderWritten limits caps l (opened limits caps l).ledger

-- what opening wrote passes 3
abbrev pub OpeningPassesUnder : Limits → Type 0
OpeningPassesUnder limits =
    (caps : Caps) (l : Bytes) → (opened limits caps l).verdict ≡ 0 → header_right limits.largest (opened limits caps l).ledger ≡ true

-- under any limits whose largest capacity the header's field can hold
abbrev pub OpeningPasses : Type 0
OpeningPasses = (limits : Limits) → limits.largest < 256 ^ u32 → OpeningPassesUnder limits

-- ---- the status question

-- 3, then 9, then 14
pub record QuestionExactly (limits : Limits) (l u : Bytes) (v : ℕ) : Type 0 where
  pub ledger : (v ≡ ledger_wrong) ↔ (header_right limits.largest l ≡ false)
  pub form : (v ≡ form_broken) ↔ ((header_right limits.largest l ≡ true) × (has_form uti u ≡ false))
  pub row :
      (v ≡ row_wrong) ↔ ((header_right limits.largest l ≡ true) × (has_form uti u ≡ true) × (has_wrong_row (header_of l) (swap_in l u) ≡ true))
  pub accepted :
      (v ≡ 0) ↔ ((header_right limits.largest l ≡ true) × (has_form uti u ≡ true) × (has_wrong_row (header_of l) (swap_in l u) ≡ false))

abbrev pub EachQuestionExactly : Type 0
EachQuestionExactly =
    (limits : Limits) (l u : Bytes)
    → QuestionExactly limits l u (asked limits l u).verdict
    × ((asked limits l u).verdict ≡ 0 → ((asked limits l u).status ≡ swap_status l u) × ((asked limits l u).identifier ≡ swap_identifier l u))

-- ---- the totals question

-- 3
pub record TotalsExactly (limits : Limits) (l : Bytes) (v : ℕ) : Type 0 where
  pub ledger : (v ≡ ledger_wrong) ↔ (header_right limits.largest l ≡ false)
  pub accepted : (v ≡ 0) ↔ (header_right limits.largest l ≡ true)

abbrev pub EachTotalsExactly : Type 0
EachTotalsExactly =
    (limits : Limits) (l : Bytes)
    → TotalsExactly limits l (asked_totals limits l).verdict
    × ((asked_totals limits l).verdict ≡ 0
    → (asked_totals limits l).totals ≡ total_in live l ∷ total_in closed l ∷ total_in errored l ∷ total_in ported l ∷ [])
