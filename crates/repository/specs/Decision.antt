-- What a submission decides by reading, with the specification's number and element of each refusal, and what it does then.
use Rattle.std.specs.Prelude.{ℕ, ◌+◌, ◌^◌, ◌<◌, ◌≤◌, ◌≡◌, length, eqb, Err, Ok, Result}
use Rattle.octets.specs.Bytes.{Bytes}
use Rattle.octets.specs.Choice.{choose}
use Rattle.actions.specs.declared.Action.{Action}
use Rattle.actions.specs.Actions.{is_full, next_status, number_of, step_number}
use Rattle.actions.specs.Statuses.{unknown, live, ported}
use Rattle.notional.specs.Masking.{largest_cap}
use Rattle.rules.specs.Findings.{first_broken, from_rule}
use Rattle.ledger.specs.Layout.{u32, uti_size, row_start, line_size, identifier_limit}
use Rattle.ledger.specs.declared.header.Header.{Header}
use Rattle.ledger.specs.declared.search.Swap.{Swap}
use Rattle.ledger.specs.Totals.{total_in}
use Rattle.ledger.specs.Header.{next_identifier, caps_in, header_of}
use Rattle.ledger.specs.Rows.{swap_in}
use Rattle.submission.specs.Opening.{Limits}
use Rattle.submission.specs.Lent.{Lent}
use Rattle.submission.specs.Verdicts.{identifiers_spent}
use Rattle.submission.specs.Submission.{swap_of, action_in, line_due_in, finds_spent, cap_on, swap_rules, rules_in, admitting_rules, place_for, Submitted, accepted, refused}
use Rattle.repository.specs.declared.answer.Answer.{Answer}
use Rattle.repository.specs.declared.decide.Admission.{Admission}
use Rattle.repository.specs.declared.verdicts.Refusal.{Refusal}
use Rattle.repository.specs.Answers.{refusal_answer}
use Rattle.repository.specs.Refusals.{numbers_of}

-- ---- the decision

-- an admission, its statuses as their numbers
pub record Shown : Type 0 where
  pub action : Action
  pub place : ℕ
  pub before : ℕ
  pub status : ℕ
  pub previous : ℕ
  pub rows : ℕ
  pub next : ℕ
  pub cap : ℕ

-- that of the code
abbrev pub shown : Admission → Shown
shown s =
    record {
      action = s.action;
      place = s.place;
      before = step_number s.before;
      status = number_of s.status;
      previous = s.previous;
      rows = s.rows;
      next = s.next;
      cap = s.cap;
    }

-- an answer of the code, with number and element in the place of a refusal
abbrev pub numbered : Result Admission Refusal → Result Shown (ℕ × ℕ)
numbered (Err r) = Err (numbers_of r)
numbered (Ok s) = Ok (shown s)

-- an admission: what 18 and the writes use, from what is known of the swap, the header's numbers and the cap that applies
abbrev pub admission_for : Action → Header → Swap → ℕ → Shown
admission_for a h s cap =
    record {
      action = a;
      place = s.place;
      before = s.status;
      status = next_status a s.status;
      previous = s.identifier;
      rows = h.rows;
      next = h.next;
      cap = cap;
    }

-- with what a ledger has; messages that are not full have no cap
abbrev pub admission_in : Action → Bytes → Bytes → Shown
admission_in a l m = admission_for a (header_of l) (swap_in l (swap_of m)) (choose (is_full a) (cap_on (caps_in l) m) 0)

-- a refusal has verdict and element
abbrev pub decided : ℕ × ℕ → Shown → Result Shown (ℕ × ℕ)
decided v s = choose (eqb v.0 0) (Ok s) (Err v)

-- where 6 is broken there is no action
abbrev pub decided_on : ℕ × ℕ → Result Action ℕ → Bytes → Bytes → Result Shown (ℕ × ℕ)
decided_on v (Err code) l m = Err v
decided_on v (Ok a) l m = decided v (admission_in a l m)

-- by every rule but 18, which is judged when the decision is made
unfoldable pub decision : Limits → Lent → Bytes → Result Shown (ℕ × ℕ)
decision limits lent m = decided_on (first_broken (admitting_rules limits (action_in m) lent m)) (action_in m) lent.ledger m

-- what is left to decide where no rule before number n is broken
unfoldable pub decision_from : ℕ → Limits → Lent → Bytes → Result Shown (ℕ × ℕ)
decision_from n limits lent m = decided_on (first_broken (from_rule n (admitting_rules limits (action_in m) lent m))) (action_in m) lent.ledger m

-- the same among rules 14 to 17, by what is known of the swap
unfoldable pub decided_from : ℕ → Header → Swap → Bytes → Bytes → Shown → Result Shown (ℕ × ℕ)
decided_from n h swap time m s = decided (first_broken (from_rule n (swap_rules s.action h swap time m))) s

-- all of them, with what a ledger has
unfoldable pub decision_in : Action → Bytes → Bytes → Result Shown (ℕ × ℕ)
decision_in a l m = decided (first_broken (rules_in a l m)) (admission_in a l m)

-- what a decision answers by itself: a refusal its verdict and element, an admission nothing yet
abbrev pub decision_answer : Result Shown (ℕ × ℕ) → Answer
decision_answer (Err v) = refusal_answer v.0 v.1
decision_answer (Ok s) = refusal_answer 0 0

-- what is left of a submission where every rule but 18 is passed
abbrev pub finished : Action → Lent → Bytes → Submitted
finished a lent m = choose (finds_spent (line_due_in a lent.ledger m) (next_identifier lent.ledger)) (refused (identifiers_spent, 0) lent) (accepted a lent m)

-- what a submission answers and leaves, by the decision
abbrev pub submitted_by : Result Shown (ℕ × ℕ) → Lent → Bytes → Submitted
submitted_by (Err v) lent m = refused v lent
submitted_by (Ok s) lent m = finished s.action lent m

-- ---- what was read on the way

-- the header's numbers; the rows in use lie within the ledger
abbrev pub HeaderRead : Header → Bytes → Type 0
HeaderRead header l = (header ≡ header_of l) × (row_start header.rows ≤ length l)

-- ---- what the writes of an admission need, so that they cannot fail

pub record Writable (lent : Lent) (m : Bytes) (s : Shown) : Type 0 where
  pub admission : s ≡ admission_in s.action lent.ledger m
  pub tape : line_size ≤ length lent.buffers.tape
  pub uti : length (swap_of m) ≤ uti_size
  -- a new swap's place is the one behind the rows in use
  pub place : place_for s.action lent.ledger m ≡ s.place
  pub row : row_start (s.place + 1) ≤ length lent.ledger
  pub rows : s.rows < 256 ^ u32
  pub next : s.next ≤ identifier_limit
  pub cap : s.cap ≤ largest_cap
  -- the total of the status before can be lowered, unless the swap is new
  pub before : s.before ≤ ported
  pub least : live ≤ s.status
  pub most : s.status ≤ ported
  pub counted : (s.before ≡ unknown → ⊥) → 0 < total_in s.before lent.ledger
