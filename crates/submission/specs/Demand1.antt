-- Demand 1 (specification, clause 12.1): any bytes in message, ledger or tape buffer get an answer; a refusal has its number, names the element where one is at fault, and changes no
-- byte of ledger or tape buffer. That any bytes get an answer lies in the definitions: they are functions of lists of any length.
use Rattle.std.specs.Prelude.{ℕ, true, ◌≡◌, Ok}
use Rattle.octets.specs.Bytes.{Bytes}
use Rattle.actions.specs.declared.Action.{Action}
use Rattle.actions.specs.Actions.{action_type}
use Rattle.elements.specs.Codes.{uti}
use Rattle.rules.specs.Rules.{Check}
use Rattle.rules.specs.Verdicts.{action_wrong, form_broken}
use Rattle.rules.specs.Findings.{is_one_of, LowestAtFault}
use Rattle.rules.specs.Rules.{at_fault, number_of}
use Rattle.ledger.specs.declared.header.Caps.{Caps}
use Rattle.submission.specs.Verdicts.{opening_numbers, submission_numbers, question_numbers, totals_numbers}
use Rattle.submission.specs.Opening.{Limits, opened}
use Rattle.submission.specs.Lent.{Lent}
use Rattle.submission.specs.Submission.{Submitted, submitted, action_in}
use Rattle.submission.specs.Status.{Asked, asked}
use Rattle.submission.specs.Totals.{no_totals, asked_totals}

-- 7, 8, 9 and 11 name the lowest element code at fault
pub record NamesLowest (check : Check) (m : Bytes) (element : ℕ) : Type 0 where
  pub action : Action
  pub reads : action_in m ≡ Ok action
  pub lowest : LowestAtFault (at_fault check action m) element

-- the element that a submission names: those four, 6 names 2; elsewhere the element is 0
pub record Names (s : Submitted) (m : Bytes) : Type 0 where
  pub lowest : (check : Check) → s.verdict ≡ number_of check → NamesLowest check m s.element
  pub action : s.verdict ≡ action_wrong → s.element ≡ action_type
  pub nothing : (s.verdict ≡ action_wrong → ⊥) → ((check : Check) → s.verdict ≡ number_of check → ⊥) → s.element ≡ 0

-- a refusal: its number, no identifier beside it, and no byte of ledger or tape buffer is changed
pub record Refusal (s : Submitted) (lent : Lent) : Type 0 where
  pub number : is_one_of submission_numbers s.verdict ≡ true
  pub identifier : s.identifier ≡ 0
  pub unchanged : s.lent ≡ lent

abbrev pub SubmissionAnswers : Type 0
SubmissionAnswers =
    (limits : Limits) (lent : Lent) (m : Bytes)
    → Names (submitted limits lent m) m × (((submitted limits lent m).verdict ≡ 0 → ⊥) → Refusal (submitted limits lent m) lent)

-- a refused opening has its number and writes nothing
abbrev pub OpeningAnswers : Type 0
OpeningAnswers =
    (limits : Limits) (caps : Caps) (l : Bytes)
    → ((opened limits caps l).verdict ≡ 0 → ⊥)
    → (is_one_of opening_numbers (opened limits caps l).verdict ≡ true) × ((opened limits caps l).ledger ≡ l)

-- the status question: 9 names 1; a refusal has its number, and status and identifier beside it are 0
pub record Question (a : Asked) : Type 0 where
  pub named : a.verdict ≡ form_broken → a.element ≡ uti
  pub nothing : (a.verdict ≡ form_broken → ⊥) → a.element ≡ 0
  pub number : (a.verdict ≡ 0 → ⊥) → is_one_of question_numbers a.verdict ≡ true
  pub refused : (a.verdict ≡ 0 → ⊥) → (a.status ≡ 0) × (a.identifier ≡ 0)

abbrev pub QuestionAnswers : Type 0
QuestionAnswers = (limits : Limits) (l u : Bytes) → Question (asked limits l u)

-- the totals question: a refusal has its number, and the totals beside it are 0
abbrev pub TotalsAnswers : Type 0
TotalsAnswers =
    (limits : Limits) (l : Bytes)
    → ((asked_totals limits l).verdict ≡ 0 → ⊥)
    → (is_one_of totals_numbers (asked_totals limits l).verdict ≡ true) × ((asked_totals limits l).totals ≡ no_totals)
