-- Specification, section 9: number and element of each refusal, as the code's enum has them.
use Rattle.std.specs.Prelude.{ℕ, List, Option, unwrap_or, Result, Err, Ok}
use Rattle.ledger.specs.declared.search.Swap.{Swap}
use Rattle.rules.specs.Rules as rules
use Rattle.submission.specs.Verdicts.{ledger_short, cap_wrong, ledger_wrong, tape_short, row_wrong, not_admitted, other_time, ledger_full, identifiers_spent}
use Rattle.submission.specs.Totals.{no_totals}
use Rattle.repository.specs.declared.answer.Answer.{Answer}
use Rattle.repository.specs.declared.verdicts.Refusal.{Refusal}
use Rattle.repository.specs.declared.verdicts.Refusal.TheVariants.{LedgerShort, CapWrong, LedgerWrong, TapeShort, Message, RowWrong, NotAdmitted, OtherTime, LedgerFull, IdentifiersSpent}
use Rattle.repository.specs.Answers.{answer_with, refusal_answer}

abbrev pub numbers_of : Refusal → ℕ × ℕ
numbers_of LedgerShort = (ledger_short, 0)
numbers_of CapWrong = (cap_wrong, 0)
numbers_of LedgerWrong = (ledger_wrong, 0)
numbers_of TapeShort = (tape_short, 0)
numbers_of (Message r) = rules.numbers_of r
numbers_of RowWrong = (row_wrong, 0)
numbers_of NotAdmitted = (not_admitted, 0)
numbers_of OtherTime = (other_time, 0)
numbers_of LedgerFull = (ledger_full, 0)
numbers_of IdentifiersSpent = (identifiers_spent, 0)

-- the number that stands for it in an answer: 0 where nothing is refused
abbrev pub verdict_of : {A : Type 0} → Result A Refusal → ℕ
verdict_of (Err r) = (numbers_of r).0
verdict_of (Ok a) = 0

-- ---- what is answered

-- a refusal: beside it, status and identifier are 0
abbrev pub refused_answer : Refusal → Answer
refused_answer r = refusal_answer (numbers_of r).0 (numbers_of r).1

-- a submission answers the identifier its line took, 0 where no line is written
abbrev pub concluded_answer : Result (Option ℕ) Refusal → Answer
concluded_answer (Err r) = refused_answer r
concluded_answer (Ok identifier) = answer_with 0 0 0 (unwrap_or identifier 0)

-- the status question answers the status and the last identifier
abbrev pub asked_answer : Result Swap Refusal → Answer
asked_answer (Err r) = refused_answer r
asked_answer (Ok s) = answer_with 0 0 s.status s.identifier

-- the totals question answers the totals by status, zeros beside a refusal
abbrev pub totals_of : Result (List ℕ) Refusal → List ℕ
totals_of (Err r) = no_totals
totals_of (Ok totals) = totals
