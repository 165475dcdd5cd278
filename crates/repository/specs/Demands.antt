-- The demands, as the contracts of the exported operations cite them: each is a theorem of `submission`. An answer in one number has its own law.
use Rattle.submission.specs.Opening.{document_limits}
use Rattle.submission.specs.Demand1.{SubmissionAnswers, OpeningAnswers, QuestionAnswers, TotalsAnswers}
use Rattle.submission.specs.Demand2.{VerdictExactly, CheckingOrder, AcceptedExactly, LineDueExactly, QuietModificationUnder, QuietModification, WritesUnder, AcceptanceWrites, EachOpeningExactly, OpeningWrites, OpeningPassesUnder, OpeningPasses, EachQuestionExactly, EachTotalsExactly}
use Rattle.submission.specs.Demand3.{SameTapesUnder, SameTapes, MaskedTermsPublic}
use Rattle.submission.specs.Published.{TapePublishedUnder, TapePublished}
use Rattle.submission.specs.Counting.{IdentifierWithLine, IdentifierCountsUnder, IdentifierCounts, QuietCall}
use Rattle.submission.specs.SinceOpening.{TotalsCountUnder, TotalsCount, TotalsSumUnder, TotalsSum, RowsDifferUnder, RowsDiffer}
use Rattle.repository.specs.Answers.{NumberCarries}

-- opening: demands 1 and 2, and that a submission finds its header right, also at the specification's limits
abbrev pub OpeningDemands : Type 0
OpeningDemands = OpeningAnswers × EachOpeningExactly × OpeningWrites × OpeningPasses × OpeningPassesUnder document_limits

-- submitting: demands 1, 2 and 3, and what they rest on
pub record SubmissionDemands : Type 0 where
  pub answers : SubmissionAnswers
  pub exactly : VerdictExactly
  pub order : CheckingOrder
  pub accepted : AcceptedExactly
  pub due : LineDueExactly
  pub modification : QuietModification
  pub writes : AcceptanceWrites
  pub tapes : SameTapes
  pub published : TapePublished
  pub line : IdentifierWithLine
  pub counts : IdentifierCounts
  pub quiet : QuietCall
  pub number : NumberCarries
  -- whatever the parties, package names, settlement dates and true amounts
  pub terms : MaskedTermsPublic
  -- those that ask something of the limits, at the specification's
  pub modification_here : QuietModificationUnder document_limits
  pub writes_here : WritesUnder document_limits
  pub tapes_here : SameTapesUnder document_limits
  pub published_here : TapePublishedUnder document_limits
  pub counts_here : IdentifierCountsUnder document_limits

-- the status question: demands 1 and 2
abbrev pub QuestionDemands : Type 0
QuestionDemands = QuestionAnswers × EachQuestionExactly × NumberCarries

-- the totals question: demands 1 and 2, and what the totals and the rows are since opening
pub record TotalsDemands : Type 0 where
  pub answers : TotalsAnswers
  pub exactly : EachTotalsExactly
  pub count : TotalsCount
  pub sum : TotalsSum
  pub rows : RowsDiffer
  -- the same at the specification's limits
  pub count_here : TotalsCountUnder document_limits
  pub sum_here : TotalsSumUnder document_limits
  pub rows_here : RowsDifferUnder document_limits
