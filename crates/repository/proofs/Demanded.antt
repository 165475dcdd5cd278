-- What the exported operations cite beside their answers. Assumes nothing.
use lib.Dec.{lit<}
use Rattle.submission.specs.Opening.{document_limits}
use Rattle.submission.proofs.Demand1.{opening_answers, submission_answers, question_answers, totals_answers}
use Rattle.submission.proofs.LineDueLaws.{line_due_exactly}
use Rattle.submission.proofs.Demand2.{opening_exactly, opening_writes, opening_passes, verdict_exactly, checking_order, accepted_exactly, quiet_modification, acceptance_writes, question_exactly, totals_exactly}
use Rattle.submission.proofs.Demand3.{tape_published, same_tapes, masked_terms_public}
use Rattle.submission.proofs.Counting.{identifier_with_line, identifier_counts, quiet_call}
use Rattle.submission.proofs.SinceOpening.{totals_count, totals_sum, rows_differ}
use Rattle.repository.specs.Demands.{OpeningDemands, SubmissionDemands, QuestionDemands, TotalsDemands}
use Rattle.repository.proofs.AnswerLaws.{number_carries}

pub opening_demands : OpeningDemands
opening_demands = (opening_answers, opening_exactly, opening_writes, opening_passes, opening_passes document_limits (lit< tt))

pub submission_demands : SubmissionDemands
submission_demands =
    record {
      answers = submission_answers;
      exactly = verdict_exactly;
      order = checking_order;
      accepted = accepted_exactly;
      due = line_due_exactly;
      modification = quiet_modification;
      writes = acceptance_writes;
      tapes = same_tapes;
      published = tape_published;
      line = identifier_with_line;
      counts = identifier_counts;
      quiet = quiet_call;
      number = number_carries;
      terms = masked_terms_public;
      modification_here = quiet_modification document_limits (lit< tt);
      writes_here = acceptance_writes document_limits (lit< tt);
      tapes_here = same_tapes document_limits (lit< tt);
      published_here = tape_published document_limits (lit< tt);
      counts_here = identifier_counts document_limits (lit< tt);
    }

pub question_demands : QuestionDemands
question_demands = (question_answers, question_exactly, number_carries)

pub totals_demands : TotalsDemands
totals_demands =
    record {
      answers = totals_answers;
      exactly = totals_exactly;
      count = totals_count;
      sum = totals_sum;
      rows = rows_differ;
      count_here = totals_count document_limits (lit< tt);
      sum_here = totals_sum document_limits (lit< tt);
      rows_here = rows_differ document_limits (lit< tt);
    }
