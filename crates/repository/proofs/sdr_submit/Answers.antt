-- `repository::sdr_submit` meets its contract. Assumes nothing.
use Rattle.submission.specs.Opening.{document_limits}
use Rattle.repository.proofs.AnswerSizes.{carried, submission_small}
use Rattle.repository.proofs.Demanded.{submission_demands}
use Rattle.repository.proofs.sdr_submit.Goals as goal

pub pack-requires : goal.pack-requires
pack-requires c = carried _ _ c.submit.ensures.value (submission_small document_limits _ _)

pub returns-clause-submission_demands : goal.returns-clause-submission_demands
returns-clause-submission_demands c = submission_demands
