-- `repository::sdr_status` meets its contract. Assumes nothing.
use Rattle.std.proofs.Common.{◌∙◌}
use Rattle.submission.specs.Opening.{document_limits}
use Rattle.repository.proofs.AnswerSizes.{carried, question_small}
use Rattle.repository.proofs.Demanded.{question_demands}
use Rattle.repository.proofs.sdr_status.Goals as goal

pub pack-requires : goal.pack-requires
pack-requires c = carried _ _ (c.from.ensures ∙ c.status.ensures document_limits.longest) (question_small document_limits _ _)

pub returns-clause-question_demands : goal.returns-clause-question_demands
returns-clause-question_demands c = question_demands
