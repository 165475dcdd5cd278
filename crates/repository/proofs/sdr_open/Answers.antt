-- `repository::sdr_open` meets its contract. Assumes nothing.
use Rattle.std.proofs.Common.{◌∙◌}
use Rattle.submission.specs.Opening.{document_limits}
use Rattle.repository.proofs.Demanded.{opening_demands}
use Rattle.repository.proofs.sdr_open.Goals as goal

pub returns-clause-value : goal.returns-clause-value
returns-clause-value c = c.verdict_of.ensures ∙ c.«open».ensures.by_index document_limits.longest

pub returns-clause-opening_demands : goal.returns-clause-opening_demands
returns-clause-opening_demands c = opening_demands
