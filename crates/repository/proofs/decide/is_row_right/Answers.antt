-- `repository::decide::is_row_right` meets its contract where the row's number is no status. Assumes nothing.
use Rattle.submission.specs.Submission.{row_right}
use Rattle.repository.proofs.StatusLaws.{no_status}
use Rattle.repository.proofs.decide.is_row_right.Goals as goal

pub returns-in_default : goal.returns-in_default
unfolding row_right
returns-in_default c = rw (no_status _ _ _ c.try_from.ensures c.in_default.is)
