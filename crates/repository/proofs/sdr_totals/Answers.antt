-- `repository::sdr_totals` meets its contract. Assumes nothing.
use Rattle.repository.proofs.Demanded.{totals_demands}
use Rattle.repository.proofs.sdr_totals.Goals as goal

pub returns-clause-totals_demands : goal.returns-clause-totals_demands
returns-clause-totals_demands c = totals_demands
