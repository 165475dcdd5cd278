-- A number that no status has has no total.
use Rattle.ledger.proofs.TotalsLaws.{none_counted}
use Rattle.ledger.proofs.totals.total_of.Goals as goal

pub returns-in-Err : goal.returns-in-Err
returns-in-Err c = none_counted _ _ c.in-Err.ensures.1
