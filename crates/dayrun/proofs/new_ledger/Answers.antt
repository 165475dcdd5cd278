use Rattle.dayrun.proofs.Examples.{examples}
use Rattle.dayrun.proofs.new_ledger.Goals as goal

pub returns-clause-examples : goal.returns-clause-examples
returns-clause-examples c = examples
