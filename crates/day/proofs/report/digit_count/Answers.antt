use Rattle.day.proofs.DecimalLaws.{decimal_fewest}
use Rattle.day.proofs.report.digit_count.Goals as goal

pub returns-then-rest-lt10-clause-decimal_fewest : goal.returns-then-rest-lt10-clause-decimal_fewest
returns-then-rest-lt10-clause-decimal_fewest c = decimal_fewest

pub returns-clause-decimal_fewest : goal.returns-clause-decimal_fewest
returns-clause-decimal_fewest c = decimal_fewest
