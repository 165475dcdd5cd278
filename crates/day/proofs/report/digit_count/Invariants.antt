-- What is left of n adds as many digits as are still to be counted.
use Rattle.std.proofs.Common.{◌≡◌, ◌-◌}
use Rattle.day.specs.Report.{most_digits, digits_from, digit_count}
use Rattle.day.proofs.report.digit_count.Given as goal

abbrev pub invariant-loop-count : goal.invariant-loop-count
invariant-loop-count l = digits_from (most_digits - l.count) l.count l.rest ≡ digit_count l.n
