-- The cursor has come to the code, and the first code at fault from here on is the first.
use Rattle.std.proofs.Common.{ℕ, Bool, ◌≡◌, ◌+◌, ◌-◌}
use Rattle.octets.specs.Search.{first_from}
use Rattle.message.specs.Reading.{Reached}
use Rattle.elements.specs.Table.{last_code}
use Rattle.rules.specs.Rules.{TellsFaults}
use Rattle.rules.proofs.checks.lowest_fault.Given as goal

abbrev pub invariant-loop-code : goal.invariant-loop-code
invariant-loop-code g l = record {
  same : l.cursor.message.src.now ≡ l.message.src.now;
  reached : Reached l.message.src.now l.code l.cursor.at;
  first : (faulty : ℕ → Bool) → TellsFaults (goal.F-post g l.is_at_fault) faulty l.message.src.now → first_from faulty l.code (last_code + 1 - l.code) ≡ first_from faulty 1 last_code;
}
