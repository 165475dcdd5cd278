-- What is found from k on is what is found.
use Rattle.std.proofs.Common.{◌≡◌, ◌≤◌}
use Rattle.std.specs.Prelude.{max}
use Rattle.message.specs.Values.{entry_from}
use Rattle.message.proofs.entries.entry_of.Given as goal

abbrev pub invariant-loop-k : goal.invariant-loop-k
invariant-loop-k l = record {
  inside : l.k ≤ max l.n l.from;
  found : entry_from l.m l.code l.k ≡ entry_from l.m l.code l.from;
}
