-- What the entries from k on tell is what the layout tells.
use Rattle.std.proofs.Common.{◌≡◌, ◌-◌}
use Rattle.octets.specs.Search.{all_from}
use Rattle.message.specs.Layout.{entry_right, layout_right}
use Rattle.message.proofs.layout.layout_right.Given as goal

abbrev pub invariant-loop-k : goal.invariant-loop-k
invariant-loop-k l = all_from (entry_right l.known l.m) l.k (l.n - l.k) ≡ layout_right l.longest l.most l.known l.m
