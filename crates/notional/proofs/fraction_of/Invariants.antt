-- n is what the first k decimals spell.
use Rattle.std.proofs.Common.{◌≡◌, ◌^◌, ◌<◌, ◌++◌, take, replicate}
use Prim.Native.Char.{code}
use Rattle.numbers.specs.Numbers.{notional_decimals}
use Rattle.notional.specs.Amount.{spelled}
use Rattle.notional.proofs.fraction_of.Given as goal

abbrev pub invariant-loop-k : goal.invariant-loop-k
invariant-loop-k l = record {
  fits : l.n < 10 ^ l.k;
  value : l.n ≡ spelled 0 (take l.k (l.d ++ replicate notional_decimals (code "0")));
}
