-- One decimal more, or a zero past the last one.
use Rattle.std.proofs.Common.{◌<◌, length, replicate, ◌++◌, length-append, arith}
use Prim.Native.Char.{code}
use Rattle.numbers.specs.Numbers.{notional_decimals}
use Rattle.notional.proofs.AmountLaws.{spelled_more, digits_fit, digit_padded}
use Rattle.notional.proofs.fraction_of.Goals as goal

pub loop-k-preserved : goal.loop-k-preserved
loop-k-preserved c =
    let d = c.decimals_of-d.result.now in
    let k = c.loop-k.k in
    let here : k < length (d ++ replicate notional_decimals (code "0")) = rw length-append (omega arith) in
    record {
      fits = digits_fit k c.loop-k.n _ c.loop-k.invariant.fits c.digit_of.ensures.1;
      value = cc (spelled_more (d ++ replicate notional_decimals (code "0")) k here, digit_padded d notional_decimals k);
    }
