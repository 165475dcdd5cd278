-- Specification, section 6: the exact amount that a value spells.
use Rattle.std.specs.Prelude.{ℕ, ◌+◌, ◌-◌, ◌*◌, ◌^◌, [], ◌∷◌, ◌++◌, take, replicate}
use Prim.Native.Char.{code}
use Rattle.octets.specs.Bytes.{Bytes}
use Rattle.octets.specs.Choice.{choose}
use Rattle.values.specs.Run.{in_class}
use Rattle.values.specs.declared.run.Class.TheVariants.{Digit}
use Rattle.numbers.specs.Numbers.{whole_of, decimals_of, notional_decimals}

-- a unit of the notional currency, in units of 10^-5
abbrev pub unit : ℕ
unit = 10 ^ notional_decimals

-- the number of a digit; what is no digit counts 0
unfoldable pub digit : ℕ → ℕ
digit b = choose (in_class Digit b) (b - code "0") 0

-- the number that digits spell, read on from n
unfoldable pub spelled : ℕ → Bytes → ℕ
spelled n [] = n
spelled n (b ∷ v) = spelled (n * 10 + digit b) v

-- what stands after the point, in units of 10^-5; decimals that are not sent count 0
unfoldable pub fraction : Bytes → ℕ
fraction v = spelled 0 (take notional_decimals (decimals_of v ++ replicate notional_decimals (code "0")))

-- the exact amount, in units of 10^-5
unfoldable pub amount : Bytes → ℕ
amount v = spelled 0 (whole_of v) * unit + fraction v
