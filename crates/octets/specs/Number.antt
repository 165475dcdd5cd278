-- Numbers in bytes: little-endian, and as decimal digits.
use Rattle.std.specs.Prelude.{ℕ, zero, suc, ◌+◌, ◌*◌, ◌/◌, ◌%◌, [], ◌∷◌, ◌++◌}
use Prim.Native.Char.{code}
use Rattle.octets.specs.Bytes.{Bytes}

-- the number that bytes stand for, the lowest first
unfoldable pub from_le : Bytes → ℕ
from_le [] = zero
from_le (b ∷ bs) = from_le bs * 256 + b

-- the n lowest bytes of v, the lowest first
unfoldable pub to_le : ℕ → ℕ → Bytes
to_le zero v = []
to_le (suc n) v = v % 256 ∷ to_le n (v / 256)

-- the last n decimal digits of v, zero padded, as text
unfoldable pub digits : ℕ → ℕ → Bytes
digits zero v = []
digits (suc n) v = digits n (v / 10) ++ ((v % 10 + code "0") ∷ [])
