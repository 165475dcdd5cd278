-- A field: so many bytes that hold a text, left aligned; what is left out is spaces.
use Rattle.std.specs.Prelude.{ℕ, min, ◌≡◌, ◌++◌, length, take, replicate}
use Prim.Native.Char.{code}
use Rattle.octets.specs.Bytes.{Bytes}

-- the n bytes of a field: the text xs, then spaces; what does not fit is cut
unfoldable pub field : ℕ → Bytes → Bytes
field n xs = take n (xs ++ replicate n (code " "))

-- the bytes d are the field of n bytes that holds xs, and `at` is the place behind xs
pub record FieldHolds (n : ℕ) (xs d : Bytes) (at : ℕ) : Type 0 where
  pub bytes : d ≡ field n xs
  pub place : at ≡ min n (length xs)
