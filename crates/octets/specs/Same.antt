-- Equality of bytes as a test, and the place of bytes in a list of codes.
use Rattle.std.specs.Prelude.{ℕ, suc, ◌*◌, Bool, true, false, List, [], ◌∷◌, length, eqb, ltb}
use Prim.Native.String.{String}
use Rattle.octets.specs.Bytes.{Bytes}
use Rattle.octets.specs.Choice.{choose, both}
use Rattle.octets.specs.Search.{first}
use Rattle.octets.specs.Part.{part}
use Rattle.octets.specs.Text.{text}

-- xs and ys are the same bytes
unfoldable pub same_bytes : Bytes → Bytes → Bool
same_bytes [] [] = true
same_bytes [] (y ∷ ys) = false
same_bytes (x ∷ xs) [] = false
same_bytes (x ∷ xs) (y ∷ ys) = both (eqb x y) (same_bytes xs ys)

-- the place of the first of `count` codes that is the value, where the codes stand one after the other, each `width` bytes wide; `count` where none is
unfoldable pub place_among : ℕ → ℕ → Bytes → Bytes → ℕ
place_among width count codes v = first (λ k. same_bytes v (part codes (k * width) width)) count

-- the place of the first code that is the value, or the number of codes where none is
unfoldable pub place : List String → Bytes → ℕ
place [] v = 0
place (c ∷ cs) v = choose (same_bytes v (text c)) 0 (suc (place cs v))

-- the value is one of the codes, byte for byte
unfoldable pub one_of : List String → Bytes → Bool
one_of codes v = ltb (place codes v) (length codes)

-- the entry of a table for the first code that is the value, `other` where none is
unfoldable pub look_up {ℓ} : {A : Type ℓ} → List (String × A) → A → Bytes → A
look_up [] other v = other
look_up (c ∷ cs) other v = choose (same_bytes v (text c.0)) c.1 (look_up cs other v)
