-- A text as the list of its bytes.
use Prim.Native.Char.{code}
use Prim.Native.String.{String}
use Rattle.std.specs.Prelude.{[], ◌∷◌}
use Rattle.octets.specs.Bytes.{Bytes}

unfoldable pub text : String → Bytes
text String.[] = []
text (String.◌∷◌ c s) = code c ∷ text s
