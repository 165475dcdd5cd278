-- A layout: fields that follow each other, each with its length and its text. Where a field starts follows from those before it.
use Rattle.std.specs.Prelude.{ℕ, ◌+◌, ◌≡◌, List, [], ◌∷◌, ◌++◌}
use Rattle.octets.specs.Bytes.{Bytes}
use Rattle.octets.specs.Part.{part, splice}
use Rattle.octets.specs.Field.{field}
use Rattle.octets.specs.Number.{to_le}

-- a field of a layout: its length and its text
abbrev pub FieldText : Type 0
FieldText = ℕ × Bytes

-- a number of n bytes
abbrev pub number_field : ℕ → ℕ → FieldText
number_field n v = (n, to_le n v)

-- the length of the fields together
abbrev pub size_of : List FieldText → ℕ
size_of [] = 0
size_of (f ∷ fs) = f.0 + size_of fs

-- offset and length of each field, the first one at `at`
abbrev pub places : ℕ → List FieldText → List (ℕ × ℕ)
places at [] = []
places at (f ∷ fs) = (at, f.0) ∷ places (at + f.0) fs

-- the bytes of the fields; what is missing is spaces
unfoldable pub bytes_of : List FieldText → Bytes
bytes_of [] = []
bytes_of (f ∷ fs) = field f.0 f.1 ++ bytes_of fs

-- bytes with the fields written into them, the first one at `at`
unfoldable pub written : ℕ → List FieldText → Bytes → Bytes
written at [] d = d
written at (f ∷ fs) d = written (at + f.0) fs (splice d at (field f.0 f.1))

-- each field stands at its offset in the bytes, the first one at `at`
unfoldable pub Placed : ℕ → List FieldText → Bytes → Type 0
Placed at [] d = Unit {0}
Placed at (f ∷ fs) d = (part d at f.0 ≡ field f.0 f.1) × Placed (at + f.0) fs d
