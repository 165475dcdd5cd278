-- Specification, section 2: elements laid out as a message.
use Rattle.std.specs.Prelude.{ℕ, ◌+◌, ◌*◌, List, [], ◌∷◌, ◌++◌, length}
use Prim.Native.String.{String}
use Rattle.octets.specs.Bytes.{Bytes}
use Rattle.octets.specs.Number.{to_le}
use Rattle.octets.specs.Text.{text}
use Rattle.message.specs.Layout.{count_size, entry_size, code_size}

-- an element: its code and its value
abbrev pub Element : Type 0
Element = ℕ × String

-- the size of an offset
abbrev pub offset_size : ℕ
offset_size = 2

-- an entry for each element: its code, and the offset of its value; the first value stands at `at`
unfoldable pub entries : ℕ → List Element → Bytes
entries at [] = []
entries at (e ∷ es) = to_le code_size e.0 ++ (to_le offset_size at ++ entries (at + length (text e.1)) es)

-- the values, one after the other
unfoldable pub values : List Element → Bytes
values [] = []
values (e ∷ es) = text e.1 ++ values es

-- count, entries, values
unfoldable pub encoded : List Element → Bytes
encoded es = to_le count_size (length es) ++ (entries (count_size + entry_size * length es) es ++ values es)
