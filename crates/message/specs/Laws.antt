-- Specification, section 2: what holds of every message whose layout is right. `layout_right` cites it.
use Rattle.std.specs.Prelude.{ℕ, ◌<◌, Bool, true, List, ◌++◌, ◌≡◌, length, take}
use Rattle.octets.specs.Bytes.{Bytes}
use Rattle.message.specs.Layout.{count, code_at, header_size, layout_right}
use Rattle.message.specs.Values.{value_at, value, values_from}

-- of every message whose layout is right, under any limits and known codes
abbrev pub WhereRight : (Bytes → Type 0) → Type 0
WhereRight says = (longest most : ℕ) (known : List Bool) (m : Bytes) → layout_right longest most known m ≡ true → says m

-- the message is its header and then its values, in order and without gap
abbrev pub ValuesWhole : Type 0
ValuesWhole = WhereRight (λ m. take (header_size m) m ++ values_from m 0 (count m) ≡ m)

-- no value is empty
abbrev pub ValueFilled : Type 0
ValueFilled = WhereRight (λ m. (k : ℕ) → k < count m → 0 < length (value_at m k))

-- each entry's value is found by the entry's code
abbrev pub ValueFound : Type 0
ValueFound = WhereRight (λ m. (k : ℕ) → k < count m → value (code_at m k) m ≡ value_at m k)

pub record LayoutLaws : Type 0 where
  pub whole : ValuesWhole
  pub filled : ValueFilled
  pub found : ValueFound
