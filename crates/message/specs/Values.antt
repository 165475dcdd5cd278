-- Specification, section 2: the value of an element.
use Rattle.std.specs.Prelude.{ℕ, zero, suc, ◌+◌, ◌-◌, ◌/◌, ◌<◌, min, Bool, ◌≡◌, [], ◌++◌, length, ltb, eqb}
use Rattle.octets.specs.Bytes.{Bytes}
use Rattle.octets.specs.Choice.{choose}
use Rattle.octets.specs.Search.{first_from}
use Rattle.octets.specs.Part.{part}
use Rattle.message.specs.Layout.{count_size, entry_size, count, code_at, offset_at}

-- the entries that stand whole in the message: all n where the layout is right
unfoldable pub entries : Bytes → ℕ
entries m = min (count m) ((length m - count_size) / entry_size)

-- the first entry from `from` on with a code; where there is none, the number of entries, or `from` if that is past it
unfoldable pub entry_from : Bytes → ℕ → ℕ → ℕ
entry_from m code from = first_from (λ k. eqb (code_at m k) code) from (entries m - from)

-- a value runs to the next offset, the last one to the end
unfoldable pub end_of : Bytes → ℕ → ℕ
end_of m k = choose (ltb (k + 1) (entries m)) (offset_at m (k + 1)) (length m)

-- the value of entry k, nothing where there is no such entry
unfoldable pub value_at : Bytes → ℕ → Bytes
value_at m k = choose (ltb k (entries m)) (part m (offset_at m k) (end_of m k - offset_at m k)) []

-- the offset of the element's own entry
unfoldable pub offset_of : ℕ → Bytes → ℕ
offset_of code m = offset_at m (entry_from m code 0)

-- the value of the element with a code, nothing where the element is missing
unfoldable pub value : ℕ → Bytes → Bytes
value code m = value_at m (entry_from m code 0)

-- no value is empty, so an element is there where it has bytes
unfoldable pub is_there : ℕ → Bytes → Bool
is_there code m = ltb 0 (length (value code m))

-- the values of the d entries from k on, one after the other
unfoldable pub values_from : Bytes → ℕ → ℕ → Bytes
values_from m k zero = []
values_from m k (suc d) = value_at m k ++ values_from m (suc k) d

-- two messages have the same codes, entry by entry
abbrev pub SameCodes : Bytes → Bytes → Type 0
SameCodes m₁ m₂ = (count m₁ ≡ count m₂) × ((k : ℕ) → k < count m₁ → code_at m₁ k ≡ code_at m₂ k)
