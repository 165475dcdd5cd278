-- Specification, section 2: the header of counts and offsets, and when the layout is right (verdict 5).
use Rattle.std.specs.Prelude.{ℕ, ◌+◌, ◌-◌, ◌*◌, Bool, false, List, length, get_or, ltb, leb, eqb}
use Rattle.octets.specs.Bytes.{Bytes}
use Rattle.octets.specs.Choice.{choose, both}
use Rattle.octets.specs.Search.{all}
use Rattle.octets.specs.Part.{part}
use Rattle.octets.specs.Number.{from_le}

-- sizes: the count, an entry, and the code in it, which the offset follows
abbrev pub count_size : ℕ
count_size = 2

abbrev pub entry_size : ℕ
entry_size = 4

abbrev pub code_size : ℕ
code_size = 2

-- the u16 at a place; past the end there are zeros
unfoldable pub u16_at : Bytes → ℕ → ℕ
u16_at m at = from_le (part m at 2)

-- n, the number of entries
abbrev pub count : Bytes → ℕ
count m = u16_at m 0

-- the code and the offset of entry k
abbrev pub code_at : Bytes → ℕ → ℕ
code_at m k = u16_at m (count_size + entry_size * k)

abbrev pub offset_at : Bytes → ℕ → ℕ
offset_at m k = u16_at m (count_size + entry_size * k + code_size)

-- where the header ends and the first value starts
abbrev pub header_size : Bytes → ℕ
header_size m = count_size + entry_size * count m

-- entry k: its code is known; its offset is below the message's length; the first offset is the header's size; codes and offsets rise strictly
unfoldable pub entry_right : List Bool → Bytes → ℕ → Bool
entry_right known m k =
    both (get_or known (code_at m k) false)
    (both (ltb (offset_at m k) (length m))
    (choose (eqb k 0)
    (eqb (offset_at m k) (header_size m))
    (both (ltb (code_at m (k - 1)) (code_at m k)) (ltb (offset_at m (k - 1)) (offset_at m k)))))

-- a message has a count and is no longer than the longest, n is at most the most, with n = 0 it is the count alone, and else each entry is right.
-- `known` says of each code from 0 on whether a message may have it
unfoldable pub layout_right : ℕ → ℕ → List Bool → Bytes → Bool
layout_right longest most known m =
    both (leb count_size (length m))
    (both (leb (length m) longest)
    (both (leb (count m) most)
    (choose (eqb (count m) 0) (eqb (length m) count_size) (all (entry_right known m) (count m)))))
