-- Specification, section 8: the header, and when it is right (verdict 3).
use Rattle.std.specs.Prelude.{ℕ, ◌-◌, ◌/◌, ◌≤◌, min, Bool, true, ◌≡◌, List, [], ◌∷◌, ◌++◌, length, eqb, leb, None, Option, Some}
use Prim.Native.String.{String}
use Rattle.octets.specs.Bytes.{Bytes}
use Rattle.octets.specs.Choice.{choose, both}
use Rattle.octets.specs.Part.{part}
use Rattle.octets.specs.Number.{from_le}
use Rattle.octets.specs.Same.{look_up}
use Rattle.octets.specs.Fields.{FieldText, number_field, bytes_of}
use Rattle.values.specs.Run.{within}
use Rattle.notional.specs.Masking.{is_cap}
use Rattle.ledger.specs.Layout.{u32, u64, rows_at, first_row_at, next_at, cap_at, row_size_at, capacity_at, header_size, row_size, shortest_ledger, identifier_limit}
use Rattle.ledger.specs.Totals.{totals_in, sum_of}
use Rattle.ledger.specs.declared.header.Caps.{Caps}
use Rattle.ledger.specs.declared.header.Header.{Header}

-- ---- the numbers of the header, whatever the bytes

unfoldable pub rows_in_use : Bytes → ℕ
rows_in_use l = from_le (part l rows_at u32)

unfoldable pub first_row : Bytes → ℕ
first_row l = from_le (part l first_row_at u32)

unfoldable pub next_identifier : Bytes → ℕ
next_identifier l = from_le (part l next_at u64)

abbrev pub cap_in : ℕ → Bytes → ℕ
cap_in k l = from_le (part l (cap_at k) u64)

unfoldable pub caps_in : Bytes → Caps
caps_in l = record { cr = cap_in 0 l; ir = cap_in 1 l; fx = cap_in 2 l; eq = cap_in 3 l; co = cap_in 4 l }

unfoldable pub size_of_rows : Bytes → ℕ
size_of_rows l = from_le (part l row_size_at u32)

unfoldable pub capacity_in : Bytes → ℕ
capacity_in l = from_le (part l capacity_at u32)

-- ---- caps

-- each asset class has one cap
abbrev pub class_caps : Caps → List (String × ℕ)
class_caps caps = ("CR", caps.cr) ∷ ("IR", caps.ir) ∷ ("FX", caps.fx) ∷ ("EQ", caps.eq) ∷ ("CO", caps.co) ∷ []

-- a value that is no class has none
unfoldable pub cap_for : Caps → Bytes → ℕ
cap_for caps v = look_up (class_caps caps) 0 v

-- each cap is in its range and its own rounded amount (verdict 2)
unfoldable pub are_caps : Caps → Bool
are_caps caps = both (is_cap caps.cr) (both (is_cap caps.ir) (both (is_cap caps.fx) (both (is_cap caps.eq) (is_cap caps.co))))

-- ---- a right header

-- the length without the header, divided by the row size, rounded down, or the largest capacity where that is less
unfoldable pub capacity_for : ℕ → ℕ → ℕ
capacity_for largest n = min ((n - header_size) / row_size) largest

-- the ledger is long enough and its header has the layout, no more rows than capacity, caps, and totals that add up to the rows in use
unfoldable pub header_right : ℕ → Bytes → Bool
header_right largest l =
    both (leb shortest_ledger (length l))
    (both (eqb (first_row l) header_size)
    (both (within 1 identifier_limit (next_identifier l))
    (both (eqb (size_of_rows l) row_size)
    (both (eqb (capacity_in l) (capacity_for largest (length l)))
    (both (leb (rows_in_use l) (capacity_in l))
    (both (are_caps (caps_in l)) (eqb (sum_of (totals_in l)) (rows_in_use l))))))))

-- the same, clause by clause
pub record RightHeader (largest : ℕ) (l : Bytes) : Type 0 where
  pub long : shortest_ledger ≤ length l
  pub offset : first_row l ≡ header_size
  pub positive : 1 ≤ next_identifier l
  pub next : next_identifier l ≤ identifier_limit
  pub size : size_of_rows l ≡ row_size
  pub capacity : capacity_in l ≡ capacity_for largest (length l)
  pub rows : rows_in_use l ≤ capacity_in l
  pub caps : are_caps (caps_in l) ≡ true
  pub totals : sum_of (totals_in l) ≡ rows_in_use l

-- the numbers of a header that a submission uses
unfoldable pub header_of : Bytes → Header
header_of l = record { rows = rows_in_use l; next = next_identifier l; capacity = capacity_in l; caps = caps_in l; totals = totals_in l }

-- what the check of a ledger answers: a fault, or the header's numbers
unfoldable pub checked_header : ℕ → Bytes → Option Header
checked_header largest l = choose (header_right largest l) (Some (header_of l)) None

-- ---- the header that opening writes

-- five caps in the order CR, IR, FX, EQ, CO
abbrev pub cap_fields : Caps → List FieldText
cap_fields caps =
    number_field u64 caps.cr
    ∷ number_field u64 caps.ir
    ∷ number_field u64 caps.fx
    ∷ number_field u64 caps.eq
    ∷ number_field u64 caps.co
    ∷ []

-- four totals, 0
abbrev pub total_fields : List FieldText
total_fields = number_field u32 0 ∷ number_field u32 0 ∷ number_field u32 0 ∷ number_field u32 0 ∷ []

-- rows in use, 0; offset of the first row; next identifier, 1; caps; row size; capacity; totals
abbrev pub header_fields : Caps → ℕ → List FieldText
header_fields caps capacity =
    number_field u32 0
    ∷ number_field u32 header_size
    ∷ number_field u64 1
    ∷ (cap_fields caps ++ (number_field u32 row_size ∷ number_field u32 capacity ∷ total_fields))

unfoldable pub new_header : Caps → ℕ → Bytes
new_header caps capacity = bytes_of (header_fields caps capacity)
