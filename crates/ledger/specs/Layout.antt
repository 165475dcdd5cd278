-- Specification, sections 7 and 8: sizes and offsets in bytes. Each offset follows from the field before it; Document.antt has the numbers.
use Rattle.std.specs.Prelude.{ℕ, ◌+◌, ◌-◌, ◌*◌, []}
use Rattle.octets.specs.Fields.{size_of}
use Rattle.values.specs.Limits.{uti_most}
use Rattle.actions.specs.declared.Action.TheVariants.{Newt}
use Rattle.actions.specs.Statuses.{live, ported}
use Rattle.terms.specs.Terms.{terms_size}
use Rattle.ledger.specs.Line.{line_fields}

-- ---- numbers, of one, four and eight bytes

abbrev pub u8 : ℕ
u8 = 1

abbrev pub u32 : ℕ
u32 = 4

abbrev pub u64 : ℕ
u64 = 8

-- ---- the header

-- rows in use
abbrev pub rows_at : ℕ
rows_at = 0

-- offset of the first row
abbrev pub first_row_at : ℕ
first_row_at = rows_at + u32

-- next identifier
abbrev pub next_at : ℕ
next_at = first_row_at + u32

-- five caps in the order CR, IR, FX, EQ, CO
abbrev pub caps_at : ℕ
caps_at = next_at + u64

abbrev pub cap_at : ℕ → ℕ
cap_at k = caps_at + k * u64

-- row size
abbrev pub row_size_at : ℕ
row_size_at = cap_at 5

-- capacity
abbrev pub capacity_at : ℕ
capacity_at = row_size_at + u32

-- four totals, by status from live to ported
abbrev pub totals_at : ℕ
totals_at = capacity_at + u32

abbrev pub total_at : ℕ → ℕ
total_at s = totals_at + (s - live) * u32

abbrev pub header_size : ℕ
header_size = total_at ported + u32

-- ---- a row

abbrev pub status_at : ℕ
status_at = 0

-- UTI length
abbrev pub length_at : ℕ
length_at = status_at + u8

-- UTI, space padded
abbrev pub uti_at : ℕ
uti_at = length_at + u8

abbrev pub uti_size : ℕ
uti_size = uti_most

-- this swap's last identifier
abbrev pub identifier_at : ℕ
identifier_at = uti_at + uti_size

-- masked terms
abbrev pub terms_at : ℕ
terms_at = identifier_at + u64

-- zero
abbrev pub tail_at : ℕ
tail_at = terms_at + terms_size

abbrev pub tail_size : ℕ
tail_size = 5

abbrev pub row_size : ℕ
row_size = tail_at + tail_size

-- where the row at a place starts, counted from 0
abbrev pub row_start : ℕ → ℕ
row_start k = header_size + k * row_size

-- a ledger has at least one row
abbrev pub shortest_ledger : ℕ
shortest_ledger = row_start 1

-- identifiers are given up to the one before this
abbrev pub identifier_limit : ℕ
identifier_limit = 1_000_000_000_000

-- ---- the tape line

-- whatever it shows
abbrev pub line_size : ℕ
line_size = size_of (line_fields Newt 0 0 [] [])
