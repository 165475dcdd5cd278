-- Specification, section 8: rows, which row is a swap's, and what each action writes of a row and of the header.
use Rattle.std.specs.Prelude.{ℕ, ◌+◌, Bool, List, [], ◌∷◌, length, get_or, replicate, eqb, ltb}
use Rattle.octets.specs.Bytes.{Bytes}
use Rattle.octets.specs.Choice.{choose, both}
use Rattle.octets.specs.Search.{first}
use Rattle.octets.specs.Part.{part, splice}
use Rattle.octets.specs.Same.{same_bytes}
use Rattle.octets.specs.Number.{from_le, to_le}
use Rattle.octets.specs.Fields.{FieldText, number_field, bytes_of}
use Rattle.terms.specs.Terms.{terms_size, time_size}
use Rattle.actions.specs.declared.Action.{Action}
use Rattle.actions.specs.Actions.{is_full, is_new}
use Rattle.actions.specs.Statuses.{unknown}
use Rattle.ledger.specs.Layout.{u8, u32, u64, rows_at, next_at, status_at, length_at, uti_at, uti_size, identifier_at, terms_at, tail_size, row_size, row_start}
use Rattle.ledger.specs.Totals.{totals_after}
use Rattle.ledger.specs.Header.{rows_in_use}
use Rattle.ledger.specs.declared.search.Swap.{Swap}

-- ---- what a row says, whatever its bytes

-- the row at a place, counted from 0
unfoldable pub row_at : Bytes → ℕ → Bytes
row_at l k = part l (row_start k) row_size

unfoldable pub status_of : Bytes → ℕ
status_of r = get_or r status_at 0

unfoldable pub identifier_of : Bytes → ℕ
identifier_of r = from_le (part r identifier_at u64)

unfoldable pub stored_terms : Bytes → Bytes
stored_terms r = part r terms_at terms_size

-- the terms open with the execution time
unfoldable pub stored_time : Bytes → Bytes
stored_time r = part r terms_at time_size

-- ---- the swap's row

-- equal length and that many equal UTI bytes; padding is not compared
abbrev pub uti_length : Bytes → ℕ
uti_length r = get_or r length_at 0

abbrev pub has_bytes : Bytes → Bytes → Bool
has_bytes u r = same_bytes (part r uti_at (length u)) u

unfoldable pub holds_uti : Bytes → Bytes → Bool
holds_uti u r = both (eqb (uti_length r) (length u)) (has_bytes u r)

-- the place of the first of so many rows that holds the UTI, their number where none does
unfoldable pub place_in : Bytes → ℕ → Bytes → ℕ
place_in l rows u = first (λ k. holds_uti u (row_at l k)) rows

-- the place of the swap's row among the used rows
abbrev pub place_of : Bytes → Bytes → ℕ
place_of l u = place_in l (rows_in_use l) u

unfoldable pub is_known : Bytes → Bytes → Bool
is_known l u = ltb (place_of l u) (rows_in_use l)

abbrev pub swap_row : Bytes → Bytes → Bytes
swap_row l u = row_at l (place_of l u)

-- the swap's status and its last identifier; an unknown swap has none
unfoldable pub swap_status : Bytes → Bytes → ℕ
swap_status l u = choose (is_known l u) (status_of (swap_row l u)) unknown

unfoldable pub swap_identifier : Bytes → Bytes → ℕ
swap_identifier l u = choose (is_known l u) (identifier_of (swap_row l u)) 0

-- the execution time that its row has
unfoldable pub swap_time : Bytes → Bytes → Bytes
swap_time l u = choose (is_known l u) (stored_time (swap_row l u)) []

-- what a ledger has of a swap beside its time; an unknown swap has the place behind the rows in use
abbrev pub swap_in : Bytes → Bytes → Swap
swap_in l u = record { known = is_known l u; place = place_of l u; status = swap_status l u; identifier = swap_identifier l u }

-- ---- what is written of a row

-- status, UTI length, UTI, identifier, terms, zero
abbrev pub row_fields : ℕ → Bytes → ℕ → Bytes → List FieldText
row_fields status u identifier terms =
    (u8, status ∷ [])
    ∷ (u8, length u ∷ [])
    ∷ (uti_size, u)
    ∷ number_field u64 identifier
    ∷ (terms_size, terms)
    ∷ (tail_size, replicate tail_size 0)
    ∷ []

unfoldable pub new_row : ℕ → Bytes → ℕ → Bytes → Bytes
new_row status u identifier terms = bytes_of (row_fields status u identifier terms)

unfoldable pub with_status : ℕ → Bytes → Bytes
with_status status r = splice r status_at (status ∷ [])

unfoldable pub with_identifier : ℕ → Bytes → Bytes
with_identifier identifier r = splice r identifier_at (to_le u64 identifier)

unfoldable pub with_terms : Bytes → Bytes → Bytes
with_terms terms r = splice r terms_at terms

-- where a line is due, NEWT writes the whole row, any other full action status, terms and identifier, TERM and EROR status and identifier; where none is, only
-- the status is written
abbrev pub row_after : Action → Bool → ℕ → Bytes → ℕ → Bytes → Bytes → Bytes
row_after a due status u identifier terms r =
    let set : Bytes = with_status status r in
    let marked : Bytes = with_identifier identifier set in
    choose due (choose (is_new a) (new_row status u identifier terms) (choose (is_full a) (with_terms terms marked) marked)) set

-- a row is written through its own part of the ledger
abbrev pub rows_after : Action → Bool → ℕ → Bytes → ℕ → Bytes → ℕ → Bytes → Bytes
rows_after a due status u identifier terms k l = splice l (row_start k) (row_after a due status u identifier terms (row_at l k))

-- ---- what is written of the header

unfoldable pub with_rows : ℕ → Bytes → Bytes
with_rows rows l = splice l rows_at (to_le u32 rows)

unfoldable pub with_next : ℕ → Bytes → Bytes
with_next next l = splice l next_at (to_le u64 next)

-- NEWT raises rows in use by one; each line takes the next identifier, which then rises by one
unfoldable pub numbers_after : Action → Bool → ℕ → ℕ → Bytes → Bytes
numbers_after a due rows next l =
    let counted : Bytes = choose (is_new a) (with_rows (rows + 1) l) l in
    choose due (with_next (next + 1) counted) counted

-- these numbers, and the totals of a swap's status before and after
unfoldable pub header_after : Action → Bool → ℕ → ℕ → ℕ → ℕ → Bytes → Bytes
header_after a due before after rows next l = totals_after before after (numbers_after a due rows next l)
