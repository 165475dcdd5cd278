-- The specification's numbers, computed: offset and length of every field, in its order, and the sizes.
use Rattle.std.specs.Prelude.{ℕ, ◌≡◌, List, [], ◌∷◌, map}
use Rattle.octets.specs.Bytes.{Bytes}
use Rattle.octets.specs.Fields.{places}
use Rattle.values.specs.Code.{asset_classes}
use Rattle.actions.specs.declared.Action.{Action}
use Rattle.actions.specs.Statuses.{live, closed, errored, ported}
use Rattle.terms.specs.Terms.{term_fields, terms_size}
use Rattle.ledger.specs.declared.header.Caps.{Caps}
use Rattle.ledger.specs.Line.{line_fields}
use Rattle.ledger.specs.Layout.{u8, u32, u64, rows_at, first_row_at, next_at, cap_at, row_size_at, capacity_at, total_at, header_size, status_at, length_at, uti_at, uti_size, identifier_at, terms_at, tail_at, tail_size, row_size, shortest_ledger, line_size}
use Rattle.ledger.specs.Header.{class_caps, header_fields}
use Rattle.ledger.specs.Rows.{row_fields}

-- ---- offset, length

-- the tape line: identifier, previous one, action, event, event time, masked terms, newline
abbrev pub line_places : List (ℕ × ℕ)
line_places = (0, 12) ∷ (12, 12) ∷ (24, 4) ∷ (28, 4) ∷ (32, 20) ∷ (52, 117) ∷ (169, 1) ∷ []

-- the masked terms: execution time, effective, expiration, Cleared, non-standardized, block, large, package, price, notation, price currency, asset class,
-- notional, plus sign, notional currency, location, spread, notation, spread currency
abbrev pub term_places : List (ℕ × ℕ)
term_places =
    (52, 20) ∷ (72, 10) ∷ (82, 10) ∷ (92, 1) ∷ (93, 1) ∷ (94, 1) ∷ (95, 1) ∷ (96, 1)
    ∷ (97, 20) ∷ (117, 1) ∷ (118, 3) ∷ (121, 2) ∷ (123, 16) ∷ (139, 1) ∷ (140, 3) ∷ (143, 2)
    ∷ (145, 20) ∷ (165, 1) ∷ (166, 3) ∷ []

-- the header: rows in use, offset of the first row, next identifier, five caps, row size, capacity, four totals
abbrev pub header_places : List (ℕ × ℕ)
header_places =
    (0, 4) ∷ (4, 4) ∷ (8, 8) ∷ (16, 8) ∷ (24, 8) ∷ (32, 8) ∷ (40, 8) ∷ (48, 8) ∷ (56, 4) ∷ (60, 4)
    ∷ (64, 4) ∷ (68, 4) ∷ (72, 4) ∷ (76, 4) ∷ []

-- a row: status, UTI length, UTI, identifier, masked terms, zero
abbrev pub row_places : List (ℕ × ℕ)
row_places = (0, 1) ∷ (1, 1) ∷ (2, 52) ∷ (54, 8) ∷ (62, 117) ∷ (179, 5) ∷ []

-- ---- the definitions have these numbers

pub record DocumentSizes : Type 0 where
  -- the fields that are written
  pub line : (a : Action) (identifier previous : ℕ) (m terms : Bytes) → places 0 (line_fields a identifier previous m terms) ≡ line_places
  pub terms : (cap : ℕ) (m : Bytes) → places 52 (term_fields cap m) ≡ term_places
  pub header : (caps : Caps) (capacity : ℕ) → places 0 (header_fields caps capacity) ≡ header_places
  pub row : (status : ℕ) (u : Bytes) (identifier : ℕ) (terms : Bytes) → places 0 (row_fields status u identifier terms) ≡ row_places
  -- the fields that are read, by their names
  pub header_names :
      (rows_at, u32) ∷ (first_row_at, u32) ∷ (next_at, u64) ∷ (cap_at 0, u64)
      ∷ (cap_at 1, u64) ∷ (cap_at 2, u64) ∷ (cap_at 3, u64) ∷ (cap_at 4, u64) ∷ (row_size_at, u32) ∷ (capacity_at, u32)
      ∷ (total_at live, u32) ∷ (total_at closed, u32) ∷ (total_at errored, u32) ∷ (total_at ported, u32) ∷ [] ≡ header_places
  pub row_names :
      (status_at, u8) ∷ (length_at, u8) ∷ (uti_at, uti_size) ∷ (identifier_at, u64) ∷ (terms_at, terms_size) ∷ (tail_at, tail_size) ∷ [] ≡ row_places
  -- the header has a cap for each asset class that code 25 admits, in this order
  pub classes : (caps : Caps) → map (λ c. c.0) (class_caps caps) ≡ asset_classes
  -- the sizes
  pub line_sized : line_size ≡ 170
  pub header_sized : header_size ≡ 80
  pub row_sized : row_size ≡ 184
  pub shortest : shortest_ledger ≡ 264
