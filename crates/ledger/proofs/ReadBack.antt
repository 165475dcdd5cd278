-- What the header and the rows say of a ledger after a message has written it. Assumes nothing.
use Prim.Native.Nat.{ℕ, suc, ◌+◌, ◌^◌, ◌<◌, ◌≤◌}
use mathlib.Core.Bool.{Bool, true, false}
use mathlib.Core.Path.{◌≡◌, refl, ap, ◌∙◌}
use native.Mathlib.Omega.{arith}
use lib.ListN.{length, get_or}
use lib.Dec.{eqb}
use Rattle.octets.specs.Bytes.{Bytes}
use Rattle.octets.specs.Choice.{choose}
use Rattle.octets.specs.Part.{splice}
use Rattle.octets.specs.Number.{from_le, to_le}
use Rattle.octets.proofs.NumberLaws.{length-to_le, from_le-to_le}
use Rattle.octets.proofs.PartLaws.{length_splice, part_at, byte_apart}
use Rattle.actions.specs.declared.Action.{Action}
use Rattle.actions.specs.Actions.{is_new}
use Rattle.terms.specs.Terms.{terms_size}
use Rattle.actions.specs.Statuses.{unknown, live, ported}
use Rattle.ledger.specs.Layout.{u32, u64, rows_at, next_at, total_at, header_size, row_size, row_start}
use Rattle.ledger.specs.Totals.{total_in, adds, with_total}
use Rattle.ledger.specs.Header.{rows_in_use, next_identifier, caps_in}
use Rattle.ledger.specs.Rows.{row_at, row_after, rows_after, with_rows, with_next, numbers_after, header_after}
use Rattle.ledger.proofs.Outside.{fixed_in, rows_outside, next_outside, caps_outside, row_outside, total_outside, fixed_outside}
use Rattle.ledger.proofs.RowLaws.{length_row}
use Rattle.ledger.proofs.RowAfterLaws.{length_row_after}
use Rattle.ledger.proofs.TotalsLaws as totals

-- ---- a row is written

module _ (l r : Bytes) (k : ℕ) (size : length r ≡ row_size) (room : row_start (suc k) ≤ length l) where
  fits : row_start k + length r ≤ length l
  fits = omega arith

  pub row_length : length (splice l (row_start k) r) ≡ length l
  row_length = length_splice l r (row_start k) fits

  pub row_rows : rows_in_use (splice l (row_start k) r) ≡ rows_in_use l
  row_rows = rows_outside l r (row_start k) fits (λ b. omega arith)

  pub row_next : next_identifier (splice l (row_start k) r) ≡ next_identifier l
  row_next = next_outside l r (row_start k) fits (λ b. omega arith)

  pub row_caps : caps_in (splice l (row_start k) r) ≡ caps_in l
  row_caps = caps_outside l r (row_start k) fits (λ b. omega arith)

  pub row_fixed : fixed_in (splice l (row_start k) r) ≡ fixed_in l
  row_fixed = fixed_outside l r (row_start k) fits (λ b. omega arith) (λ b. omega arith)

  pub row_total : (s : ℕ) → s ≤ ported → total_in s (splice l (row_start k) r) ≡ total_in s l
  row_total s h = total_outside l r (row_start k) fits s (λ b. omega arith)

  pub row_same : row_at (splice l (row_start k) r) k ≡ r
  unfolding row_at
  row_same = rw (size) at (part_at l r (row_start k) fits)

  pub row_other : (j : ℕ) → (j ≡ k → ⊥) → row_at (splice l (row_start k) r) j ≡ row_at l j
  row_other j differ = row_outside l r (row_start k) fits j (λ b. omega (arith, differ))

-- what a message writes of a row leaves the totals
pub rows_after_total : (a : Action) (due : Bool) (status : ℕ) (u : Bytes) (identifier : ℕ) (terms : Bytes) (k : ℕ) (l : Bytes) → length terms ≡ terms_size → row_start (k + 1) ≤ length l → (s : ℕ) → s ≤ ported
    → total_in s (rows_after a due status u identifier terms k l) ≡ total_in s l
rows_after_total a due status u identifier terms k l long room s h =
    row_total l (row_after a due status u identifier terms (row_at l k)) k (length_row_after a due status u identifier terms (row_at l k) long (length_row l k room)) (omega arith) s h

-- ---- rows in use are written

module _ (l : Bytes) (n : ℕ) (room : header_size ≤ length l) where
  rows_fit : rows_at + length (to_le u32 n) ≤ length l
  rows_fit = omega (arith, length-to_le u32 n)

  rows_length : length (with_rows n l) ≡ length l
  unfolding with_rows
  rows_length = length_splice l (to_le u32 n) rows_at rows_fit

  rows_rows : n < 256 ^ u32 → rows_in_use (with_rows n l) ≡ n
  unfolding with_rows rows_in_use
  rows_rows b = ap from_le (rw (length-to_le u32 n) at (part_at l (to_le u32 n) rows_at rows_fit)) ∙ from_le-to_le u32 n b

  rows_next : next_identifier (with_rows n l) ≡ next_identifier l
  unfolding with_rows
  rows_next = next_outside l (to_le u32 n) rows_at rows_fit (λ b. omega (arith, length-to_le u32 n))

  rows_caps : caps_in (with_rows n l) ≡ caps_in l
  unfolding with_rows
  rows_caps = caps_outside l (to_le u32 n) rows_at rows_fit (λ b. omega (arith, length-to_le u32 n))

  rows_row : (k : ℕ) → row_at (with_rows n l) k ≡ row_at l k
  unfolding with_rows
  rows_row k = row_outside l (to_le u32 n) rows_at rows_fit k (λ b. omega (arith, length-to_le u32 n))

  rows_fixed : fixed_in (with_rows n l) ≡ fixed_in l
  unfolding with_rows
  rows_fixed = fixed_outside l (to_le u32 n) rows_at rows_fit (λ b. omega (arith, length-to_le u32 n)) (λ b. omega (arith, length-to_le u32 n))

  rows_total : (s : ℕ) → total_in s (with_rows n l) ≡ total_in s l
  unfolding with_rows
  rows_total s = total_outside l (to_le u32 n) rows_at rows_fit s (λ b. omega (arith, length-to_le u32 n))

  -- ---- the next identifier is written

  next_fit : next_at + length (to_le u64 n) ≤ length l
  next_fit = omega (arith, length-to_le u64 n)

  next_length : length (with_next n l) ≡ length l
  unfolding with_next
  next_length = length_splice l (to_le u64 n) next_at next_fit

  next_rows : rows_in_use (with_next n l) ≡ rows_in_use l
  unfolding with_next
  next_rows = rows_outside l (to_le u64 n) next_at next_fit (λ b. omega arith)

  next_next : n < 256 ^ u64 → next_identifier (with_next n l) ≡ n
  unfolding with_next next_identifier
  next_next b = ap from_le (rw (length-to_le u64 n) at (part_at l (to_le u64 n) next_at next_fit)) ∙ from_le-to_le u64 n b

  next_caps : caps_in (with_next n l) ≡ caps_in l
  unfolding with_next
  next_caps = caps_outside l (to_le u64 n) next_at next_fit (λ b. omega (arith, length-to_le u64 n))

  next_row : (k : ℕ) → row_at (with_next n l) k ≡ row_at l k
  unfolding with_next
  next_row k = row_outside l (to_le u64 n) next_at next_fit k (λ b. omega (arith, length-to_le u64 n))

  next_fixed : fixed_in (with_next n l) ≡ fixed_in l
  unfolding with_next
  next_fixed = fixed_outside l (to_le u64 n) next_at next_fit (λ b. omega arith) (λ b. omega (arith, length-to_le u64 n))

  next_total : (s : ℕ) → total_in s (with_next n l) ≡ total_in s l
  unfolding with_next
  next_total s = total_outside l (to_le u64 n) next_at next_fit s (λ b. omega (arith, length-to_le u64 n))

-- ---- both are raised, as the action says

module _ (a : Action) (due : Bool) (rows next : ℕ) (l : Bytes) (room : header_size ≤ length l) where
  -- what a function says of a ledger stays where neither write touches it
  numbers_stay : {A : Type 0} (f : Bytes → A) → ((n : ℕ) (d : Bytes) → header_size ≤ length d → f (with_rows n d) ≡ f d) → ((n : ℕ) (d : Bytes) → header_size ≤ length d → f (with_next n d) ≡ f d) → f (numbers_after a due rows next l) ≡ f l
  unfolding numbers_after
  numbers_stay f e g = by (is_new a) due
    where
      by : (b c : Bool) → f (choose c (with_next (next + 1) (choose b (with_rows (rows + 1) l) l)) (choose b (with_rows (rows + 1) l) l)) ≡ f l
      by true true = g (next + 1) (with_rows (rows + 1) l) (omega (arith, rows_length l (rows + 1) room)) ∙ e (rows + 1) l room
      by true false = e (rows + 1) l room
      by false true = g (next + 1) l room
      by false false = refl

  numbers_length : length (numbers_after a due rows next l) ≡ length l
  numbers_length = numbers_stay length (λ n d h. rows_length d n h) (λ n d h. next_length d n h)

  pub numbers_total : (s : ℕ) → total_in s (numbers_after a due rows next l) ≡ total_in s l
  numbers_total s = numbers_stay (total_in s) (λ n d h. rows_total d n h s) (λ n d h. next_total d n h s)

  numbers_rows : (is_new a ≡ true → rows + 1 < 256 ^ u32) → rows_in_use (numbers_after a due rows next l) ≡ choose (is_new a) (rows + 1) (rows_in_use l)
  unfolding numbers_after
  numbers_rows fits = by (is_new a) due fits
    where
      by : (b c : Bool) → (b ≡ true → rows + 1 < 256 ^ u32) → rows_in_use (choose c (with_next (next + 1) (choose b (with_rows (rows + 1) l) l)) (choose b (with_rows (rows + 1) l) l)) ≡ choose b (rows + 1) (rows_in_use l)
      by true true h = next_rows (with_rows (rows + 1) l) (next + 1) (omega (arith, rows_length l (rows + 1) room)) ∙ rows_rows l (rows + 1) room (h refl)
      by true false h = rows_rows l (rows + 1) room (h refl)
      by false true h = next_rows l (next + 1) room
      by false false h = refl

  numbers_next : next + 1 < 256 ^ u64 → next_identifier (numbers_after a due rows next l) ≡ choose due (next + 1) (next_identifier l)
  unfolding numbers_after
  numbers_next fits = by (is_new a) due
    where
      by : (b c : Bool) → next_identifier (choose c (with_next (next + 1) (choose b (with_rows (rows + 1) l) l)) (choose b (with_rows (rows + 1) l) l)) ≡ choose c (next + 1) (next_identifier l)
      by true true = next_next (with_rows (rows + 1) l) (next + 1) (omega (arith, rows_length l (rows + 1) room)) fits
      by true false = rows_next l (rows + 1) room
      by false true = next_next l (next + 1) room fits
      by false false = refl

  -- a byte that is neither of rows in use, where those are written, nor of the next identifier, where that is
  numbers_byte : (i : ℕ) → (is_new a ≡ true → rows_at ≤ i → rows_at + u32 ≤ i) → (due ≡ true → next_at ≤ i → next_at + u64 ≤ i) → get_or (numbers_after a due rows next l) i 0 ≡ get_or l i 0
  unfolding numbers_after with_rows with_next
  numbers_byte i p q = by (is_new a) due p q
    where
      counted : (rows_at ≤ i → rows_at + u32 ≤ i) → get_or (splice l rows_at (to_le u32 (rows + 1))) i 0 ≡ get_or l i 0
      counted h = byte_apart l (to_le u32 (rows + 1)) rows_at i (rows_fit l (rows + 1) room) (λ b. omega (arith, length-to_le u32 (rows + 1), h b))

      raised : (d : Bytes) → header_size ≤ length d → (next_at ≤ i → next_at + u64 ≤ i) → get_or (splice d next_at (to_le u64 (next + 1))) i 0 ≡ get_or d i 0
      raised d r h = byte_apart d (to_le u64 (next + 1)) next_at i (next_fit d (next + 1) r) (λ b. omega (arith, length-to_le u64 (next + 1), h b))

      by : (b c : Bool) → (b ≡ true → rows_at ≤ i → rows_at + u32 ≤ i) → (c ≡ true → next_at ≤ i → next_at + u64 ≤ i)
          → get_or (choose c (splice (choose b (splice l rows_at (to_le u32 (rows + 1))) l) next_at (to_le u64 (next + 1))) (choose b (splice l rows_at (to_le u32 (rows + 1))) l)) i 0 ≡ get_or l i 0
      by true true x y = raised _ (omega (arith, rows_length l (rows + 1) room)) (y refl) ∙ counted (x refl)
      by true false x y = counted (x refl)
      by false true x y = raised l room (y refl)
      by false false x y = refl

-- ---- the header after a message

module _ (a : Action) (due : Bool) (before after rows next : ℕ) (l : Bytes) (room : header_size ≤ length l) (low : before ≤ ported) (high : after ≤ ported) where
  abbrev raised : Bytes
  raised = numbers_after a due rows next l

  raised_room : header_size ≤ length raised
  raised_room = omega (arith, numbers_length a due rows next l room)

  -- what a function says of a ledger stays where none of the writes touches it
  stays : {A : Type 0} (f : Bytes → A) → ((n : ℕ) (d : Bytes) → header_size ≤ length d → f (with_rows n d) ≡ f d) → ((n : ℕ) (d : Bytes) → header_size ≤ length d → f (with_next n d) ≡ f d)
      → ((s n : ℕ) (d : Bytes) → s ≤ ported → header_size ≤ length d → f (with_total s n d) ≡ f d) → f (header_after a due before after rows next l) ≡ f l
  unfolding header_after
  stays f e g h = totals.still before after raised raised_room low high f h ∙ numbers_stay a due rows next l room f e g

  pub raised_caps : caps_in (header_after a due before after rows next l) ≡ caps_in l
  raised_caps = stays caps_in (λ n d h. rows_caps d n h) (λ n d h. next_caps d n h) (λ s n d g h. totals.total_caps s n d g h)

  pub raised_row : (k : ℕ) → row_at (header_after a due before after rows next l) k ≡ row_at l k
  raised_row k = stays (λ d. row_at d k) (λ n d h. rows_row d n h k) (λ n d h. next_row d n h k) (λ s n d g h. totals.total_row s n d g h k)

  pub raised_length : length (header_after a due before after rows next l) ≡ length l
  raised_length = stays length (λ n d h. rows_length d n h) (λ n d h. next_length d n h) (λ s n d g h. totals.total_length s n d g h)

  pub raised_fixed : fixed_in (header_after a due before after rows next l) ≡ fixed_in l
  raised_fixed = stays fixed_in (λ n d h. rows_fixed d n h) (λ n d h. next_fixed d n h) (λ s n d g h. totals.total_fixed s n d g h)

  pub raised_rows : (is_new a ≡ true → rows + 1 < 256 ^ u32) → rows_in_use (header_after a due before after rows next l) ≡ choose (is_new a) (rows + 1) (rows_in_use l)
  unfolding header_after
  raised_rows fits = totals.still before after raised raised_room low high rows_in_use (λ s n d g h. totals.total_rows s n d g h) ∙ numbers_rows a due rows next l room fits

  pub raised_next : next + 1 < 256 ^ u64 → next_identifier (header_after a due before after rows next l) ≡ choose due (next + 1) (next_identifier l)
  unfolding header_after
  raised_next fits = totals.still before after raised raised_room low high next_identifier (λ s n d g h. totals.total_next s n d g h) ∙ numbers_next a due rows next l room fits

  -- each total loses the swap where it had that status, and wins it where it has it now
  pub raised_total : live ≤ after → ((before ≡ unknown → ⊥) → (0 < total_in before l) × (total_in before l < 256 ^ u32)) → ((before ≡ after → ⊥) → total_in after l + 1 < 256 ^ u32)
      → (s : ℕ) → live ≤ s → s ≤ ported → total_in s (header_after a due before after rows next l) + adds before s ≡ total_in s l + adds after s
  unfolding header_after
  raised_total least some more s p q =
      let kept : (t : ℕ) → total_in t raised ≡ total_in t l = numbers_total a due rows next l room in
      totals.moved before after raised raised_room low high least (λ h. rw (kept before) (some h)) (λ h. omega (arith, kept after, more h)) s p q
      ∙ ap (λ n. n + adds after s) (kept s)

  -- a byte that is of none of these numbers, where they are written
  pub raised_byte : (i : ℕ) → (is_new a ≡ true → rows_at ≤ i → rows_at + u32 ≤ i) → (due ≡ true → next_at ≤ i → next_at + u64 ≤ i)
      → ((s : ℕ) → live ≤ s → s ≤ ported → (eqb before s ≡ eqb after s → ⊥) → total_at s ≤ i → total_at s + u32 ≤ i) → live ≤ after → get_or (header_after a due before after rows next l) i 0 ≡ get_or l i 0
  unfolding header_after
  raised_byte i p q t least = totals.moved_byte before after raised raised_room low high least i t ∙ numbers_byte a due rows next l room i p q
