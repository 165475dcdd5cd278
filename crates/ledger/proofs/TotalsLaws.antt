-- Laws of specs/Totals.antt. Assumes nothing.
use Prim.Native.Nat.{ℕ, zero, suc, ◌+◌, ◌-◌, ◌^◌, ◌<◌, ◌≤◌}
use mathlib.Core.Bool.{Bool, true, false}
use mathlib.Core.Path.{◌≡◌, refl, sym, ap, ◌∙◌}
use native.Mathlib.Omega.{arith}
use lib.ListN.{length, get_or}
use lib.Dec.{eqb}
use borrow.Author.Tests.{eqb-true, eqb-false, eq-eqb, ne_eqb}
use Rattle.octets.specs.Bytes.{Bytes}
use Rattle.octets.specs.Choice.{choose}
use Rattle.octets.specs.Number.{from_le, to_le}
use Rattle.octets.proofs.NumberLaws.{length-to_le, from_le-to_le}
use Rattle.octets.proofs.PartLaws.{length_splice, part_at, byte_apart}
use Rattle.actions.specs.declared.statuses.Status.{Status}
use Rattle.actions.specs.declared.statuses.Status.TheVariants.{Live, Closed, Errored, Ported}
use Rattle.actions.specs.Statuses.{unknown, live, closed, errored, ported}
use Rattle.actions.specs.Actions.{number_of}
use Rattle.ledger.specs.declared.totals.Totals.{Totals}
use Rattle.ledger.specs.Layout.{u32, total_at, header_size}
use Rattle.ledger.specs.Totals.{total_in, totals_in, total_of, adds, sum_of, with_total, lowered, totals_after}
use Rattle.ledger.specs.Header.{rows_in_use, next_identifier, caps_in}
use Rattle.ledger.specs.Rows.{row_at}
use Rattle.ledger.proofs.Outside.{fixed_in, rows_outside, next_outside, caps_outside, row_outside, total_outside, fixed_outside}

-- ---- the totals of a header, by status

-- what holds of each status holds of every number from live to ported
pub by_status : (P : ℕ → Type 0) → P live → P closed → P errored → P ported → (s : ℕ) → live ≤ s → s ≤ ported → P s
by_status P one two three four zero low high = absurd (omega arith)
by_status P one two three four (suc zero) low high = one
by_status P one two three four (suc (suc zero)) low high = two
by_status P one two three four (suc (suc (suc zero))) low high = three
by_status P one two three four (suc (suc (suc (suc zero)))) low high = four
by_status P one two three four (suc (suc (suc (suc (suc n))))) low high = absurd (omega arith)

pub total_of_lem : (l : Bytes) (s : ℕ) → live ≤ s → s ≤ ported → total_of (totals_in l) s ≡ total_in s l
unfolding total_of totals_in
total_of_lem l = by_status (λ s. total_of (totals_in l) s ≡ total_in s l) refl refl refl refl

-- a number that no status has has no total
pub none_counted : (t : Totals) (n : ℕ) → ((s : Status) → number_of s ≡ n → ⊥) → 0 ≡ total_of t n
unfolding total_of
none_counted t n d = rw (no_number Live, no_number Closed, no_number Errored, no_number Ported) refl
  where
    no_number : (s : Status) → eqb n (number_of s) ≡ false
    no_number s = ne_eqb n (number_of s) (λ e. d s (sym e))

-- none is larger than the sum, nor are two of them together
pub total_most : (l : Bytes) (s : ℕ) → live ≤ s → s ≤ ported → total_in s l ≤ sum_of (totals_in l)
unfolding sum_of totals_in
total_most l = by_status (λ s. total_in s l ≤ sum_of (totals_in l)) (omega arith) (omega arith) (omega arith) (omega arith)

abbrev Together : Bytes → ℕ → ℕ → Type 0
Together l s t = (s ≡ t → ⊥) → total_in s l + total_in t l ≤ sum_of (totals_in l)

pub two_most : (l : Bytes) (s : ℕ) → live ≤ s → s ≤ ported → (t : ℕ) → live ≤ t → t ≤ ported → (s ≡ t → ⊥) → total_in s l + total_in t l ≤ sum_of (totals_in l)
unfolding sum_of totals_in
two_most l =
    by_status (λ s. (t : ℕ) → live ≤ t → t ≤ ported → Together l s t)
    (by_status (Together l live) (λ d. absurd (d refl)) (λ d. omega arith) (λ d. omega arith) (λ d. omega arith))
    (by_status (Together l closed) (λ d. omega arith) (λ d. absurd (d refl)) (λ d. omega arith) (λ d. omega arith))
    (by_status (Together l errored) (λ d. omega arith) (λ d. omega arith) (λ d. absurd (d refl)) (λ d. omega arith))
    (by_status (Together l ported) (λ d. omega arith) (λ d. omega arith) (λ d. omega arith) (λ d. absurd (d refl)))

-- a status from live to ported is one of the four
pub one_of : (s : ℕ) → live ≤ s → s ≤ ported → adds s live + adds s closed + adds s errored + adds s ported ≡ 1
one_of = by_status (λ s. adds s live + adds s closed + adds s errored + adds s ported ≡ 1) refl refl refl refl

-- ---- a total is written

module _ (s n : ℕ) (l : Bytes) (high : s ≤ ported) (room : header_size ≤ length l) where
  fits : total_at s + length (to_le u32 n) ≤ length l
  fits = omega (arith, length-to_le u32 n)

  pub total_length : length (with_total s n l) ≡ length l
  unfolding with_total
  total_length = length_splice l (to_le u32 n) (total_at s) fits

  pub total_rows : rows_in_use (with_total s n l) ≡ rows_in_use l
  unfolding with_total
  total_rows = rows_outside l (to_le u32 n) (total_at s) fits (λ b. omega arith)

  pub total_next : next_identifier (with_total s n l) ≡ next_identifier l
  unfolding with_total
  total_next = next_outside l (to_le u32 n) (total_at s) fits (λ b. omega arith)

  pub total_caps : caps_in (with_total s n l) ≡ caps_in l
  unfolding with_total
  total_caps = caps_outside l (to_le u32 n) (total_at s) fits (λ b. omega arith)

  pub total_fixed : fixed_in (with_total s n l) ≡ fixed_in l
  unfolding with_total
  total_fixed = fixed_outside l (to_le u32 n) (total_at s) fits (λ b. omega arith) (λ b. omega arith)

  pub total_row : (k : ℕ) → row_at (with_total s n l) k ≡ row_at l k
  unfolding with_total
  total_row k = row_outside l (to_le u32 n) (total_at s) fits k (λ b. omega (arith, length-to_le u32 n))

  total_total : n < 256 ^ u32 → total_in s (with_total s n l) ≡ n
  unfolding with_total total_in
  total_total b = ap from_le (rw (length-to_le u32 n) at (part_at l (to_le u32 n) (total_at s) fits)) ∙ from_le-to_le u32 n b

  -- that of another status stays
  total_other : live ≤ s → (t : ℕ) → live ≤ t → (s ≡ t → ⊥) → total_in t (with_total s n l) ≡ total_in t l
  unfolding with_total
  total_other p t q differ = total_outside l (to_le u32 n) (total_at s) fits t (λ b. omega (arith, length-to_le u32 n, differ))

  total_byte : (i : ℕ) → (total_at s ≤ i → total_at s + u32 ≤ i) → get_or (with_total s n l) i 0 ≡ get_or l i 0
  unfolding with_total
  total_byte i outside = byte_apart l (to_le u32 n) (total_at s) i fits (λ b. omega (arith, length-to_le u32 n, outside b))

-- ---- the totals move

module _ (before after : ℕ) (l : Bytes) (room : header_size ≤ length l) (low : before ≤ ported) (high : after ≤ ported) where
  -- what a function says of a ledger stays where no write of a total touches it
  lowered_stays : {A : Type 0} (f : Bytes → A) → ((s n : ℕ) (d : Bytes) → s ≤ ported → header_size ≤ length d → f (with_total s n d) ≡ f d) → f (lowered before l) ≡ f l
  unfolding lowered
  lowered_stays f e = by (eqb before unknown)
    where
      by : (b : Bool) → f (choose b l (with_total before (total_in before l - 1) l)) ≡ f l
      by true = refl
      by false = e before (total_in before l - 1) l low room

  lowered_room : header_size ≤ length (lowered before l)
  lowered_room = omega (arith, lowered_stays length (λ s n d g h. total_length s n d g h))

  pub still : {A : Type 0} (f : Bytes → A) → ((s n : ℕ) (d : Bytes) → s ≤ ported → header_size ≤ length d → f (with_total s n d) ≡ f d) → f (totals_after before after l) ≡ f l
  unfolding totals_after
  still f e = by (eqb before after)
    where
      by : (b : Bool) → f (choose b l (with_total after (total_in after l + 1) (lowered before l))) ≡ f l
      by true = refl
      by false = e after (total_in after l + 1) (lowered before l) high lowered_room ∙ lowered_stays f e

  module _ (least : live ≤ after) where
    -- the total of the old status, without the swap
    lowered_total : ((before ≡ unknown → ⊥) → (0 < total_in before l) × (total_in before l < 256 ^ u32)) → (s : ℕ) → live ≤ s → total_in s (lowered before l) + adds before s ≡ total_in s l
    unfolding lowered
    lowered_total some s p = by (eqb before unknown) refl (eqb before s) refl
      where
        by : (b : Bool) → eqb before unknown ≡ b → (c : Bool) → eqb before s ≡ c → total_in s (choose b l (with_total before (total_in before l - 1) l)) + choose c 1 0 ≡ total_in s l
        by true e true g = absurd (omega (arith, eqb-true before unknown e, eqb-true before s g))
        by true e false g = omega arith
        by false e true g =
            let fits = some (eqb-false before unknown e) in
            let own : total_in s (with_total before (total_in before l - 1) l) ≡ total_in before l - 1 = rw (← eqb-true before s g) (total_total before (total_in before l - 1) l low room (omega (arith, fits.1))) in
            let same : total_in s l ≡ total_in before l = ap (λ t. total_in t l) (sym (eqb-true before s g)) in
            omega (arith, fits.0)
        by false e false g =
            let from : (before ≡ unknown → ⊥) = eqb-false before unknown e in
            let kept : total_in s (with_total before (total_in before l - 1) l) ≡ total_in s l = total_other before (total_in before l - 1) l low room (omega (arith, from)) s p (eqb-false before s g) in
            omega arith

    -- each total loses the swap where it had that status, and wins it where it has it now
    pub moved : ((before ≡ unknown → ⊥) → (0 < total_in before l) × (total_in before l < 256 ^ u32)) → ((before ≡ after → ⊥) → total_in after l + 1 < 256 ^ u32)
        → (s : ℕ) → live ≤ s → s ≤ ported → total_in s (totals_after before after l) + adds before s ≡ total_in s l + adds after s
    unfolding totals_after
    moved some more s p q = by (eqb before after) refl (eqb after s) refl
      where
        by : (b : Bool) → eqb before after ≡ b → (c : Bool) → eqb after s ≡ c → total_in s (choose b l (with_total after (total_in after l + 1) (lowered before l))) + adds before s ≡ total_in s l + choose c 1 0
        by true e c g = rw (eqb-true before after e, g)
        by false e true g =
            let differ : (before ≡ after → ⊥) = eqb-false before after e in
            let same : after ≡ s = eqb-true after s g in
            let own : total_in s (with_total after (total_in after l + 1) (lowered before l)) ≡ total_in after l + 1 = rw (← same) (total_total after (total_in after l + 1) (lowered before l) high lowered_room (more differ)) in
            let had : eqb before s ≡ false = ne_eqb before s (λ h. differ (h ∙ sym same)) in
            rw (own, had, ← same) (omega arith)
        by false e false g =
            let kept : total_in s (with_total after (total_in after l + 1) (lowered before l)) ≡ total_in s (lowered before l) = total_other after (total_in after l + 1) (lowered before l) high lowered_room least s p (eqb-false after s g) in
            rw kept (lowered_total some s p ∙ omega arith)

    -- a byte of no total that moves
    pub moved_byte : (i : ℕ) → ((s : ℕ) → live ≤ s → s ≤ ported → (eqb before s ≡ eqb after s → ⊥) → total_at s ≤ i → total_at s + u32 ≤ i) → get_or (totals_after before after l) i 0 ≡ get_or l i 0
    unfolding totals_after lowered
    moved_byte i outside = by (eqb before after) refl
      where
        left : eqb before after ≡ false → (b : Bool) → eqb before unknown ≡ b → get_or (choose b l (with_total before (total_in before l - 1) l)) i 0 ≡ get_or l i 0
        left e true g = refl
        left e false g =
            let from : (before ≡ unknown → ⊥) = eqb-false before unknown g in
            let apart : (eqb before before ≡ eqb after before → ⊥) = λ h. eqb-false before after e (sym (eqb-true after before (sym h ∙ eq-eqb before before refl))) in
            total_byte before (total_in before l - 1) l low room i (outside before (omega (arith, from)) low apart)

        by : (b : Bool) → eqb before after ≡ b → get_or (choose b l (with_total after (total_in after l + 1) (lowered before l))) i 0 ≡ get_or l i 0
        by true e = refl
        by false e =
            let apart : (eqb before after ≡ eqb after after → ⊥) = λ h. eqb-false before after e (eqb-true before after (h ∙ eq-eqb after after refl)) in
            total_byte after (total_in after l + 1) (lowered before l) high lowered_room i (outside after least high apart) ∙ left e (eqb before unknown) refl
