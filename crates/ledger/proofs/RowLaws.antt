-- Laws of specs/Rows.antt. Assumes nothing.
use Prim.Native.Nat.{ℕ, ◌+◌, ◌-◌, ◌<◌, ◌≤◌}
use mathlib.Core.Bool.{true}
use mathlib.Core.Path.{◌≡◌, refl, sym, ap, ◌∙◌}
use mathlib.Core.List.{[], ◌∷◌, ◌++◌}
use native.Mathlib.Omega.{arith}
use lib.ListN.{length, get_or, set, take, drop, take-append-drop}
use lib.Seq.{drop-drop, set_split}
use native.Mathlib.Numerals.{add-one}
use native.Mathlib.Nat.{add-sub_cancel_left}
use lib.Dec.{eqb}
use borrow.Author.Tests.{eqb-true}
use Rattle.octets.specs.Bytes.{Bytes}
use Rattle.octets.specs.Part.{part, splice}
use Rattle.octets.specs.Same.{same_bytes}
use Rattle.octets.proofs.ChoiceLaws.{both_first, both_second, same_test}
use Rattle.octets.proofs.PartLaws.{length_part}
use Rattle.octets.proofs.SameLaws.{same_refl, same_true}
use Rattle.ledger.specs.Layout.{u8, status_at, length_at, uti_at, row_size, row_start}
use Rattle.ledger.specs.Rows.{row_at, status_of, holds_uti, with_status}

-- a row that ends in the ledger is whole
pub length_row : (l : Bytes) (k : ℕ) → row_start (k + 1) ≤ length l → length (row_at l k) ≡ row_size
unfolding row_at
length_row l k h = length_part l (row_start k) row_size (omega arith)

-- the bytes of a row, as they are lent
pub row_lent : (l : Bytes) (k : ℕ) → take (row_start k + row_size - row_start k) (drop (row_start k) l) ≡ row_at l k
unfolding row_at
row_lent l k = rw add-sub_cancel_left

-- it came back as ys
pub row_back : (l r ys : Bytes) (at n : ℕ) → r ≡ ys → length ys ≡ n → take at l ++ (r ++ drop n (drop at l)) ≡ splice l at ys
unfolding splice
row_back l r ys at n e f = rw (e, drop-drop, ← f)

-- ---- one byte is written

pub byte_written : (d : Bytes) (at b : ℕ) → at < length d → set d at b ≡ splice d at (b ∷ [])
unfolding splice
byte_written d at b h = rw add-one (set_split d at b h)

-- ---- what is written as it was

-- bytes that stand where they are written
splice_own : (d : Bytes) (at n : ℕ) → at + n ≤ length d → splice d at (part d at n) ≡ d
unfolding splice
splice_own d at n h = rw (length_part d at n h, ← drop-drop n at d, take-append-drop n (drop at d)) (take-append-drop at d)

-- a row in its own place
pub row_own : (l : Bytes) (k : ℕ) → row_start (k + 1) ≤ length l → splice l (row_start k) (row_at l k) ≡ l
unfolding row_at
row_own l k h = splice_own l (row_start k) row_size (omega arith)

-- the status that a row has
pub status_own : (r : Bytes) → length r ≡ row_size → with_status (status_of r) r ≡ r
unfolding with_status status_of
status_own r size = ap (splice r status_at) (first_byte r size) ∙ splice_own r status_at u8 (omega arith)
  where
    first_byte : (r : Bytes) → length r ≡ row_size → get_or r status_at 0 ∷ [] ≡ part r status_at u8
    first_byte [] size = absurd (omega arith)
    first_byte (x ∷ xs) size = refl

-- ---- a row holds one UTI

pub holds_once : (u v r : Bytes) → holds_uti u r ≡ true → holds_uti v r ≡ true → u ≡ v
unfolding holds_uti
holds_once u v r p q =
    let eu : eqb (get_or r length_at 0) (length u) ≡ true = both_first _ (same_bytes (part r uti_at (length u)) u) p in
    let ev : eqb (get_or r length_at 0) (length v) ≡ true = both_first _ (same_bytes (part r uti_at (length v)) v) q in
    let n : length u ≡ length v = sym (eqb-true _ _ eu) ∙ eqb-true _ _ ev in
    let su : part r uti_at (length u) ≡ u = same_true _ _ (both_second (eqb (get_or r length_at 0) (length u)) _ p) in
    let sv : part r uti_at (length v) ≡ v = same_true _ _ (both_second (eqb (get_or r length_at 0) (length v)) _ q) in
    sym su ∙ rw n sv

pub holds_same : (u v r : Bytes) → holds_uti u r ≡ true → holds_uti v r ≡ same_bytes u v
holds_same u v r own = same_test _ _ (λ h. rw (holds_once u v r own h) (same_refl v)) (λ h. rw (← same_true u v h) own)
