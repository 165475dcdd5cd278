-- Laws of specs/Part.antt: what a part and a splice have, and what a lent part is. Assumes nothing.
use mathlib.Core.Path.{◌≡◌, refl, sym, ap, ◌∙◌}
use mathlib.Core.List.{[], ◌∷◌, ◌++◌, append_assoc, append-nil}
use Prim.Native.Nat.{ℕ, zero, suc, ◌+◌, ◌-◌, ◌≤◌}
use native.Mathlib.Nat.{zero-add, add-zero, add_assoc, add-sub_cancel_left}
use native.Mathlib.Omega.{arith}
use native.Mathlib.Decide.{dec_lt}
use lib.ListN.{length, get_or, take, drop, length-append, length-take, length-drop, drop_of_length-le, take-append-drop}
use lib.Seq.{length-take-le, drop-drop, take_at, drop_at, take-append-le, drop-append-le}
use Rattle.octets.specs.Bytes.{Bytes}
use Rattle.octets.specs.Part.{part, splice}

-- ---- lengths

pub length_part : (xs : Bytes) (at n : ℕ) → at + n ≤ length xs → length (part xs at n) ≡ n
length_part xs at n h = length-take-le n (drop at xs) (simp length-drop (omega arith))

pub length_splice : (d ys : Bytes) (at : ℕ) → at + length ys ≤ length d → length (splice d at ys) ≡ length d
unfolding splice
length_splice d ys at h = simp (length-append, length-take, length-drop) (omega arith)

-- ---- what the borrow checker gives of a part that is lent from `at` on, n bytes long

lent_length : (xs : Bytes) (at n : ℕ) → at + n ≤ length xs → length (take (at + n - at) (drop at xs)) ≡ n
lent_length xs at n h = rw add-sub_cancel_left (length_part xs at n h)

-- it came back as ys
pub lent_back : (d l ys : Bytes) (at n : ℕ) → l ≡ ys → length ys ≡ n → take at d ++ (l ++ drop (at + n - at) (drop at d)) ≡ splice d at ys
unfolding splice
lent_back d l ys at n e f = rw (e, add-sub_cancel_left, drop-drop, ← f)

-- it came back as what f has for its length
pub lent_filled : (d l : Bytes) (at n : ℕ) (f : ℕ → Bytes) → ((k : ℕ) → length (f k) ≡ k) → at + n ≤ length d → l ≡ f (length (take (at + n - at) (drop at d))) → take at d ++ (l ++ drop (at + n - at) (drop at d)) ≡ splice d at (f n)
lent_filled d l at n f size h e = lent_back d l (f n) at n (e ∙ ap f (lent_length d at n h)) (size n)

-- ---- a part of bytes in which ys took the place of others, from `at` on

module _ (d ys : Bytes) (at : ℕ) (h : at + length ys ≤ length d) where
  head_length : length (take at d) ≡ at
  head_length = length-take-le at d (omega arith)

  front_length : length (take at d ++ ys) ≡ at + length ys
  front_length = rw (length-append, head_length)

  -- at its place
  pub part_at : part (splice d at ys) at (length ys) ≡ ys
  unfolding splice
  part_at = rw (drop_at (take at d) (ys ++ drop (at + length ys) d) at head_length) (take_at ys (drop (at + length ys) d) (length ys) refl)

  -- before it
  pub part_before : (from n : ℕ) → from + n ≤ at → part (splice d at ys) from n ≡ part d from n
  unfolding splice
  part_before from n l =
      let e : drop from (take at d ++ (ys ++ drop (at + length ys) d)) ≡ drop from (take at d) ++ (ys ++ drop (at + length ys) d) = drop-append-le from (take at d) _ (omega (arith, head_length)) in
      let k : n ≤ length (drop from (take at d)) = simp length-drop (omega (arith, head_length)) in
      let whole : d ≡ take at d ++ drop at d = sym (take-append-drop at d) in
      let e' : drop from (take at d ++ drop at d) ≡ drop from (take at d) ++ drop at d = drop-append-le from (take at d) (drop at d) (omega (arith, head_length)) in
      rw e (take-append-le n (drop from (take at d)) _ k ∙ sym (take-append-le n (drop from (take at d)) (drop at d) k) ∙ ap (take n) (sym e') ∙ ap (λ (l : Bytes). take n (drop from l)) (sym whole))

  -- after it
  pub part_after : (from n : ℕ) → at + length ys ≤ from → part (splice d at ys) from n ≡ part d from n
  unfolding splice
  part_after from n l =
      let k : at + length ys + (from - (at + length ys)) ≡ from = omega arith in
      let a : take at d ++ (ys ++ drop (at + length ys) d) ≡ (take at d ++ ys) ++ drop (at + length ys) d = sym (append_assoc (take at d) ys (drop (at + length ys) d)) in
      let e : drop from ((take at d ++ ys) ++ drop (at + length ys) d) ≡ drop from d =
      ap (λ (j : ℕ). drop j ((take at d ++ ys) ++ drop (at + length ys) d)) (sym k)
      ∙ sym (drop-drop (from - (at + length ys)) (at + length ys) _)
      ∙ ap (drop (from - (at + length ys))) (drop_at (take at d ++ ys) (drop (at + length ys) d) (at + length ys) front_length)
      ∙ drop-drop (from - (at + length ys)) (at + length ys) d
      ∙ ap (λ (j : ℕ). drop j d) k in
      rw a (ap (take n) e)

-- ---- single bytes

-- a byte is a part of one byte
byte_part : (xs : Bytes) (i : ℕ) → get_or xs i 0 ≡ get_or (part xs i 1) 0 0
byte_part [] zero = refl
byte_part [] (suc i) = refl
byte_part (x ∷ xs) zero = refl
byte_part (x ∷ xs) (suc i) = byte_part xs i

-- a byte where a part is the same is the same
pub same_byte : (xs ys : Bytes) (i : ℕ) → part xs i 1 ≡ part ys i 1 → get_or xs i 0 ≡ get_or ys i 0
same_byte xs ys i e = byte_part xs i ∙ ap (λ p. get_or p 0 0) e ∙ sym (byte_part ys i)

-- a byte that a splice does not cover
pub byte_apart : (d ys : Bytes) (at i : ℕ) → at + length ys ≤ length d → (at ≤ i → at + length ys ≤ i) → get_or (splice d at ys) i 0 ≡ get_or d i 0
byte_apart d ys at i h outside =
    elim (dec_lt i at) [
      | yes b ↦ same_byte (splice d at ys) d i (part_before d ys at h i 1 (omega arith))
      | no b ↦ same_byte (splice d at ys) d i (part_after d ys at h i 1 (outside (omega arith)))
    ]

-- ---- a write right after another is one write

pub splice_splice : (d ys zs : Bytes) (at : ℕ) → at + (length ys + length zs) ≤ length d → splice (splice d at ys) (at + length ys) zs ≡ splice d at (ys ++ zs)
unfolding splice
splice_splice d ys zs at h =
    let n : length (take at d ++ ys) ≡ at + length ys = front_length d ys at (omega arith) in
    let a : take at d ++ (ys ++ drop (at + length ys) d) ≡ (take at d ++ ys) ++ drop (at + length ys) d = sym (append_assoc (take at d) ys (drop (at + length ys) d)) in
    let one : take (at + length ys) (take at d ++ (ys ++ drop (at + length ys) d)) ≡ take at d ++ ys = rw a (take_at (take at d ++ ys) (drop (at + length ys) d) (at + length ys) n) in
    let two : drop (at + length ys + length zs) (take at d ++ (ys ++ drop (at + length ys) d)) ≡ drop (at + length (ys ++ zs)) d =
    rw (a, ← drop-drop (length zs) (at + length ys), drop_at (take at d ++ ys) (drop (at + length ys) d) (at + length ys) n, drop-drop, length-append, add_assoc) in
    rw (one, two) (simp append_assoc)

-- a splice of nothing
pub splice_none : (d : Bytes) (at : ℕ) → splice d at [] ≡ d
unfolding splice
splice_none d at = rw add-zero (take-append-drop at d)

-- a splice of the whole
pub splice_all : (d ys : Bytes) → length ys ≡ length d → splice d 0 ys ≡ ys
unfolding splice
splice_all d ys e = rw (zero-add, drop_of_length-le d {i = length ys} (omega arith)) (append-nil ys)
