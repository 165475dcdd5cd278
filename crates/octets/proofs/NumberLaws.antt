-- Laws of specs/Number.antt. Assumes nothing.
use Prim.Native.Char.{code}
use mathlib.Core.Path.{◌≡◌, refl, sym, ap, ap₂, ◌∙◌}
use mathlib.Core.Bool.{Bool, true, false}
use mathlib.Core.List.{[], ◌∷◌, ◌++◌, append_assoc}
use Prim.Native.Nat.{ℕ, zero, suc, ◌+◌, ◌-◌, ◌*◌, ◌/◌, ◌%◌, ◌^◌, ◌≤◌, ◌<◌}
use native.Mathlib.Nat.{pow-le-pow_right, pow-suc, not-suc-le-zero, div-lt_iff_lt-mul}
use native.Mathlib.Numerals.{add-one}
use native.Mathlib.Omega.{arith}
use lib.ListN.{length, get_or, take, drop, set, length-append, length-take, get_or-eq_default}
use lib.Dec.{ltb}
use borrow.Author.Tests.{ltb-true, ltb-false}
use lib.Seq.{set_split, drop_at, length-take-le, get_or-take, get_or-drop}
use lib.Arith.{digits_lt}
use Rattle.octets.specs.Bytes.{Bytes}
use Rattle.octets.specs.Part.{part}
use Rattle.octets.specs.Number.{from_le, to_le, digits}

-- ---- little-endian

-- one byte more in front, at every width; up to eight bytes fit 64 bits
pub byte_more : (n v b : ℕ) → v < 256 ^ n → b < 256 → v * 256 + b < 256 ^ suc n
byte_more n v b h l = rw pow-suc (digits_lt h l)

pub byte_fits : (n v b : ℕ) → n ≤ 7 → v < 256 ^ n → b < 256 → v * 256 + b < 2 ^ 64
byte_fits n v b k h l =
    let top : 256 ^ n ≤ 256 ^ 7 = pow-le-pow_right (omega arith) k in
    omega arith

pub length-to_le : (n v : ℕ) → length (to_le n v) ≡ n
unfolding to_le
length-to_le zero v = refl
length-to_le (suc n) v = ap suc (length-to_le n _)

-- what was written is read back, at every width
pub from_le-to_le : (n v : ℕ) → v < 256 ^ n → from_le (to_le n v) ≡ v
unfolding to_le from_le
from_le-to_le zero v h = omega arith
from_le-to_le (suc n) v h =
    let l : v / 256 < 256 ^ n = (div-lt_iff_lt-mul {k = 256} (omega arith)).1 (rw pow-suc at h) in
    rw (from_le-to_le n (v / 256) l) (omega arith)

-- bytes that stand for the same number are the same, where there are as many of them
abbrev pub EachByte : Bytes → Type 0
EachByte xs = (k : ℕ) → get_or xs k 0 < 256

pub from_le-same : (xs ys : Bytes) → length xs ≡ length ys → EachByte xs → EachByte ys → from_le xs ≡ from_le ys → xs ≡ ys
unfolding from_le
from_le-same [] [] l f g e = refl
from_le-same [] (y ∷ ys) l f g e = absurd (omega arith)
from_le-same (x ∷ xs) [] l f g e = absurd (omega arith)
from_le-same (x ∷ xs) (y ∷ ys) l f g e =
    let p : x < 256 = f 0 in
    let q : y < 256 = g 0 in
    let rest : from_le xs ≡ from_le ys = omega arith in
    ap₂ ◌∷◌ (omega arith) (from_le-same xs ys (omega arith) (λ k. f (suc k)) (λ k. g (suc k)) rest)

pub part_bytes : (xs : Bytes) (at n : ℕ) → EachByte xs → EachByte (part xs at n)
part_bytes xs at n f k = go (ltb k n) refl
  where
    go : (t : Bool) → ltb k n ≡ t → get_or (part xs at n) k 0 < 256
    go true e = rw (get_or-take n (drop at xs) k 0 (ltb-true k n e), get_or-drop at xs k 0) (f (at + k))
    go false e =
        let past : length (part xs at n) ≤ k = omega (arith, length-take n (drop at xs), ltb-false k n e) in
        rw (get_or-eq_default (part xs at n) 0 past) (omega arith)

-- ---- decimal digits

pub length_digits : (n v : ℕ) → length (digits n v) ≡ n
unfolding digits
length_digits zero v = refl
length_digits (suc n) v = length-append (digits n (v / 10)) ((v % 10 + code "0") ∷ []) ∙ rw (length_digits n (v / 10)) (add-one n)

-- one digit more, written before those that stand from i on
digit_at_lem : (j v : ℕ) (l : Bytes) → j < length l → digits (suc j) v ++ drop (suc j) l ≡ digits j (v / 10) ++ drop j (set l j (v % 10 + code "0"))
unfolding digits
digit_at_lem j v l h =
    let d : ℕ = v % 10 + code "0" in
    let k : length (take j l) ≡ j = length-take-le j l (omega arith) in
    append_assoc (digits j (v / 10)) (d ∷ []) (drop (suc j) l)
    ∙ ap (λ (r : Bytes). digits j (v / 10) ++ r) (sym (drop_at (take j l) (d ∷ drop (suc j) l) j k) ∙ ap (drop j) (sym (set_split l j d h)))

pub digit_more : (i v : ℕ) (l : Bytes) → 0 < i → i ≤ length l → digits i v ++ drop i l ≡ digits (i - 1) (v / 10) ++ drop (i - 1) (set l (i - 1) (v % 10 + code "0"))
digit_more zero v l p h = absurd (not-suc-le-zero p)
digit_more (suc j) v l p h =
    let e : suc j - 1 ≡ j = omega arith in
    rw e (digit_at_lem j v l h)
