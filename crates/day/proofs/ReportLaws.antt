-- Laws of specs/Report.antt. Assumes nothing.
use Prim.Native.Nat.{ℕ, ◌+◌, ◌-◌, ◌/◌, ◌<◌, ◌≤◌}
use mathlib.Core.Path.{◌≡◌, sym, ap, ◌∙◌}
use mathlib.Core.List.{[], ◌∷◌, ◌++◌}
use native.Mathlib.Numerals.{add-one}
use native.Mathlib.Omega.{arith}
use borrow.Author.Tests.{lt-ltb, le-ltb}
use lib.ListN.{length, replicate, set, length-append}
use lib.Seq.{set_split}
use Rattle.octets.specs.Bytes.{Bytes}
use Rattle.octets.specs.Part.{splice}
use Rattle.octets.proofs.PartLaws.{length_splice, splice_splice}
use Rattle.octets.proofs.WriteLaws.{left_one}
use Rattle.day.specs.Report.{digits_from, Put}

-- ---- the number of digits, for a loop that counts up to n

module _ (k n v : ℕ) where
  pub digits_more : k < n → 10 ≤ v → digits_from (n - k) k v ≡ digits_from (n - (k + 1)) (k + 1) (v / 10)
  unfolding digits_from
  digits_more h l = rw (left_one n k h, le-ltb v 10 l, ← add-one k)

  pub digits_stop : k < n → v < 10 → digits_from (n - k) k v ≡ k
  unfolding digits_from
  digits_stop h l = rw (left_one n k h, lt-ltb v 10 l)

  pub digits_end : n ≤ k → digits_from (n - k) k v ≡ k
  unfolding digits_from
  digits_end h =
      let none : n - k ≡ 0 = omega arith in
      rw none

pub ruleset digits_turn = (digits_more, digits_stop, digits_end)

-- ---- a write behind another is one write

pub set_one : (d : Bytes) (i b : ℕ) → i < length d → set d i b ≡ splice d i (b ∷ [])
unfolding splice
set_one d i b h = rw (set_split d i b h, ← add-one i)

pub put_end : (d ys : Bytes) (at k b : ℕ) {e f : Bytes} → length ys ≡ k → at + (k + 1) ≤ length d → e ≡ splice d at ys → f ≡ splice e (at + k) (replicate 1 b) → Put d at (ys ++ (b ∷ [])) f (at + k + 1)
put_end d ys at k b {e = e} {f = f} n h p q =
    let next : f ≡ splice (splice d at ys) (at + length ys) (b ∷ []) = q ∙ ap (λ (x : Bytes). splice x (at + k) (b ∷ [])) p ∙ ap (λ (j : ℕ). splice (splice d at ys) (at + j) (b ∷ [])) (sym n) in
    record {
      bytes = next ∙ splice_splice d ys (b ∷ []) at (omega arith);
      place = omega (arith, length-append ys (b ∷ []));
    }

-- the same of one byte that is set
pub put_set : (d ys : Bytes) (at k b : ℕ) {e : Bytes} → length ys ≡ k → at + (k + 1) ≤ length d → e ≡ splice d at ys → Put d at (ys ++ (b ∷ [])) (set e (at + k) b) (at + k + 1)
put_set d ys at k b {e = e} n h p =
    let there : at + k < length e = omega (arith, ap length p, length_splice d ys at (omega arith)) in
    let next : set e (at + k) b ≡ splice (splice d at ys) (at + length ys) (b ∷ []) = set_one e (at + k) b there ∙ ap (λ (x : Bytes). splice x (at + k) (b ∷ [])) p ∙ ap (λ (j : ℕ). splice (splice d at ys) (at + j) (b ∷ [])) (sym n) in
    record {
      bytes = next ∙ splice_splice d ys (b ∷ []) at (omega arith);
      place = omega (arith, length-append ys (b ∷ []));
    }

put_then : {d e f : Bytes} {at r s : ℕ} (ys zs : Bytes) → Put d at ys e r → Put e r zs f s → s ≤ length d → Put d at (ys ++ zs) f s
put_then {d} {e} {f} {at} {r} {s} ys zs p q h =
    let here : f ≡ splice (splice d at ys) (at + length ys) zs = q.bytes ∙ ap (λ (x : Bytes). splice x r zs) p.bytes ∙ ap (λ (j : ℕ). splice (splice d at ys) j zs) p.place in
    record {
      bytes = here ∙ splice_splice d ys zs at (omega (arith, p.place, q.place));
      place = omega (arith, p.place, q.place, length-append ys zs);
    }

put_same : {d e : Bytes} {at r : ℕ} (ys : Bytes) → Put d at ys e r → r ≤ length d → length e ≡ length d
put_same {d} {e} {at} {r} ys p h = ap length p.bytes ∙ length_splice d ys at (omega (arith, p.place))

pub put_three : {d e f g : Bytes} {at r s t : ℕ} (xs ys zs : Bytes) → Put d at xs e r → Put e r ys f s → Put f s zs g t → t ≤ length d → Put d at (xs ++ (ys ++ zs)) g t
put_three xs ys zs p q w h =
    put_then xs (ys ++ zs) p (put_then ys zs q w (omega (arith, put_same xs p (omega (arith, q.place, w.place))))) h

pub put_four : {d e f g k : Bytes} {at r s t u : ℕ} (xs ys zs ws : Bytes) → Put d at xs e r → Put e r ys f s → Put f s zs g t → Put g t ws k u → u ≤ length d → Put d at (xs ++ (ys ++ (zs ++ ws))) k u
put_four xs ys zs ws p q w v h =
    put_then xs (ys ++ (zs ++ ws)) p (put_three ys zs ws q w v (omega (arith, put_same xs p (omega (arith, q.place, w.place, v.place))))) h
