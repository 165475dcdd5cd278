-- Laws of specs/Field.antt: its length, its text and spaces, and a text that is built piece by piece. Assumes nothing.
use Prim.Native.Char.{code}
use Prim.Native.Nat.{ℕ, zero, suc, ◌+◌, ◌-◌, ◌≤◌, min}
use mathlib.Core.Path.{◌≡◌, sym, ap, ◌∙◌}
use mathlib.Core.List.{[], ◌∷◌, ◌++◌, append_assoc, append-nil}
use native.Mathlib.Nat.{zero-sub, sub-zero, suc-sub-suc}
use native.Mathlib.Omega.{arith}
use lib.ListN.{length, take, drop, replicate, length-append, length-take, length-replicate, replicate-append-replicate}
use lib.Seq.{length-take-le, take_all, take_at, drop_at, drop-drop}
use Rattle.octets.specs.Bytes.{Bytes}
use Rattle.octets.specs.Part.{splice}
use Rattle.octets.specs.Field.{field, FieldHolds}

pub length_field : (n : ℕ) (xs : Bytes) → length (field n xs) ≡ n
unfolding field
length_field n xs = length-take-le n (xs ++ replicate n (code " ")) (simp (length-append, length-replicate) (omega arith))

-- ---- the text and the spaces

-- the first n bytes of xs and ys
take_both : (n : ℕ) (xs ys : Bytes) → take n (xs ++ ys) ≡ take n xs ++ take (n - length xs) ys
take_both zero xs ys = rw zero-sub
take_both (suc n) [] ys = rw sub-zero
take_both (suc n) (x ∷ xs) ys = rw suc-sub-suc (ap (λ (l : Bytes). x ∷ l) (take_both n xs ys))

-- the first m of n bytes b, and the others
split_fill : (m n b : ℕ) → m ≤ n → replicate n b ≡ replicate m b ++ replicate (n - m) b
split_fill m n b h =
    let e : n ≡ m + (n - m) = omega arith in
    ap (λ (k : ℕ). replicate k b) e ∙ sym (replicate-append-replicate m (n - m) b)

-- what fits of the text, then spaces
field_parts : (n : ℕ) (xs : Bytes) → field n xs ≡ take n xs ++ replicate (n - length xs) (code " ")
unfolding field
field_parts n xs =
    let sp : ℕ = code " " in
    let k : ℕ = n - length xs in
    take_both n xs (replicate n sp)
    ∙ ap (λ (l : Bytes). take n xs ++ l) (ap (take k) (split_fill k n sp (omega arith)) ∙ take_at (replicate k sp) (replicate (n - k) sp) k (length-replicate k sp))

pub field_fits : (n : ℕ) (xs : Bytes) → length xs ≤ n → field n xs ≡ xs ++ replicate (n - length xs) (code " ")
field_fits n xs h = field_parts n xs ∙ ap (λ (l : Bytes). l ++ replicate (n - length xs) (code " ")) (take_all n xs h)

-- a text of the field's length
pub field_exact : (n : ℕ) (xs : Bytes) → length xs ≡ n → field n xs ≡ xs
field_exact n xs e =
    let none : n - length xs ≡ 0 = omega arith in
    field_fits n xs (omega arith) ∙ rw none (append-nil xs)

-- ---- a text that is built piece by piece

-- spaces hold no text yet
pub holds_none : (n : ℕ) (d : Bytes) → d ≡ replicate n (code " ") → FieldHolds n [] d 0
holds_none n d e = record { bytes = e ∙ sym (field_fits n [] (omega arith) ∙ rw sub-zero); place = omega arith }

-- one piece more, as far as it fits
more_bytes : (n : ℕ) (xs s d : Bytes) (at : ℕ) → FieldHolds n xs d at → splice d at (take (n - at) s) ≡ field n (xs ++ s)
unfolding splice
more_bytes n xs s d at holds =
    let sp : ℕ = code " " in
    let k : ℕ = n - length xs in
    let t : Bytes = take k s in
    let rest : Bytes = replicate (n - length (xs ++ s)) sp in
    let whole : d ≡ take n xs ++ replicate k sp = holds.bytes ∙ field_parts n xs in
    let head : length (take n xs) ≡ at = length-take n xs ∙ sym holds.place in
    let left : n - at ≡ k = omega (arith, holds.place) in
    let less : length t ≤ k = omega (arith, length-take k s) in
    let count : k - length t ≡ n - length (xs ++ s) = omega (arith, length-take k s, length-append xs s) in
    let text : take at d ≡ take n xs = rw whole (take_at (take n xs) (replicate k sp) at head) in
    let spaces : drop at d ≡ replicate k sp = rw whole (drop_at (take n xs) (replicate k sp) at head) in
    let after : drop (at + length t) d ≡ rest =
    sym (drop-drop (length t) at d)
    ∙ ap (drop (length t)) (spaces ∙ split_fill (length t) k sp less)
    ∙ drop_at (replicate (length t) sp) (replicate (k - length t) sp) (length t) (length-replicate (length t) sp)
    ∙ ap (λ (j : ℕ). replicate j sp) count in
    rw (left, text, after) (sym (field_parts n (xs ++ s) ∙ ap (λ (l : Bytes). l ++ rest) (take_both n xs s) ∙ append_assoc (take n xs) t rest))

pub holds_more : {n : ℕ} {xs d d' : Bytes} {at r : ℕ} (s : Bytes) → FieldHolds n xs d at → (d' ≡ splice d at (take (length d - at) s)) × (r ≡ min (length d) (at + length s)) → FieldHolds n (xs ++ s) d' r
holds_more {n} {xs} {d} {d'} {at} {r} s holds appended =
    let size : length d ≡ n = ap length holds.bytes ∙ length_field n xs in
    let fits : d' ≡ splice d at (take (n - at) s) = rw size at appended.0 in
    record { bytes = fits ∙ more_bytes n xs s d at holds; place = omega (arith, length-append xs s, holds.place) }
