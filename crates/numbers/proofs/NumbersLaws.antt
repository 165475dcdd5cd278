-- Laws of specs/Numbers.antt: the size of a number that its form admits. Assumes nothing.
use Prim.Native.Nat.{ℕ, zero, suc, ◌+◌, ◌-◌, ◌<◌, ◌≤◌, min}
use Prim.Native.Char.{code}
use mathlib.Core.Bool.{Bool, true, false, not, cond}
use mathlib.Core.List.{[], ◌∷◌}
use mathlib.Core.Path.{◌≡◌, refl, sym, ap, ◌∙◌}
use Rattle.std.specs.Prelude.{Option, Some, None, MatchOption}
use Rattle.std.specs.List.{position_or_len}
use Rattle.octets.specs.Search.{first_from}
use native.Mathlib.Nat.{zero-add}
use native.Mathlib.Omega.{arith}
use borrow.Author.Tests.{ltb-true, ltb-false, leb-true, lt-ltb, le-ltb, eqb-true, eq-eqb}
use lib.Dec.{leb, ltb, eqb}
use lib.ListN.{length, get_or, take, drop, length-take, length-drop}
use lib.Seq.{take_all}
use Rattle.octets.specs.Bytes.{Bytes}
use Rattle.octets.proofs.SearchLaws.{first_passes}
use Rattle.octets.proofs.WriteLaws.{drop_next}
use Rattle.octets.specs.Choice.{choose, both}
use Rattle.octets.proofs.ChoiceLaws.{both_first, both_second}
use Rattle.values.specs.Run.{run_of}
use Rattle.values.proofs.RunLaws.{run_least, run_most}
use Rattle.values.specs.declared.run.Class.TheVariants.{Digit}
use Rattle.numbers.specs.Numbers.{point_in, has_point, whole_of, decimals_of, is_number}

-- the first place of a range one on, as that of the test one on
first_shift : (f : ℕ → Bool) (k d : ℕ) → first_from f (suc k) d ≡ suc (first_from (λ i. f (suc i)) k d)
unfolding first_from
first_shift f k zero = refl
first_shift f k (suc d) = by (f (suc k)) (first_shift f (suc k) d)
  where
    by : (t : Bool) → first_from f (suc (suc k)) d ≡ suc (first_from (λ i. f (suc i)) (suc k) d) → choose t (suc k) (first_from f (suc (suc k)) d) ≡ suc (choose t k (first_from (λ i. f (suc i)) (suc k) d))
    by true e = refl
    by false e = e

-- the first place whose byte passes, as the first byte that passes
first_bytes : (f : ℕ → Bool) (v : Bytes) → first_from (λ k. f (get_or v k 0)) 0 (length v) ≡ position_or_len f v
unfolding first_from
first_bytes f [] = refl
first_bytes f (b ∷ v) = by (f b) (first_shift (λ k. f (get_or (b ∷ v) k 0)) 0 (length v) ∙ ap suc (first_bytes f v))
  where
    by : (t : Bool) → first_from (λ k. f (get_or (b ∷ v) k 0)) 1 (length v) ≡ suc (position_or_len f v) → choose t 0 (first_from (λ k. f (get_or (b ∷ v) k 0)) 1 (length v)) ≡ cond (not t) (1 + position_or_len f v) 0
    by true e = refl
    by false e = e ∙ omega arith

abbrev pub is_point : ℕ → Bool
is_point b = eqb b (code ".")

-- what a search for the first point tells
pub point_found : (v : Bytes) (r : Option ℕ) → r ≡ cond (ltb (position_or_len is_point v) (length v)) (Some (position_or_len is_point v)) None → MatchOption r (length v ≤ point_in v) (λ p. (p ≡ point_in v) × (p < length v))
unfolding point_in
point_found v r e = rw e (by (ltb (position_or_len is_point v) (length v)) refl)
  where
    same : point_in v ≡ position_or_len is_point v
    same = first_bytes is_point v

    by : (t : Bool) → ltb (position_or_len is_point v) (length v) ≡ t → MatchOption (cond t (Some (position_or_len is_point v)) None) (length v ≤ point_in v) (λ p. (p ≡ point_in v) × (p < length v))
    by true t = (sym same, ltb-true _ _ t)
    by false t = omega (arith, same, ltb-false _ _ t)

module _ (a b : ℕ) (v : Bytes) (e : is_number a b v ≡ true) where
  whole_run : run_of 1 a Digit (whole_of v) ≡ true
  unfolding is_number
  whole_run = both_first (run_of 1 a Digit (whole_of v)) _ e

  -- a digit stands before the point
  pub whole_some : 1 ≤ length (whole_of v)
  whole_some = run_least 1 a Digit (whole_of v) whole_run

  whole_most : length (whole_of v) ≤ a
  whole_most = run_most 1 a Digit (whole_of v) whole_run

  -- a digits in all
  pub digits_most : length (whole_of v) + length (decimals_of v) ≤ a
  unfolding is_number decimals_of
  digits_most = go (has_point v) refl (both_second (run_of 1 a Digit (whole_of v)) _ e)
    where
      go : (t : Bool) → has_point v ≡ t → choose t (both (run_of 1 b Digit (decimals_of v)) (leb (length (whole_of v) + length (decimals_of v)) a)) true ≡ true → length (whole_of v) + length (decimals_of v) ≤ a
      go true p f = leb-true _ _ (both_second (run_of 1 b Digit (decimals_of v)) _ f)
      go false p f = omega (arith, whole_most, ltb-false (point_in v) (length v) p, length-drop (point_in v + 1) v)

-- what stands before the point is a front of the number
pub whole_within : (v : Bytes) → length (whole_of v) ≤ length v
unfolding whole_of
whole_within v = omega (arith, length-take (point_in v) v)

-- the rest opens with the point: what stands after it there is what stands after it in the number
point_first : (v : Bytes) (b : ℕ) → b ≡ code "." → point_in (b ∷ v) ≡ 0
unfolding point_in first_from
point_first v b e = rw (eq-eqb b (code ".") e)

point_passes : (v : Bytes) → point_in v < length v → get_or v (point_in v) 0 ≡ code "."
unfolding point_in
point_passes v h = eqb-true _ _ (first_passes (λ k. eqb (get_or v k 0) (code ".")) 0 (length v) (rw zero-add h))

rest_decimals : (v : Bytes) → point_in v < length v → decimals_of (drop (point_in v) v) ≡ decimals_of v
unfolding decimals_of
rest_decimals v h =
    let p : ℕ = point_in v in
    let opens : drop p v ≡ get_or v p 0 ∷ drop (p + 1) v = drop_next v p h in
    rw (opens, point_first (drop (p + 1) v) (get_or v p 0) (point_passes v h))

-- a number with no point, and one with a point
pub whole_form : (a b : ℕ) (v : Bytes) → length v ≤ point_in v → is_number a b v ≡ run_of 1 a Digit v
unfolding is_number whole_of
whole_form a b v h = rw (take_all (point_in v) v h, le-ltb (point_in v) (length v) h) (by (run_of 1 a Digit v))
  where
    by : (t : Bool) → both t true ≡ t
    by true = refl
    by false = refl

pub point_form : (a b : ℕ) (v : Bytes) → point_in v < length v → is_number a b v ≡ both (run_of 1 a Digit (whole_of v)) (both (run_of 1 b Digit (decimals_of v)) (leb (length (whole_of v) + length (decimals_of v)) a))
unfolding is_number
point_form a b v h = rw (lt-ltb (point_in v) (length v) h)

-- the two by the rest, which opens with the point
module _ (a b : ℕ) (v w rest : Bytes) (e : w ≡ whole_of v) (f : rest ≡ take (length v - length w) (drop (length w) v)) where
  rest_is : rest ≡ drop (length w) v
  rest_is = f ∙ take_all (length v - length w) (drop (length w) v) (omega (arith, length-drop (length w) v))

  whole_length : length w ≡ min (point_in v) (length v)
  unfolding whole_of
  whole_length = ap length e ∙ length-take (point_in v) v

  pub bare_form : length rest ≡ 0 → is_number a b v ≡ run_of 1 a Digit w
  unfolding whole_of
  bare_form h =
      let past : length v ≤ point_in v = omega (arith, ap length rest_is, whole_length, length-drop (length w) v) in
      rw (e, take_all (point_in v) v past) (whole_form a b v past)

  pub rest_form : (t : Bytes) → t ≡ decimals_of rest → 1 ≤ length rest → is_number a b v ≡ both (run_of 1 a Digit w) (both (run_of 1 b Digit t) (leb (length w + length t) a))
  rest_form t g h =
      let before : point_in v < length v = omega (arith, ap length rest_is, whole_length, length-drop (length w) v) in
      let place : length w ≡ point_in v = omega (arith, whole_length) in
      let tail : t ≡ decimals_of v = g ∙ ap decimals_of (rw place at rest_is) ∙ rest_decimals v before in
      rw (tail, e) (point_form a b v before)
