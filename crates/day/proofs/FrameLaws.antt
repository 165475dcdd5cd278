-- Laws of specs/Frame.antt. Assumes nothing.
use Prim.Native.Nat.{ℕ, ◌+◌, ◌<◌, ◌≤◌}
use mathlib.Core.Bool.{true}
use mathlib.Core.Path.{◌≡◌, sym, ap, ◌∙◌}
use mathlib.Core.Logic.{◌⊎◌, inl, inr}
use mathlib.Core.List.{[], ◌∷◌, ◌++◌}
use native.Mathlib.Numerals.{add-one}
use native.Mathlib.Decide.{dec_lt}
use native.Mathlib.Omega.{arith}
use borrow.Author.Tests.{lt-ltb, le-ltb, le-leb, lt-leb, leb-true}
use lib.ListN.{length, drop, get_or, set, length-append, length-drop}
use lib.Seq.{take-suc, get_or-drop, take-append-le}
use lib.Dec.{leb}
use Rattle.octets.specs.Bytes.{Bytes}
use Rattle.octets.specs.Part.{part, splice}
use Rattle.octets.specs.Number.{from_le}
use Rattle.octets.proofs.ChoiceLaws.{both_first, both_second}
use Rattle.octets.proofs.PartLaws.{length_part, length_splice, byte_apart, splice_splice}
use Rattle.day.specs.declared.frame.Frame.TheVariants.{Message, Overlong, Partial}
use Rattle.day.specs.Frame.{length_size, length_of, is_whole, frame_of}
use Rattle.day.proofs.ReportLaws.{set_one}

-- ---- what stands at the front, by the length of the input

module _ (longest : ℕ) (xs : Bytes) where
  pub no_length : length xs < length_size → frame_of longest xs ≡ Partial
  unfolding frame_of
  no_length h = rw (lt-leb length_size (length xs) h)

  module _ (h : length_size ≤ length xs) where
    pub not_whole : length xs < length_size + length_of xs → frame_of longest xs ≡ Partial
    unfolding frame_of
    not_whole l = rw (le-leb length_size (length xs) h, lt-leb (length_size + length_of xs) (length xs) l)

    module _ (l : length_size + length_of xs ≤ length xs) where
      pub too_long : longest < length_of xs → frame_of longest xs ≡ Overlong (length_of xs)
      unfolding frame_of
      too_long k = rw (le-leb length_size (length xs) h, le-leb (length_size + length_of xs) (length xs) l, lt-ltb longest (length_of xs) k)

      pub a_message : length_of xs ≤ longest → frame_of longest xs ≡ Message (length_of xs)
      unfolding frame_of
      a_message k = rw (le-leb length_size (length xs) h, le-leb (length_size + length_of xs) (length xs) l, le-ltb longest (length_of xs) k)

-- ---- bytes moved to the front

part_one : (xs : Bytes) (from i : ℕ) → from + i < length xs → part xs from i ++ (get_or xs (from + i) 0 ∷ []) ≡ part xs from (i + 1)
part_one xs from i h =
    rw (← get_or-drop from xs i 0, add-one i) (sym (take-suc (drop from xs) i 0 (simp length-drop (omega arith))))

pub kept_more : (xs : Bytes) (from i : ℕ) → from + i < length xs → set (splice xs 0 (part xs from i)) i (get_or (splice xs 0 (part xs from i)) (from + i) 0) ≡ splice xs 0 (part xs from (i + 1))
kept_more xs from i h =
    let ys : Bytes = part xs from i in
    let d : Bytes = splice xs 0 ys in
    let n : length ys ≡ i = length_part xs from i (omega arith) in
    let there : get_or d (from + i) 0 ≡ get_or xs (from + i) 0 = byte_apart xs ys 0 (from + i) (omega (arith, n)) (λ _. omega (arith, n)) in
    let one : set d i (get_or d (from + i) 0) ≡ splice d i (get_or xs (from + i) 0 ∷ []) = ap (set d i) there ∙ set_one d i _ (omega (arith, n, length_splice xs ys 0 (omega (arith, n)))) in
    let place : i ≡ 0 + length ys = omega (arith, n) in
    let more : ys ++ (get_or xs (from + i) 0 ∷ []) ≡ part xs from (i + 1) = part_one xs from i h in
    one
    ∙ ap (λ (j : ℕ). splice d j (get_or xs (from + i) 0 ∷ [])) place
    ∙ splice_splice xs ys (get_or xs (from + i) 0 ∷ []) 0 (omega (arith, n))
    ∙ ap (splice xs 0) more

-- ---- what is whole stays what it is, whatever comes behind it

length_more : (xs ys : Bytes) → length_size ≤ length xs → length_of (xs ++ ys) ≡ length_of xs
length_more xs ys h = ap from_le (take-append-le length_size xs ys h)

pub whole_length : (xs : Bytes) → is_whole xs ≡ true → (length_size ≤ length xs) × (length_size + length_of xs ≤ length xs)
whole_length xs e =
    (leb-true length_size (length xs) (both_first _ _ e), leb-true (length_size + length_of xs) (length xs) (both_second (leb length_size (length xs)) _ e))

whole_more : (xs ys : Bytes) → is_whole xs ≡ true → is_whole (xs ++ ys) ≡ true
whole_more xs ys e =
    let h = whole_length xs e in
    let n : length (xs ++ ys) ≡ length xs + length ys = length-append xs ys in
    let two : leb length_size (length (xs ++ ys)) ≡ true = le-leb length_size (length (xs ++ ys)) (omega (arith, h.0, n)) in
    let all : leb (length_size + length_of (xs ++ ys)) (length (xs ++ ys)) ≡ true = le-leb _ (length (xs ++ ys)) (omega (arith, h.1, n, length_more xs ys h.0)) in
    rw (two, all)

-- it is a message or too long
pub whole_frame : (longest : ℕ) (xs : Bytes) → is_whole xs ≡ true → (frame_of longest xs ≡ Overlong (length_of xs)) ⊎ (frame_of longest xs ≡ Message (length_of xs))
whole_frame longest xs e =
    let h : (length_size ≤ length xs) × (length_size + length_of xs ≤ length xs) = whole_length xs e in
    elim (dec_lt longest (length_of xs)) [
      | yes l ↦ inl (too_long longest xs h.0 h.1 l)
      | no l ↦ inr (a_message longest xs h.0 h.1 (omega (arith, l)))
    ]

pub frame_more : (longest : ℕ) (xs ys : Bytes) → is_whole xs ≡ true → frame_of longest (xs ++ ys) ≡ frame_of longest xs
unfolding frame_of
frame_more longest xs ys e = rw (whole_more xs ys e, e, length_more xs ys (whole_length xs e).0)
