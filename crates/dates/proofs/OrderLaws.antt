-- Laws of `before`: it is the order of std, how place i decides it, and that of time; and what a pattern tells of each pair of bytes. Assumes nothing.
use Prim.Native.Nat.{ℕ, ◌+◌, ◌-◌, ◌*◌, ◌<◌, ◌≤◌}
use Prim.Native.Char.{code}
use mathlib.Core.Bool.{Bool, true, false, ◌&&◌, false≢true}
use mathlib.Core.Path.{◌≡◌, refl, sym, ap, ◌∙◌}
use mathlib.Core.List.{[], ◌∷◌}
use lib.ListN.{length, get_or, drop, drop_of_length-le}
use lib.Dec.{ltb, leb, eqb}
use borrow.Author.Tests.{eq-eqb, ne_eqb, lt-ltb, le-ltb, ltb-true, ltb-false, eqb-true, eqb-false, leb-true}
use native.Mathlib.Omega.{arith}
use Rattle.std.specs.Prelude.{Some}
use Rattle.std.specs.List.{list_all, zip}
use Rattle.std.specs.Ordering.{nat_cmp, is_lt, is_some_and}
use Rattle.std.specs.Cmp.Lexicographic.{slice_partial_cmp}
use Rattle.std.proofs.lemmas.Cmp.{same_from_slice_cmp_tested}
use Rattle.std.proofs.lemmas.Bool.Decides.{nat_tests}
use Rattle.octets.specs.Bytes.{Bytes}
use Rattle.octets.specs.Choice.{choose, both, either}
use Rattle.octets.specs.Search.{all_from}
use Rattle.octets.proofs.ChoiceLaws.{both_first, both_second}
use Rattle.values.specs.Run.{in_class}
use Rattle.values.specs.declared.run.Class.TheVariants.{Digit}
use Rattle.octets.proofs.SearchLaws.{all_shift}
use Rattle.octets.proofs.WriteLaws.{drop_next}
use Rattle.dates.specs.Dates.{fits_byte, fits_at, fits_pattern, date_pattern, is_date, time_pattern, is_time, before, number, DateOrder, TimeOrder}

-- std's order of two texts is `before`
pub less_before : (a b : Bytes) (r : Bool) → r ≡ is_some_and is_lt (slice_partial_cmp (λ x y. Some (nat_cmp x y)) a b) → r ≡ before a b
unfolding before
less_before = same_from_slice_cmp_tested nat_cmp is_lt before refl (λ _ _. refl) (λ _ _. refl) (λ x y a b o h. grind (arith, nat_tests))

-- nothing is before what has no bytes left
pub before_none : (a : Bytes) → before a [] ≡ false
unfolding before
before_none [] = refl
before_none (x ∷ a) = refl

module _ (a b : Bytes) (i : ℕ) (h : i < length b) where
  -- a has no byte left, b has one
  pub before_short : length a ≤ i → before (drop i a) (drop i b) ≡ true
  unfolding before
  before_short l = rw (drop_of_length-le a {i = i} l, drop_next b i h)

  -- equal bytes: the rest decides
  pub before_more : i < length a → get_or a i 0 ≡ get_or b i 0 → before (drop i a) (drop i b) ≡ before (drop (i + 1) a) (drop (i + 1) b)
  unfolding before
  before_more l e =
      let ge : get_or b i 0 ≤ get_or a i 0 = omega arith in
      let same : ltb (get_or a i 0) (get_or b i 0) ≡ false = le-ltb _ _ ge in
      rw (drop_next a i l, drop_next b i h, same, eq-eqb _ _ e)

  -- other bytes decide
  pub before_here : i < length a → (get_or a i 0 ≡ get_or b i 0 → ⊥) → before (drop i a) (drop i b) ≡ ltb (get_or a i 0) (get_or b i 0)
  unfolding before
  before_here l ne = rw (drop_next a i l, drop_next b i h, ne_eqb _ _ ne) (by (ltb (get_or a i 0) (get_or b i 0)))
    where
      by : (t : Bool) → either t false ≡ t
      by true = refl
      by false = refl

-- ---- the order of bytes is that of time: two values of one pattern compare as the numbers of their digits do

-- two bytes of one place: both are digits, or they are the same
abbrev alike : ℕ → ℕ → Bool
alike x y = either (both (in_class Digit x) (in_class Digit y)) (eqb x y)

unfoldable all_alike : Bytes → Bytes → Bool
all_alike [] [] = true
all_alike [] (y ∷ b) = false
all_alike (x ∷ a) [] = false
all_alike (x ∷ a) (y ∷ b) = both (alike x y) (all_alike a b)

digit_most : (x : ℕ) → in_class Digit x ≡ true → x - code "0" ≤ 9
digit_most x d = omega (arith, leb-true x (code "9") (both_second (leb (code "0") x) _ d))

digit_least : (x : ℕ) → in_class Digit x ≡ true → code "0" ≤ x
digit_least x d = leb-true (code "0") x (both_first (leb (code "0") x) _ d)

-- a lead is kept
lead : (a b : Bytes) (n k : ℕ) → all_alike a b ≡ true → n < k → number n a < number k b
unfolding number all_alike
lead [] [] n k e h = h
lead [] (y ∷ b) n k e h = absurd (false≢true e)
lead (x ∷ a) [] n k e h = absurd (false≢true e)
lead (x ∷ a) (y ∷ b) n k e h = by (in_class Digit x) (in_class Digit y) refl refl (both_first (alike x y) (all_alike a b) e) (λ i j l. lead a b i j (both_second (alike x y) (all_alike a b) e) l)
  where
    by : (s t : Bool) → in_class Digit x ≡ s → in_class Digit y ≡ t → either (both s t) (eqb x y) ≡ true → ((i j : ℕ) → i < j → number i a < number j b) → choose s (number (n * 10 + (x - code "0")) a) (number n a) < choose t (number (k * 10 + (y - code "0")) b) (number k b)
    by true true p q g rest =
        let d = digit_most x p in
        rest (n * 10 + (x - code "0")) (k * 10 + (y - code "0")) (omega arith)
    by false false p q g rest = rest n k h
    by true false p q g rest = absurd (false≢true (sym q ∙ ap (in_class Digit) (sym (eqb-true x y g)) ∙ p))
    by false true p q g rest = absurd (false≢true (sym p ∙ ap (in_class Digit) (eqb-true x y g) ∙ q))

alike_back : (a b : Bytes) → all_alike a b ≡ true → all_alike b a ≡ true
unfolding all_alike
alike_back [] [] e = refl
alike_back [] (y ∷ b) e = absurd (false≢true e)
alike_back (x ∷ a) [] e = absurd (false≢true e)
alike_back (x ∷ a) (y ∷ b) e = rw (by (in_class Digit x) (in_class Digit y) (both_first (alike x y) (all_alike a b) e)) (alike_back a b (both_second (alike x y) (all_alike a b) e))
  where
    by : (s t : Bool) → either (both s t) (eqb x y) ≡ true → either (both t s) (eqb y x) ≡ true
    by true true g = refl
    by true false g = eq-eqb y x (sym (eqb-true x y g))
    by false true g = eq-eqb y x (sym (eqb-true x y g))
    by false false g = eq-eqb y x (sym (eqb-true x y g))

-- equal bytes: the rest decides; others decide
module _ (x y : ℕ) (rest : Bool) where
  tie_of : x ≡ y → either (ltb x y) (both (eqb x y) rest) ≡ rest
  tie_of e =
      let ge : y ≤ x = omega arith in
      rw (le-ltb x y ge, eq-eqb x y e)

  less_of : x < y → either (ltb x y) (both (eqb x y) rest) ≡ true
  less_of h = rw (lt-ltb x y h)

  more_of : y < x → either (ltb x y) (both (eqb x y) rest) ≡ false
  more_of h =
      let ge : y ≤ x = omega arith in
      rw (le-ltb x y ge, ne_eqb x y (λ e. omega arith))

ordered : (a b : Bytes) (n : ℕ) → all_alike a b ≡ true → before a b ≡ ltb (number n a) (number n b)
unfolding number all_alike before
ordered [] [] n e = sym (le-ltb n n (omega arith))
ordered [] (y ∷ b) n e = absurd (false≢true e)
ordered (x ∷ a) [] n e = absurd (false≢true e)
ordered (x ∷ a) (y ∷ b) n e = by (in_class Digit x) (in_class Digit y) refl refl (both_first (alike x y) (all_alike a b) e) (λ k. ordered a b k rest)
  where
    rest : all_alike a b ≡ true
    rest = both_second (alike x y) (all_alike a b) e

    at : ℕ → ℕ
    at z = n * 10 + (z - code "0")

    digits : (u w : Bool) → ltb x y ≡ u → eqb x y ≡ w → in_class Digit x ≡ true → in_class Digit y ≡ true → ((k : ℕ) → before a b ≡ ltb (number k a) (number k b)) → either (ltb x y) (both (eqb x y) (before a b)) ≡ ltb (number (at x) a) (number (at y) b)
    digits true w f g p q same =
        let l = digit_least x p in
        let h : x < y = ltb-true x y f in
        less_of x y (before a b) h ∙ sym (lt-ltb _ _ (lead a b (at x) (at y) rest (omega arith)))
    digits false true f g p q same =
        let h : x ≡ y = eqb-true x y g in
        tie_of x y (before a b) h ∙ same (at x) ∙ ap (λ (z : ℕ). ltb (number (at x) a) (number (at z) b)) h
    digits false false f g p q same =
        let l = digit_least y q in
        let h : y < x = omega (arith, ltb-false x y f, eqb-false x y g) in
        let k : number (at y) b < number (at x) a = lead b a (at y) (at x) (alike_back a b rest) (omega arith) in
        let m : number (at y) b ≤ number (at x) a = omega arith in
        more_of x y (before a b) h ∙ sym (le-ltb _ _ m)

    by : (s t : Bool) → in_class Digit x ≡ s → in_class Digit y ≡ t → either (both s t) (eqb x y) ≡ true → ((k : ℕ) → before a b ≡ ltb (number k a) (number k b)) → either (ltb x y) (both (eqb x y) (before a b)) ≡ ltb (choose s (number (at x) a) (number n a)) (choose t (number (at y) b) (number n b))
    by true true p q g same = digits (ltb x y) (eqb x y) refl refl p q same
    by false false p q g same = tie_of x y (before a b) (eqb-true x y g) ∙ same n
    by true false p q g same = absurd (false≢true (sym q ∙ ap (in_class Digit) (sym (eqb-true x y g)) ∙ p))
    by false true p q g same = absurd (false≢true (sym p ∙ ap (in_class Digit) (eqb-true x y g) ∙ q))

-- ---- values of one pattern are alike

unfoldable row_fits : Bytes → Bytes → Bool
row_fits [] [] = true
row_fits [] (x ∷ v) = false
row_fits (q ∷ p) [] = false
row_fits (q ∷ p) (x ∷ v) = both (fits_byte q x) (row_fits p v)

row_fits_lem : (p v : Bytes) → length v ≡ length p → all_from (fits_at p v) 0 (length v) ≡ true → row_fits p v ≡ true
unfolding row_fits all_from
row_fits_lem [] [] l e = refl
row_fits_lem [] (x ∷ v) l e = absurd (omega arith)
row_fits_lem (q ∷ p) [] l e = absurd (omega arith)
row_fits_lem (q ∷ p) (x ∷ v) l e =
    let here : fits_byte q x ≡ true = both_first (fits_byte q x) (all_from (fits_at (q ∷ p) (x ∷ v)) 1 (length v)) e in
    let more : all_from (fits_at (q ∷ p) (x ∷ v)) 1 (length v) ≡ true = both_second (fits_byte q x) (all_from (fits_at (q ∷ p) (x ∷ v)) 1 (length v)) e in
    rw here (row_fits_lem p v (omega arith) (sym (all_shift (fits_at (q ∷ p) (x ∷ v)) 0 (length v)) ∙ more))

alike_fits : (p a b : Bytes) → row_fits p a ≡ true → row_fits p b ≡ true → all_alike a b ≡ true
unfolding row_fits all_alike
alike_fits [] [] [] e f = refl
alike_fits [] (x ∷ a) b e f = absurd (false≢true e)
alike_fits [] [] (y ∷ b) e f = absurd (false≢true f)
alike_fits (q ∷ p) [] b e f = absurd (false≢true e)
alike_fits (q ∷ p) (x ∷ a) [] e f = absurd (false≢true f)
alike_fits (q ∷ p) (x ∷ a) (y ∷ b) e f = rw (by (eqb q (code "0")) (both_first (fits_byte q x) (row_fits p a) e) (both_first (fits_byte q y) (row_fits p b) f)) (alike_fits p a b (both_second (fits_byte q x) (row_fits p a) e) (both_second (fits_byte q y) (row_fits p b) f))
  where
    or : (t : Bool) → either t true ≡ true
    or true = refl
    or false = refl

    by : (t : Bool) → choose t (in_class Digit x) (eqb x q) ≡ true → choose t (in_class Digit y) (eqb y q) ≡ true → alike x y ≡ true
    by true g h = rw (g, h)
    by false g h = rw (eq-eqb x y (eqb-true x q g ∙ sym (eqb-true y q h))) (or (both (in_class Digit x) (in_class Digit y)))

module _ (p a b : Bytes) (fa : fits_pattern p a ≡ true) (fb : fits_pattern p b ≡ true) where
  row_of : (v : Bytes) → fits_pattern p v ≡ true → row_fits p v ≡ true
  unfolding fits_pattern
  row_of v e = row_fits_lem p v (eqb-true _ _ (both_first (eqb (length v) (length p)) _ e)) (both_second (eqb (length v) (length p)) _ e)

  pattern_order : before a b ≡ ltb (number 0 a) (number 0 b)
  pattern_order = ordered a b 0 (alike_fits p a b (row_of a fa) (row_of b fb))

pub date_order : DateOrder
unfolding is_date
date_order a b e f = pattern_order date_pattern a b (both_first (fits_pattern date_pattern a) _ e) (both_first (fits_pattern date_pattern b) _ f)

pub time_order : TimeOrder
unfolding is_time
time_order a b e f = pattern_order time_pattern a b (both_first (fits_pattern time_pattern a) _ e) (both_first (fits_pattern time_pattern b) _ f)

-- a test of two texts at each place, as the test of each pair
all_pairs : (f : ℕ → ℕ → Bool) (v p : Bytes) → length v ≡ length p → all_from (λ k. f (get_or p k 0) (get_or v k 0)) 0 (length v) ≡ list_all (λ (q : ℕ × ℕ). f q.1 q.0) (zip v p)
unfolding all_from
all_pairs f [] p l = refl
all_pairs f (b ∷ v) [] l = absurd (omega arith)
all_pairs f (b ∷ v) (q ∷ p) l = by (f q b) (all_shift (λ k. f (get_or (q ∷ p) k 0) (get_or (b ∷ v) k 0)) 0 (length v) ∙ all_pairs f v p (omega arith))
  where
    by : (t : Bool) → all_from (λ k. f (get_or (q ∷ p) k 0) (get_or (b ∷ v) k 0)) 1 (length v) ≡ list_all (λ (q : ℕ × ℕ). f q.1 q.0) (zip v p) → both t (all_from (λ k. f (get_or (q ∷ p) k 0) (get_or (b ∷ v) k 0)) 1 (length v)) ≡ (t && list_all (λ (q : ℕ × ℕ). f q.1 q.0) (zip v p))
    by true e = e
    by false e = refl

abbrev pub pair_fits : ℕ × ℕ → Bool
pair_fits q = fits_byte q.1 q.0

pub fits_pairs : (p v : Bytes) → length v ≡ length p → list_all pair_fits (zip v p) ≡ fits_pattern p v
unfolding fits_pattern
fits_pairs p v l = rw (eq-eqb _ _ l) (sym (all_pairs fits_byte v p l))

pub ruleset orders = (less_before, date_order, time_order)
