-- Laws of specs/Run.antt: what classes and runs tell of each byte. Assumes nothing.
use Prim.Native.Nat.{ℕ, zero, suc, ◌+◌, ◌-◌, ◌*◌, ◌<◌, ◌≤◌}
use Prim.Native.Char.{code}
use mathlib.Core.Bool.{Bool, true, false, ◌&&◌, false≢true}
use mathlib.Core.List.{[], ◌∷◌}
use Rattle.std.specs.List.{list_all, fold}
use Rattle.std.specs.Simd.{first_chunks}
use Rattle.std.proofs.lemmas.List.{drop-drop}
use Rattle.std.proofs.lemmas.List.Folds.{list_all-append}
use mathlib.Core.Path.{◌≡◌, refl, sym, ap, ◌∙◌}
use native.Mathlib.Nat.{zero-add, add-zero, zero-mul, suc-mul}
use native.Mathlib.Omega.{arith}
use borrow.Author.Tests.{lt-leb, leb-true, ltb-true, ltb-false}
use lib.Dec.{leb, ltb}
use lib.ListN.{length, get_or, take, drop, length-take, length-drop, take-append-drop}
use lib.Seq.{get_or-take, get_or-drop}
use Rattle.octets.specs.Bytes.{Bytes}
use Rattle.octets.specs.Choice.{both, either}
use Rattle.octets.specs.Search.{all, all_from}
use Rattle.octets.proofs.ChoiceLaws.{both_first, both_second, both_none}
use Rattle.octets.proofs.SearchLaws.{all_at, all_shift}
use Rattle.values.specs.Run.{within, in_class, each_of, run_of}
use Rattle.values.specs.declared.run.Class.{Class}
use Rattle.values.specs.declared.run.Class.TheVariants.{Digit, Capital, CapitalOrDigit}

-- a test of the byte at each place, as the test of each byte
pub all_bytes : (f : ℕ → Bool) (v : Bytes) → all (λ k. f (get_or v k 0)) (length v) ≡ list_all f v
unfolding all_from
all_bytes f [] = refl
all_bytes f (b ∷ v) = by (f b) (all_shift (λ k. f (get_or (b ∷ v) k 0)) 0 (length v) ∙ all_bytes f v)
  where
    by : (t : Bool) → all_from (λ k. f (get_or (b ∷ v) k 0)) 1 (length v) ≡ list_all f v → both t (all_from (λ k. f (get_or (b ∷ v) k 0)) 1 (length v)) ≡ (t && list_all f v)
    by true e = e
    by false e = refl

fold_from : (f : ℕ → Bool) (v : Bytes) (t : Bool) → fold (λ t b. t && f b) t v ≡ (t && list_all f v)
fold_from f [] true = refl
fold_from f [] false = refl
fold_from f (b ∷ v) true = fold_from f v (f b)
fold_from f (b ∷ v) false = fold_from f v false

pub fold_bytes : (f : ℕ → Bool) (v : Bytes) → fold (λ t b. t && f b) true v ≡ list_all f v
fold_bytes f v = fold_from f v true

-- a test of each byte, block by block
pub blocks_each : (f : ℕ → Bool) (n k : ℕ) (v : Bytes) → (list_all (list_all f) (first_chunks n k v) && list_all f (drop (k * n) v)) ≡ list_all f v
blocks_each f n zero v = rw zero-mul refl
blocks_each f n (suc k) v =
    let place : drop (suc k * n) v ≡ drop (k * n) (drop n v) = ap (λ (i : ℕ). drop i v) (rw suc-mul (omega arith)) ∙ sym (drop-drop (k * n) n v) in
    rw (place, by (list_all f (take n v)) (list_all (list_all f) (first_chunks n k (drop n v))) (list_all f (drop (k * n) (drop n v))), blocks_each f n k (drop n v), ← list_all-append f (take n v) (drop n v)) (ap (list_all f) (take-append-drop n v))
  where
    by : (p q r : Bool) → ((p && q) && r) ≡ (p && (q && r))
    by true q r = refl
    by false q r = refl

-- a run, by its length and by each byte of it
pub run_where : (least most : ℕ) (class : Class) (v : Bytes) → within least most (length v) ≡ true → list_all (in_class class) v ≡ run_of least most class v
unfolding run_of
run_where least most class v e = rw (both_first (leb least (length v)) _ e, both_second (leb least (length v)) _ e) (sym (all_bytes (in_class class) v))

pub run_not : (least most : ℕ) (class : Class) (v : Bytes) → within least most (length v) ≡ false → false ≡ run_of least most class v
unfolding run_of
run_not least most class v e = by (leb least (length v)) (leb (length v) most) e
  where
    by : (s t : Bool) → both s t ≡ false → false ≡ both s (both t (each_of class v))
    by true true f = absurd (false≢true (sym f))
    by true false f = refl
    by false t f = refl

-- what a test of each byte tells of one
pub each_at : (class : Class) (v : Bytes) (k : ℕ) → k < length v → each_of class v ≡ true → in_class class (get_or v k 0) ≡ true
each_at class v k h e = rw (zero-add k) at (all_at (λ i. in_class class (get_or v i 0)) 0 (length v) k h e)

-- a run: its length, and each byte of it
module _ (least most : ℕ) (class : Class) (v : Bytes) (e : run_of least most class v ≡ true) where
  pub run_least : least ≤ length v
  unfolding run_of
  run_least = leb-true least (length v) (both_first (leb least (length v)) _ e)

  pub run_most : length v ≤ most
  unfolding run_of
  run_most = leb-true (length v) most (both_first (leb (length v) most) _ (both_second (leb least (length v)) _ e))

  pub run_each : each_of class v ≡ true
  unfolding run_of
  run_each = both_second (leb (length v) most) _ (both_second (leb least (length v)) _ e)

  pub run_at : (k : ℕ) → k < length v → in_class class (get_or v k 0) ≡ true
  run_at k h = each_at class v k h run_each

-- a test of one or the other
either_first : (a b : Bool) → b ≡ false → either a b ≡ true → a ≡ true
either_first true b f e = refl
either_first false b f e = sym f ∙ e

either_second : (a b : Bool) → b ≡ true → either a b ≡ true
either_second true b e = refl
either_second false b e = e

-- a capital or digit below A is a digit, any other a capital
pub digit_below : (b : ℕ) → b < code "A" → in_class CapitalOrDigit b ≡ true → code "0" ≤ b
digit_below b l e = leb-true (code "0") b (both_first (leb (code "0") b) _ (rw (lt-leb (code "A") b l) at e))

pub capital_from : (b : ℕ) → code "A" ≤ b → in_class CapitalOrDigit b ≡ true → in_class Capital b ≡ true
capital_from b l e =
    let above : leb b (code "9") ≡ false = lt-leb b (code "9") (omega arith) in
    either_first (in_class Capital b) (in_class Digit b) (both_none (leb (code "0") b) _ above) e

-- a test of a range passes where it passes at each number
all_from_lem : (f : ℕ → Bool) (k d : ℕ) → ((i : ℕ) → i < d → f (k + i) ≡ true) → all_from f k d ≡ true
unfolding all_from
all_from_lem f k zero h = refl
all_from_lem f k (suc d) h =
    let here : f k ≡ true = rw (add-zero k) at (h 0 (omega arith)) in
    rw here (all_from_lem f (suc k) d (λ i l. ap f (omega arith) ∙ h (suc i) (omega arith)))

-- capitals or digits, then digits
pub each_joined : (n : ℕ) (v : Bytes) → each_of CapitalOrDigit (take n v) ≡ true → each_of Digit (drop n v) ≡ true → each_of CapitalOrDigit v ≡ true
each_joined n v first then = all_from_lem (λ k. in_class CapitalOrDigit (get_or v k 0)) 0 (length v) (λ k h. rw (zero-add k) (go k h (ltb k n) refl))
  where
    go : (k : ℕ) → k < length v → (t : Bool) → ltb k n ≡ t → in_class CapitalOrDigit (get_or v k 0) ≡ true
    go k h true t =
        let l : k < n = ltb-true k n t in
        ap (in_class CapitalOrDigit) (sym (get_or-take n v k 0 l)) ∙ each_at CapitalOrDigit (take n v) k (omega (arith, length-take n v)) first
    go k h false t =
        let l : n ≤ k = ltb-false k n t in
        let place : n + (k - n) ≡ k = omega arith in
        let digit : in_class Digit (get_or (drop n v) (k - n) 0) ≡ true = each_at Digit (drop n v) (k - n) (omega (arith, length-drop n v)) then in
        rw (get_or-drop n v (k - n) 0, place) at (either_second (in_class Capital (get_or (drop n v) (k - n) 0)) _ digit)
