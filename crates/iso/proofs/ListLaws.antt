-- Laws of a list of codes, each so many capitals: a value is one of them exactly where its number is one of theirs. Assumes nothing.
use Prim.Native.Nat.{ℕ, suc, ◌+◌, ◌*◌, ◌<◌}
use Prim.Native.Char.{code}
use Prim.Native.String.{String}
use mathlib.Core.Path.{◌≡◌, refl, sym, ap, ap₂, subst, ◌∙◌}
use mathlib.Core.Bool.{Bool, true, false, false≢true}
use mathlib.Core.List.{List, [], ◌∷◌}
use mathlib.Core.Logic.{◌⊎◌, ⊎_elim, inl, inr}
use native.Mathlib.Omega.{arith}
use lib.ListN.{length, get_or, get_or-eq_default}
use lib.Dec.{leb, ltb}
use borrow.Author.Tests.{leb-true, ltb-true, ltb-false, lt-ltb}
use types.Run.{OneOf}
use Rattle.std.specs.Int.{w32, from_be_bytes}
use Rattle.octets.specs.Bytes.{Bytes}
use Rattle.octets.specs.Choice.{choose, both, either}
use Rattle.octets.specs.Text.{text}
use Rattle.octets.specs.Same.{same_bytes, place, one_of}
use Rattle.octets.proofs.ChoiceLaws.{both_first, both_second, not_true_false, same_test}
use Rattle.octets.proofs.SameLaws.{same_true, same_refl}
use Rattle.octets.proofs.NumberLaws.{EachByte}
use Rattle.values.specs.Run.{in_class, run_of}
use Rattle.values.proofs.RunLaws.{run_least, run_most, run_at}
use Rattle.values.specs.declared.run.Class.TheVariants.{Capital}

-- each code passes a test
unfoldable pub each : (Bytes → Bool) → List String → Bool
each f [] = true
each f (c ∷ cs) = both (f (text c)) (each f cs)

-- each code is so many capitals
unfoldable pub capitals : ℕ → List String → Bool
capitals w cs = each (run_of w w Capital) cs

-- n and the bytes behind it as one number, the first highest
unfoldable pub read_on : ℕ → Bytes → ℕ
read_on n [] = n
read_on n (b ∷ v) = read_on (n * 256 + b) v

-- the number of a value: its bytes, and a zero byte behind them
unfoldable pub number : Bytes → ℕ
number [] = 0
number (b ∷ v) = read_on b v * 256

unfoldable pub numbers : List String → List ℕ
numbers [] = []
numbers (c ∷ cs) = number (text c) ∷ numbers cs

-- ---- a value that is one of the codes is the first one or one of the others

ltb_suc : (a b : ℕ) → ltb (suc a) (suc b) ≡ ltb a b
ltb_suc a b = same_test (ltb (suc a) (suc b)) (ltb a b) (λ e. lt-ltb a b (omega (arith, ltb-true (suc a) (suc b) e))) (λ e. lt-ltb (suc a) (suc b) (omega (arith, ltb-true a b e)))

one_first : (c : String) (cs : List String) (v : Bytes) → one_of (c ∷ cs) v ≡ either (same_bytes v (text c)) (one_of cs v)
unfolding one_of place
one_first c cs v = by (same_bytes v (text c))
  where
    by : (t : Bool) → ltb (choose t 0 (suc (place cs v))) (suc (length cs)) ≡ either t (ltb (place cs v) (length cs))
    by true = lt-ltb 0 (suc (length cs)) (omega arith)
    by false = ltb_suc (place cs v) (length cs)

one_of_none : (v : Bytes) → one_of [] v ≡ true → ⊥
unfolding one_of place
one_of_none v o = false≢true o

one_of_more : (c : String) (cs : List String) (v : Bytes) → one_of (c ∷ cs) v ≡ true → (v ≡ text c) ⊎ (one_of cs v ≡ true)
one_of_more c cs v o = by (same_bytes v (text c)) refl (sym (one_first c cs v) ∙ o)
  where
    by : (t : Bool) → same_bytes v (text c) ≡ t → either t (one_of cs v) ≡ true → (v ≡ text c) ⊎ (one_of cs v ≡ true)
    by true e o = inl (same_true v (text c) e)
    by false e o = inr o

one_here : (c : String) (cs : List String) (v : Bytes) → v ≡ text c → one_of (c ∷ cs) v ≡ true
one_here c cs v e = one_first c cs v ∙ ap (λ t. either t (one_of cs v)) (ap (λ u. same_bytes u (text c)) e ∙ same_refl (text c))

one_later : (c : String) (cs : List String) (v : Bytes) → one_of cs v ≡ true → one_of (c ∷ cs) v ≡ true
one_later c cs v o = one_first c cs v ∙ by (same_bytes v (text c))
  where
    by : (t : Bool) → either t (one_of cs v) ≡ true
    by true = refl
    by false = o

-- what holds of each code holds of such a value
pub one_passes : (f : Bytes → Bool) (cs : List String) (v : Bytes) → each f cs ≡ true → one_of cs v ≡ true → f v ≡ true
unfolding each
one_passes f [] v a o = absurd (one_of_none v o)
one_passes f (c ∷ cs) v a o =
    ⊎_elim
    (λ e. ap f e ∙ both_first (f (text c)) (each f cs) a)
    (λ p. one_passes f cs v (both_second (f (text c)) (each f cs) a) p)
    (one_of_more c cs v o)

-- ---- so many capitals

module _ (w : ℕ) (v : Bytes) (e : run_of w w Capital v ≡ true) where
  capitals_length : length v ≡ w
  capitals_length = omega (arith, run_least w w Capital v e, run_most w w Capital v e)

  capitals_bytes : EachByte v
  capitals_bytes k = by (ltb k (length v)) refl
    where
      by : (t : Bool) → ltb k (length v) ≡ t → get_or v k 0 < 256
      by true l =
          let one : in_class Capital (get_or v k 0) ≡ true = run_at w w Capital v e k (ltb-true k (length v) l) in
          omega (arith, leb-true (get_or v k 0) (code "Z") (both_second (leb (code "A") (get_or v k 0)) _ one))
      by false l = rw (get_or-eq_default v 0 (ltb-false k (length v) l)) (omega arith)

-- ---- values of one length and of one number are the same

read_on-same : (n m : ℕ) (u v : Bytes) → length u ≡ length v → EachByte u → EachByte v → read_on n u ≡ read_on m v → (n ≡ m) × (u ≡ v)
unfolding read_on
read_on-same n m [] [] l f g e = (e, refl)
read_on-same n m [] (y ∷ v) l f g e = absurd (omega arith)
read_on-same n m (x ∷ u) [] l f g e = absurd (omega arith)
read_on-same n m (x ∷ u) (y ∷ v) l f g e =
    let rest = read_on-same (n * 256 + x) (m * 256 + y) u v (omega arith) (λ k. f (suc k)) (λ k. g (suc k)) e in
    let head : n * 256 + x ≡ m * 256 + y = rest.0 in
    let p : x < 256 = f 0 in
    let q : y < 256 = g 0 in
    (omega arith, ap₂ ◌∷◌ (omega arith) rest.1)

number_same : (u v : Bytes) → length u ≡ length v → EachByte u → EachByte v → number u ≡ number v → u ≡ v
unfolding number
number_same [] [] l f g e = refl
number_same [] (y ∷ v) l f g e = absurd (omega arith)
number_same (x ∷ u) [] l f g e = absurd (omega arith)
number_same (x ∷ u) (y ∷ v) l f g e =
    let n : read_on x u ≡ read_on y v = omega arith in
    let same = read_on-same x y u v (omega arith) (λ k. f (suc k)) (λ k. g (suc k)) n in
    ap₂ ◌∷◌ same.0 same.1

-- ---- the number of a value, read from its bytes

pub number_two : (v : Bytes) → length v ≡ 2 → from_be_bytes w32 (0 ∷ get_or v 0 0 ∷ get_or v 1 0 ∷ 0 ∷ []) ≡ number v
unfolding number read_on
number_two [] l = absurd (omega arith)
number_two (a ∷ []) l = absurd (omega arith)
number_two (a ∷ b ∷ []) l = omega arith
number_two (a ∷ b ∷ c ∷ v) l = absurd (omega arith)

pub number_three : (v : Bytes) → length v ≡ 3 → from_be_bytes w32 (get_or v 0 0 ∷ get_or v 1 0 ∷ get_or v 2 0 ∷ 0 ∷ []) ≡ number v
unfolding number read_on
number_three [] l = absurd (omega arith)
number_three (a ∷ []) l = absurd (omega arith)
number_three (a ∷ b ∷ []) l = absurd (omega arith)
number_three (a ∷ b ∷ c ∷ []) l = omega arith
number_three (a ∷ b ∷ c ∷ d ∷ v) l = absurd (omega arith)

-- ---- a value whose bytes were read one by one

-- the bytes u are those of v from k on
abbrev pub ReadFrom : ℕ → Bytes → Bytes → Type 0
ReadFrom k v [] = Unit {0}
ReadFrom k v (x ∷ u) = (x ≡ get_or v k 0) × ReadFrom (suc k) v u

-- ---- a number is the first of a list or one of the others

first_or_other : (k n : ℕ) (ks : List ℕ) → OneOf (k ∷ ks) n → (n ≡ k) ⊎ OneOf ks n
first_or_other k n [] h = inl h
first_or_other k n (l ∷ ks) h = h

to_first : (k n : ℕ) (ks : List ℕ) → n ≡ k → OneOf (k ∷ ks) n
to_first k n [] e = e
to_first k n (l ∷ ks) e = inl e

to_other : (k n : ℕ) (ks : List ℕ) → OneOf ks n → OneOf (k ∷ ks) n
to_other k n [] h = absurd h
to_other k n (l ∷ ks) h = inr h

-- ---- from the number to the code and back

to_code : (w : ℕ) (cs : List String) (v : Bytes) → capitals w cs ≡ true → length v ≡ w → EachByte v → OneOf (numbers cs) (number v) → one_of cs v ≡ true
unfolding capitals each numbers
to_code w [] v a l f h = absurd h
to_code w (c ∷ cs) v a l f h =
    let run : run_of w w Capital (text c) ≡ true = both_first (run_of w w Capital (text c)) _ a in
    ⊎_elim
    (λ e. one_here c cs v (number_same v (text c) (l ∙ sym (capitals_length w (text c) run)) f (capitals_bytes w (text c) run) e))
    (λ o. one_later c cs v (to_code w cs v (both_second (run_of w w Capital (text c)) _ a) l f o))
    (first_or_other (number (text c)) (number v) (numbers cs) h)

to_number : (cs : List String) (v : Bytes) → one_of cs v ≡ true → OneOf (numbers cs) (number v)
unfolding numbers
to_number [] v o = absurd (one_of_none v o)
to_number (c ∷ cs) v o =
    ⊎_elim
    (λ e. to_first (number (text c)) (number v) (numbers cs) (ap number e))
    (λ p. to_other (number (text c)) (number v) (numbers cs) (to_number cs v p))
    (one_of_more c cs v o)

-- ---- what a match on the number tells, for a list that passes the test

module _ (w : ℕ) (cs : List String) (test : capitals w cs ≡ true) (v : Bytes) where
  pub listed_capitals : one_of cs v ≡ true → run_of w w Capital v ≡ true
  unfolding capitals
  listed_capitals o = one_passes (run_of w w Capital) cs v test o

  pub other_length : (length v ≡ w → ⊥) → false ≡ one_of cs v
  other_length h = sym (not_true_false (one_of cs v) (λ o. h (capitals_length w v (listed_capitals o))))

  pub listed : (n : ℕ) → n ≡ number v → length v ≡ w → EachByte v → OneOf (numbers cs) n → true ≡ one_of cs v
  listed n e l f h = sym (to_code w cs v test l f (subst (OneOf (numbers cs)) e h))

  pub not_listed : (n : ℕ) → n ≡ number v → (OneOf (numbers cs) n → ⊥) → false ≡ one_of cs v
  not_listed n e h = sym (not_true_false (one_of cs v) (λ o. h (subst (OneOf (numbers cs)) (sym e) (to_number cs v o))))
