-- Laws of specs/Same.antt. Assumes nothing.
use mathlib.Core.Path.{◌≡◌, refl, sym, ap, ap₂, ◌∙◌}
use mathlib.Core.Bool.{Bool, true, false, false≢true, ◌||◌, ◌&&◌, cond, not}
use mathlib.Core.List.{List, [], ◌∷◌, ◌++◌, append_assoc, map}
use Prim.Native.Nat.compare
use Prim.Native.Nat.{ℕ, zero, suc, ◌+◌, ◌-◌, ◌*◌, ◌<◌, ◌≤◌}
use Prim.Native.String.{String}
use native.Mathlib.Omega.{arith}
use native.Mathlib.Nat.{suc-mul, zero-mul, add-zero, zero-add}
use lib.ListN.{length, get_or, take, drop, length-append, take-append-drop, drop_of_length-le}
use lib.Seq.{drop-cons, take_at, drop_at, drop-length}
use lib.Dec.{ltb, eqb}
use Rattle.std.specs.List.{All, concat, position, position_or_len, list_any}
use Rattle.std.specs.Cmp.Lexicographic.{pointwise}
use Rattle.std.specs.Bool.{Decides}
use Rattle.std.specs.Option.{MatchOption, option_eq}
use Rattle.std.specs.Borrow.{Bor}
use Rattle.std.specs.Prelude.{Option, Some, None}
use Rattle.std.proofs.lemmas.List.{length-map}
use Rattle.std.proofs.lemmas.Bool.Decides.{same_from_decides}
use borrow.Author.Tests.{eqb-true, eq-eqb, lt-ltb}
use Rattle.octets.specs.Bytes.{Bytes}
use Rattle.octets.specs.Choice.{choose, both}
use Rattle.octets.specs.Search.{first_from}
use Rattle.octets.specs.Part.{part}
use Rattle.octets.specs.Text.{text}
use Rattle.octets.proofs.ChoiceLaws.{both_first, both_second, not_true_false}
use Rattle.octets.specs.Same.{same_bytes, place_among, place, one_of, look_up}

-- ---- the test tells equality

pub same_refl : (xs : Bytes) → same_bytes xs xs ≡ true
unfolding same_bytes
same_refl [] = refl
same_refl (x ∷ xs) = rw (eq-eqb x x refl) (same_refl xs)

-- it is what `==` of two slices of bytes answers
pub same_pointwise : (xs ys : Bytes) → pointwise eqb xs ys ≡ same_bytes xs ys
unfolding same_bytes
same_pointwise [] [] = refl
same_pointwise [] (y ∷ ys) = refl
same_pointwise (x ∷ xs) [] = refl
same_pointwise (x ∷ xs) (y ∷ ys) = rw (same_pointwise xs ys) (by (eqb x y))
  where
    by : (t : Bool) → (t && same_bytes xs ys) ≡ both t (same_bytes xs ys)
    by true = refl
    by false = refl

same_cons : (x y : ℕ) (xs ys : Bytes) (t : Bool) → eqb x y ≡ t → (same_bytes xs ys ≡ true → xs ≡ ys) → same_bytes (x ∷ xs) (y ∷ ys) ≡ true → x ∷ xs ≡ y ∷ ys
unfolding same_bytes
same_cons x y xs ys true e rec h =
    let t : x ≡ y = eqb-true x y e in
    let u : xs ≡ ys = rec (rw e at h) in
    cc
same_cons x y xs ys false e rec h =
    let z : false ≡ true = rw e at h in
    cc

-- behind the end nothing differs
pub ends_same : (xs ys : Bytes) → length xs ≡ length ys → drop (length xs) xs ≡ drop (length xs) ys
ends_same xs ys l =
    let past : length ys ≤ length xs = omega arith in
    drop-length xs ∙ sym (drop_of_length-le ys past)

pub same_true : (xs ys : Bytes) → same_bytes xs ys ≡ true → xs ≡ ys
unfolding same_bytes
same_true [] [] h = refl
same_true [] (y ∷ ys) h = cc
same_true (x ∷ xs) [] h = cc
same_true (x ∷ xs) (y ∷ ys) h = same_cons x y xs ys (eqb x y) refl (same_true xs ys) h

pub same_decides : (xs ys : Bytes) → Decides (same_bytes xs ys) (xs ≡ ys)
same_decides xs ys = (same_true xs ys, λ e. ap (same_bytes xs) (sym e) ∙ same_refl xs)

pub same_false : (xs ys : Bytes) → (xs ≡ ys → ⊥) → same_bytes xs ys ≡ false
same_false xs ys h = not_true_false (same_bytes xs ys) (λ t. h (same_true xs ys t))

-- bytes that the test tells apart differ
pub same_apart : (xs ys : Bytes) → same_bytes xs ys ≡ false → xs ≡ ys → ⊥
same_apart xs ys e p = false≢true (sym e ∙ ap (same_bytes xs) (sym p) ∙ same_refl xs)

-- bytes with their last n: these are apart, or those before them decide
pub ends_apart : (n : ℕ) (xs ys : Bytes) → (drop (length xs - n) xs ≡ drop (length ys - n) ys → ⊥) → same_bytes xs ys ≡ false
ends_apart n xs ys h = same_false xs ys (λ e. h (ap (λ (l : Bytes). drop (length l - n) l) e))

pub fronts_decide : (n : ℕ) (xs ys : Bytes) → drop (length xs - n) xs ≡ drop (length ys - n) ys → same_bytes (take (length xs - n) xs) (take (length ys - n) ys) ≡ same_bytes xs ys
fronts_decide n xs ys e =
    same_from_decides
    _
    _ (
      (λ t. sym (take-append-drop (length xs - n) xs) ∙ ap₂ ◌++◌ (same_true _ _ t) e ∙ take-append-drop (length ys - n) ys),
      (λ p. ap (λ (l : Bytes). same_bytes (take (length l - n) l) (take (length ys - n) ys)) p ∙ same_refl _),
    )
    (same_decides xs ys)

-- what `!=` of two arrays of bytes answers
pub ne_true : (xs ys : Bytes) → not (pointwise eqb xs ys) ≡ true → xs ≡ ys → ⊥
ne_true xs ys h e = false≢true (ap not (sym (same_refl ys) ∙ ap (λ (l : Bytes). same_bytes l ys) (sym e) ∙ sym (same_pointwise xs ys)) ∙ h)

pub ne_false : (xs ys : Bytes) → not (pointwise eqb xs ys) ≡ false → xs ≡ ys
ne_false xs ys h = same_true xs ys (sym (same_pointwise xs ys) ∙ by (pointwise eqb xs ys) h)
  where
    by : (t : Bool) → not t ≡ false → t ≡ true
    by true e = refl
    by false e = sym e

-- a part is asked of xs twice, where xs has one: `==` of the answers passes
same_chunks : {n : ℕ} {Is : Bytes → Type 0} (xs part : Bytes) (r s : Option (Bor Bytes)) → ((y : Bytes) → Is y → (n ≤ length xs) × (y ≡ part)) → MatchOption r (length xs < n) (λ y. Is y.now) → MatchOption s (length xs < n) (λ y. Is y.now) → option_eq (λ x y. pointwise eqb x.now y.now) r s ≡ true
same_chunks xs part None None is h k = refl
same_chunks xs part None (Some y) is h k = absurd (omega (arith, (is y.now k).0))
same_chunks xs part (Some x) None is h k = absurd (omega (arith, (is x.now h).0))
same_chunks xs part (Some x) (Some y) is h k = rw ((is x.now h).1, (is y.now k).1) (same_pointwise part part ∙ same_refl part)

-- so where it fails of the answers for a and for b, these differ
pub chunks_apart : {n : ℕ} {Is : Bytes → Type 0} (a b part : Bytes) (r s : Option (Bor Bytes)) → MatchOption r (length a < n) (λ y. Is y.now) → (a ≡ b → MatchOption s (length a < n) (λ y. Is y.now)) → ((y : Bytes) → Is y → (n ≤ length a) × (y ≡ part)) → not (option_eq (λ x y. pointwise eqb x.now y.now) r s) ≡ true → false ≡ same_bytes a b
chunks_apart a b part r s h k is t = sym (same_false a b (λ e. false≢true (ap not (sym (same_chunks a part r s is h (k e))) ∙ t)))

-- ---- a chain of tests, one for each code: at test k the first k codes are passed

module _ {ℓ} {A : Type ℓ} (table : List (String × A)) (other : A) (k : ℕ) (h : k < length table) (v : Bytes) (b : Bool) where
  pub look_up_found : b ≡ same_bytes v (text (get_or table k ("", other)).0) → b ≡ true → (get_or table k ("", other)).1 ≡ look_up (drop k table) other v
  unfolding look_up
  look_up_found e t = rw (drop-cons table k ("", other) h, sym e ∙ t)

  pub look_up_next : b ≡ same_bytes v (text (get_or table k ("", other)).0) → b ≡ false → look_up (drop k table) other v ≡ look_up (drop (suc k) table) other v
  unfolding look_up
  look_up_next e t = rw (drop-cons table k ("", other) h, sym e ∙ t)

-- ---- a search of a list of codes

-- the search is at code k; before it stand the bytes p
rows_from : (w : ℕ) (v : Bytes) (codes : List Bytes) (p : Bytes) (k : ℕ) → All (λ c. length c ≡ w) codes → length p ≡ k * w → first_from (λ j. same_bytes v (part (p ++ concat codes) (j * w) w)) k (length codes) ≡ k + position_or_len (same_bytes v) codes
unfolding first_from
rows_from w v [] p k e l = sym (add-zero k)
rows_from w v (c ∷ cs) p k e l =
    let size : length c ≡ w = e 0 [] (omega arith) in
    let more : length (p ++ c) ≡ suc k * w = rw (length-append, l, size, suc-mul) in
    let here : part (p ++ (c ++ concat cs)) (k * w) w ≡ c = rw (drop_at p (c ++ concat cs) (k * w) l) (take_at c (concat cs) w size) in
    let rest : first_from (λ j. same_bytes v (part (p ++ (c ++ concat cs)) (j * w) w)) (suc k) (length cs) ≡ suc k + position_or_len (same_bytes v) cs =
    ap (λ (s : Bytes). first_from (λ j. same_bytes v (part s (j * w) w)) (suc k) (length cs)) (sym (append_assoc p c (concat cs)))
    ∙ rows_from w v cs (p ++ c) (suc k) (λ i d h. e (suc i) d (omega arith)) more in
    rw (here, rest) (by (same_bytes v c))
  where
    by : (t : Bool) → choose t k (suc k + position_or_len (same_bytes v) cs) ≡ k + cond (not t) (1 + position_or_len (same_bytes v) cs) 0
    by true = sym (add-zero k)
    by false = omega arith

-- the place of a value in a list of codes of one width is that in the codes written one after the other
pub place_rows : (w : ℕ) (codes : List Bytes) (v : Bytes) → All (λ c. length c ≡ w) codes → place_among w (length codes) (concat codes) v ≡ position_or_len (same_bytes v) codes
unfolding place_among
place_rows w codes v e = rows_from w v codes [] 0 e (sym (zero-mul w)) ∙ zero-add _

-- codes that are the texts of strings
module _ (v : Bytes) where
  place_texts : (cs : List String) → position_or_len (same_bytes v) (map text cs) ≡ place cs v
  unfolding place
  place_texts [] = refl
  place_texts (c ∷ cs) = rw (place_texts cs) (by (same_bytes v (text c)))
    where
      by : (t : Bool) → cond (not t) (1 + place cs v) 0 ≡ choose t 0 (suc (place cs v))
      by true = refl
      by false = omega arith

  pub place_listed : (cs : List String) → position (same_bytes v) (map text cs) ≡ choose (one_of cs v) (Some (place cs v)) None
  unfolding one_of
  place_listed cs = rw (place_texts cs, length-map) (by (ltb (place cs v) (length cs)))
    where
      by : (t : Bool) → cond t (Some (place cs v)) None ≡ choose t (Some (place cs v)) None
      by true = refl
      by false = refl

  pub one_listed : (cs : List String) → list_any (same_bytes v) (map text cs) ≡ one_of cs v
  unfolding one_of place
  one_listed [] = refl
  one_listed (c ∷ cs) = by (same_bytes v (text c)) (one_listed cs)
    where
      by : (t : Bool) → list_any (same_bytes v) (map text cs) ≡ one_of cs v → (t || list_any (same_bytes v) (map text cs)) ≡ ltb (choose t 0 (suc (place cs v))) (suc (length cs))
      by true e = sym (lt-ltb 0 (suc (length cs)) (omega arith))
      by false e = rw compare.suc-suc e

-- ---- codes of one width, written one after the other

unfoldable pub row : List String → Bytes
row [] = []
row (c ∷ cs) = text c ++ row cs

-- each code has the width
unfoldable pub wide : ℕ → List String → Bool
wide w [] = true
wide w (c ∷ cs) = both (eqb (length (text c)) w) (wide w cs)

row_texts : (cs : List String) → row cs ≡ concat (map text cs)
unfolding row
row_texts [] = refl
row_texts (c ∷ cs) = ap (λ (l : Bytes). text c ++ l) (row_texts cs)

wide_texts : (w : ℕ) (cs : List String) → wide w cs ≡ true → All (λ c. length c ≡ w) (map text cs)
unfolding wide
wide_texts w [] e k d h = absurd (omega arith)
wide_texts w (c ∷ cs) e zero d h = eqb-true (length (text c)) w (both_first (eqb (length (text c)) w) (wide w cs) e)
wide_texts w (c ∷ cs) e (suc k) d h = wide_texts w cs (both_second (eqb (length (text c)) w) (wide w cs) e) k d (omega arith)

pub among : (w : ℕ) (cs : List String) (v : Bytes) → wide w cs ≡ true → place_among w (length cs) (row cs) v ≡ place cs v
among w cs v e = rw (row_texts cs) (ap (λ n. place_among w n (concat (map text cs)) v) (sym (length-map cs text)) ∙ place_rows w (map text cs) v (wide_texts w cs e) ∙ place_texts v cs)

pub one_among : (w : ℕ) (cs : List String) (v : Bytes) → wide w cs ≡ true → ltb (place_among w (length cs) (row cs) v) (length cs) ≡ one_of cs v
unfolding one_of
one_among w cs v e = ap (λ k. ltb k (length cs)) (among w cs v e)
