-- Searching, counting and changing rows as a list. Assumes nothing.
use Prim.Native.Nat.{ℕ, zero, suc, ◌+◌, ◌<◌, ◌≤◌}
use mathlib.Core.Bool.{Bool, true, false, false≢true}
use mathlib.Core.Path.{◌≡◌, refl, sym, ap, ◌∙◌}
use mathlib.Core.List.{List, [], ◌∷◌, ◌++◌}
use native.Mathlib.Nat.{add-zero}
use native.Mathlib.Omega.{arith}
use lib.ListN.{length}
use lib.Dec.{ltb}
use borrow.Author.Tests.{lt-ltb, le-ltb}
use Rattle.octets.specs.Bytes.{Bytes}
use Rattle.octets.specs.Choice.{choose, both, either}
use Rattle.octets.specs.Search.{first_from}
use Rattle.octets.proofs.SearchLaws.{first_from_lem, first_le}
use Rattle.ledger.specs.RowList.{list_from, count}

-- a row passes
unfoldable pub any_row : (Bytes → Bool) → List Bytes → Bool
any_row p [] = false
any_row p (r ∷ rs) = either (p r) (any_row p rs)

-- the first row that passes; where none does, no bytes
unfoldable pub found_row : (Bytes → Bool) → List Bytes → Bytes
found_row p [] = []
found_row p (r ∷ rs) = choose (p r) r (found_row p rs)

-- y in the place of the first row that passes, or behind the rows where none does
unfoldable pub put : (Bytes → Bool) → Bytes → List Bytes → List Bytes
put p y [] = y ∷ []
put p y (r ∷ rs) = choose (p r) (y ∷ rs) (r ∷ put p y rs)

-- ---- the values at a range of numbers

pub length_list : (f : ℕ → Bytes) (k d : ℕ) → length (list_from f k d) ≡ d
unfolding list_from
length_list f k zero = refl
length_list f k (suc d) = ap suc (length_list f (suc k) d)

pub list_same : (f g : ℕ → Bytes) (k d : ℕ) → ((i : ℕ) → k ≤ i → i < k + d → g i ≡ f i) → list_from g k d ≡ list_from f k d
unfolding list_from
list_same f g k zero e = refl
list_same f g k (suc d) e = rw (e k (omega arith) (omega arith), list_same f g (suc k) d (λ i h j. e i (omega arith) (omega arith)))

pub list_last : (f : ℕ → Bytes) (k d : ℕ) → list_from f k (suc d) ≡ list_from f k d ++ (f (k + d) ∷ [])
unfolding list_from
list_last f k zero = rw (add-zero k)
list_last f k (suc d) =
    let p : suc k + d ≡ k + suc d = omega arith in
    ap (λ rs. f k ∷ rs) (list_last f (suc k) d ∙ rw p)

-- ---- the list and the numbers

-- the first of the d numbers from k on whose value passes, or k + d where none does
abbrev pub first_passing : (Bytes → Bool) → (ℕ → Bytes) → ℕ → ℕ → ℕ
first_passing p f k d = first_from (λ i. p (f i)) k d

module _ (p : Bytes → Bool) where
  pub any_list : (f : ℕ → Bytes) (k d : ℕ) → any_row p (list_from f k d) ≡ ltb (first_passing p f k d) (k + d)
  unfolding list_from any_row first_from
  any_list f k zero = sym (le-ltb k (k + 0) (omega arith))
  any_list f k (suc d) = by (p (f k)) (any_list f (suc k) d)
    where
      by : (b : Bool) → any_row p (list_from f (suc k) d) ≡ ltb (first_passing p f (suc k) d) (suc k + d)
          → either b (any_row p (list_from f (suc k) d)) ≡ ltb (choose b k (first_passing p f (suc k) d)) (k + suc d)
      by true e = sym (lt-ltb k (k + suc d) (omega arith))
      by false e = let q : suc k + d ≡ k + suc d = omega arith in rw q at e

  pub first_list : (f : ℕ → Bytes) (k d : ℕ) → first_passing p f k d < k + d → found_row p (list_from f k d) ≡ f (first_passing p f k d)
  unfolding list_from found_row first_from
  first_list f k zero h = absurd (omega arith)
  first_list f k (suc d) h = by (p (f k)) h (first_list f (suc k) d)
    where
      by : (b : Bool) → choose b k (first_passing p f (suc k) d) < k + suc d
          → (first_passing p f (suc k) d < suc k + d → found_row p (list_from f (suc k) d) ≡ f (first_passing p f (suc k) d))
          → choose b (f k) (found_row p (list_from f (suc k) d)) ≡ f (choose b k (first_passing p f (suc k) d))
      by true h' e = refl
      by false h' e = e (omega arith)

  any_at : (f : ℕ → Bytes) (k d i : ℕ) → i < d → p (f (k + i)) ≡ true → any_row p (list_from f k d) ≡ true
  any_at f k d i h e = any_list f k d ∙ lt-ltb (first_passing p f k d) (k + d) (omega (arith, first_le (λ j. p (f j)) k d i h e))

  -- where the value at the first number that passes becomes y, and every other stays, y is put in the place of the first row that passes
  pub put_list : (f g : ℕ → Bytes) (y : Bytes) (k d : ℕ) → first_passing p f k d < k + d → g (first_passing p f k d) ≡ y
      → ((i : ℕ) → (i ≡ first_passing p f k d → ⊥) → g i ≡ f i) → list_from g k d ≡ put p y (list_from f k d)
  unfolding list_from put first_from
  put_list f g y k zero h e s = absurd (omega arith)
  put_list f g y k (suc d) h e s = by (p (f k)) h e s (put_list f g y (suc k) d)
    where
      by : (b : Bool) → choose b k (first_passing p f (suc k) d) < k + suc d → g (choose b k (first_passing p f (suc k) d)) ≡ y
          → ((i : ℕ) → (i ≡ choose b k (first_passing p f (suc k) d) → ⊥) → g i ≡ f i)
          → (first_passing p f (suc k) d < suc k + d → g (first_passing p f (suc k) d) ≡ y → ((i : ℕ) → (i ≡ first_passing p f (suc k) d → ⊥) → g i ≡ f i) → list_from g (suc k) d ≡ put p y (list_from f (suc k) d))
          → g k ∷ list_from g (suc k) d ≡ choose b (y ∷ list_from f (suc k) d) (f k ∷ put p y (list_from f (suc k) d))
      by true h' e' s' ih = rw (e', list_same f g (suc k) d (λ i a b. s' i (λ z. omega arith)))
      by false h' e' s' ih = rw (s' k (λ z. omega (arith, first_from_lem (λ i. p (f i)) (suc k) d)), ih (omega arith) e' s')

-- ---- one test

module _ (p : Bytes → Bool) where
  -- rows of which none passes
  by_none : (P : List Bytes → Type 0) → P [] → ((r : Bytes) (rs : List Bytes) → p r ≡ false → P rs → P (r ∷ rs)) → (rs : List Bytes) → any_row p rs ≡ false → P rs
  unfolding any_row
  by_none P start more [] e = start
  by_none P start more (r ∷ rs) e = by (p r) refl e (by_none P start more rs)
    where
      by : (b : Bool) → p r ≡ b → either b (any_row p rs) ≡ false → (any_row p rs ≡ false → P rs) → P (r ∷ rs)
      by true t e' ih = absurd (false≢true (sym e'))
      by false t e' ih = more r rs t (ih e')

  pub none_first : (rs : List Bytes) → any_row p rs ≡ false → found_row p rs ≡ []
  unfolding found_row
  none_first = by_none (λ rs. found_row p rs ≡ []) refl (λ r rs n ih. rw n ih)

  pub none_count : (rs : List Bytes) → any_row p rs ≡ false → count p rs ≡ 0
  unfolding count
  none_count = by_none (λ rs. count p rs ≡ 0) refl (λ r rs n ih. rw n ih)

  pub count_none : (rs : List Bytes) → count p rs ≡ 0 → any_row p rs ≡ false
  unfolding any_row count
  count_none [] e = refl
  count_none (r ∷ rs) e = by (p r) e (count_none rs)
    where
      by : (b : Bool) → choose b (suc (count p rs)) (count p rs) ≡ 0 → (count p rs ≡ 0 → any_row p rs ≡ false) → either b (any_row p rs) ≡ false
      by true e' ih = absurd (omega arith)
      by false e' ih = ih e'

  pub first_passes : (rs : List Bytes) → any_row p rs ≡ true → p (found_row p rs) ≡ true
  unfolding any_row found_row
  first_passes [] e = absurd (false≢true e)
  first_passes (r ∷ rs) e = by (p r) refl e (first_passes rs)
    where
      by : (b : Bool) → p r ≡ b → either b (any_row p rs) ≡ true → (any_row p rs ≡ true → p (found_row p rs) ≡ true) → p (choose b r (found_row p rs)) ≡ true
      by true t e' ih = t
      by false t e' ih = ih e'

  -- ---- a row is put

  pub put_new : (rs : List Bytes) (y : Bytes) → any_row p rs ≡ false → put p y rs ≡ rs ++ (y ∷ [])
  unfolding put
  put_new rs y = by_none (λ rest. put p y rest ≡ rest ++ (y ∷ [])) refl (λ r rest n ih. rw n (ap (λ more. r ∷ more) ih)) rs

-- ---- two tests

module _ (p q : Bytes → Bool) where
  -- the row that y replaces, where there is one, is no longer counted, and y is
  pub count_put : (rs : List Bytes) (y : Bytes) → count q (put p y rs) + choose (both (any_row p rs) (q (found_row p rs))) 1 0 ≡ count q rs + choose (q y) 1 0
  unfolding any_row found_row put count
  count_put [] y = by (q y)
    where
      by : (b : Bool) → choose b 1 0 + 0 ≡ 0 + choose b 1 0
      by true = refl
      by false = refl
  count_put (r ∷ rs) y = by (p r) (count_put rs y)
    where
      one : (b c : Bool) (n : ℕ) → choose c (suc n) n + choose b 1 0 ≡ choose b (suc n) n + choose c 1 0
      one true true n = refl
      one true false n = omega arith
      one false true n = omega arith
      one false false n = refl

      more : (b : Bool) (n m i j : ℕ) → n + i ≡ m + j → choose b (suc n) n + i ≡ choose b (suc m) m + j
      more true n m i j h = omega arith
      more false n m i j h = h

      by : (b : Bool) → count q (put p y rs) + choose (both (any_row p rs) (q (found_row p rs))) 1 0 ≡ count q rs + choose (q y) 1 0
          → count q (choose b (y ∷ rs) (r ∷ put p y rs)) + choose (both (either b (any_row p rs)) (q (choose b r (found_row p rs)))) 1 0 ≡ choose (q r) (suc (count q rs)) (count q rs) + choose (q y) 1 0
      by true ih = one (q r) (q y) (count q rs)
      by false ih = more (q r) _ _ _ _ ih

  pub count_other : (rs : List Bytes) (y : Bytes) → q y ≡ false → count q (put p y rs) ≤ count q rs
  count_other rs y n =
      let h : count q (put p y rs) + choose (both (any_row p rs) (q (found_row p rs))) 1 0 ≡ count q rs + 0 = count_put rs y ∙ rw n in
      omega arith

-- where one row at most passes, one at most passes after
pub count_own : (p : Bytes → Bool) (rs : List Bytes) (y : Bytes) → p y ≡ true → count p rs ≤ 1 → count p (put p y rs) ≤ 1
count_own p rs y t one = by (any_row p rs) refl (rw t at (count_put p p rs y))
  where
    by : (b : Bool) → any_row p rs ≡ b → count p (put p y rs) + choose (both (any_row p rs) (p (found_row p rs))) 1 0 ≡ count p rs + 1 → count p (put p y rs) ≤ 1
    by true e h =
        let h' : count p (put p y rs) + 1 ≡ count p rs + 1 = rw (e, first_passes p rs e) at h in
        omega arith
    by false e h =
        let h' : count p (put p y rs) + 0 ≡ count p rs + 1 = rw e at h in
        omega (arith, none_count p rs e)

-- and no two places have one
pub one_place : (p : Bytes → Bool) (f : ℕ → Bytes) (d k i j : ℕ) → count p (list_from f k d) ≤ 1 → i < j → j < d → p (f (k + i)) ≡ true → p (f (k + j)) ≡ true → ⊥
unfolding list_from count
one_place p f zero k i j one h b e g = omega arith
one_place p f (suc d) k zero zero one h b e g = omega arith
one_place p f (suc d) k (suc i) zero one h b e g = omega arith
one_place p f (suc d) k zero (suc j) one h b e g =
    let at : f (k + suc j) ≡ f (suc k + j) = ap f (omega arith) in
    let some : any_row p (list_from f (suc k) d) ≡ true = any_at p f (suc k) d j (omega arith) (sym (ap p at) ∙ g) in
    let here : p (f k) ≡ true = rw (add-zero k) at e in
    let rest : suc (count p (list_from f (suc k) d)) ≤ 1 = rw here at one in
    false≢true (sym (count_none p (list_from f (suc k) d) (omega arith)) ∙ some)
one_place p f (suc d) k (suc i) (suc j) one h b e g =
    let at : f (k + suc i) ≡ f (suc k + i) = ap f (omega arith) in
    let to : f (k + suc j) ≡ f (suc k + j) = ap f (omega arith) in
    one_place p f d (suc k) i j (fewer (p (f k)) one) (omega arith) (omega arith) (sym (ap p at) ∙ e) (sym (ap p to) ∙ g)
  where
    fewer : (b : Bool) → choose b (suc (count p (list_from f (suc k) d))) (count p (list_from f (suc k) d)) ≤ 1 → count p (list_from f (suc k) d) ≤ 1
    fewer true o = omega arith
    fewer false o = o
