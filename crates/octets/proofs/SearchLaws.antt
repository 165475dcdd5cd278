-- Laws of specs/Search.antt, for a loop that counts up from 0 to n. Assumes nothing.
use Prim.Native.Nat.{ℕ, zero, suc, ◌+◌, ◌-◌, ◌<◌, ◌≤◌}
use native.Mathlib.Numerals.{add-one}
use native.Mathlib.Nat.{add-zero, not-suc-le-zero, le_of_suc-le-suc}
use native.Mathlib.Omega.{arith}
use mathlib.Core.Bool.{Bool, true, false}
use mathlib.Core.Path.{◌≡◌, refl, ap}
use Rattle.octets.specs.Choice.{choose, both}
use Rattle.octets.specs.Search.{first_from, all_from}
use Rattle.octets.proofs.WriteLaws.{left_one}
use Rattle.octets.proofs.ChoiceLaws.{both_first, both_second}

-- a turn of the loop at k
module _ (f : ℕ → Bool) (k n : ℕ) (h : k < n) where
  pub first_more : f k ≡ false → first_from f k (n - k) ≡ first_from f (k + 1) (n - (k + 1))
  unfolding first_from
  first_more e = rw (left_one n k h, e, ← add-one k)

  pub first_stop : f k ≡ true → first_from f k (n - k) ≡ k
  unfolding first_from
  first_stop e = rw (left_one n k h, e)

  pub all_more : f k ≡ true → all_from f k (n - k) ≡ all_from f (k + 1) (n - (k + 1))
  unfolding all_from
  all_more e = rw (left_one n k h, e, ← add-one k)

  pub all_stop : f k ≡ false → all_from f k (n - k) ≡ false
  unfolding all_from
  all_stop e = rw (left_one n k h, e)

-- the loop's end
module _ (f : ℕ → Bool) (k n : ℕ) (h : n ≤ k) where
  none_left : n - k ≡ 0
  none_left = omega arith

  pub first_end : first_from f k (n - k) ≡ k
  unfolding first_from
  first_end = rw none_left

  pub all_end : all_from f k (n - k) ≡ true
  unfolding all_from
  all_end = rw none_left

-- what a test of a range tells of a number in it
pub all_at : (f : ℕ → Bool) (k d i : ℕ) → i < d → all_from f k d ≡ true → f (k + i) ≡ true
unfolding all_from
all_at f k zero i h e = absurd (not-suc-le-zero h)
all_at f k (suc d) zero h e = rw (add-zero k) (both_first (f k) (all_from f (suc k) d) e)
all_at f k (suc d) (suc i) h e =
    let p : suc k + i ≡ k + suc i = omega arith in
    rw p at (all_at f (suc k) d i (le_of_suc-le-suc h) (both_second (f k) (all_from f (suc k) d) e))

-- the range one on, as the range of the test one on
pub all_shift : (f : ℕ → Bool) (k d : ℕ) → all_from f (suc k) d ≡ all_from (λ i. f (suc i)) k d
unfolding all_from
all_shift f k zero = refl
all_shift f k (suc d) = ap (both (f (suc k))) (all_shift f (suc k) d)

-- the first number that passes f passes f, and is in the range or just past it
pub first_passes : (f : ℕ → Bool) (k d : ℕ) → first_from f k d < k + d → f (first_from f k d) ≡ true
unfolding first_from
first_passes f k zero h = absurd (omega arith)
first_passes f k (suc d) h = go (f k) refl h (first_passes f (suc k) d)
  where
    go : (t : Bool) → f k ≡ t → choose t k (first_from f (suc k) d) < k + suc d → (first_from f (suc k) d < suc k + d → f (first_from f (suc k) d) ≡ true) → f (choose t k (first_from f (suc k) d)) ≡ true
    go true e h' ih = e
    go false e h' ih = ih (omega arith)

-- a number that passes f is not before the first one
pub first_le : (f : ℕ → Bool) (k d i : ℕ) → i < d → f (k + i) ≡ true → first_from f k d ≤ k + i
unfolding first_from
first_le f k zero i h e = absurd (not-suc-le-zero h)
first_le f k (suc d) zero h e =
    let p : f k ≡ true = rw (add-zero k) at e in
    rw p (omega arith)
first_le f k (suc d) (suc i) h e =
    let p : k + suc i ≡ suc k + i = omega arith in
    go (f k) (first_le f (suc k) d i (le_of_suc-le-suc h) (rw p at e))
  where
    go : (t : Bool) → first_from f (suc k) d ≤ suc k + i → choose t k (first_from f (suc k) d) ≤ k + suc i
    go true l = omega arith
    go false l = omega arith

-- the first one is not before the range
pub first_from_lem : (f : ℕ → Bool) (k d : ℕ) → k ≤ first_from f k d
unfolding first_from
first_from_lem f k zero = omega arith
first_from_lem f k (suc d) = go (f k) (first_from_lem f (suc k) d)
  where
    go : (t : Bool) → suc k ≤ first_from f (suc k) d → k ≤ choose t k (first_from f (suc k) d)
    go true l = omega arith
    go false l = omega arith

-- nor behind it
pub first_most : (f : ℕ → Bool) (k d : ℕ) → first_from f k d ≤ k + d
unfolding first_from
first_most f k zero = omega arith
first_most f k (suc d) = go (f k) (first_most f (suc k) d)
  where
    go : (t : Bool) → first_from f (suc k) d ≤ suc k + d → choose t k (first_from f (suc k) d) ≤ k + suc d
    go true l = omega arith
    go false l = omega arith

-- two tests that agree on the range have the same first number
pub first_same : (f g : ℕ → Bool) (k d : ℕ) → ((i : ℕ) → i < k + d → f i ≡ g i) → first_from f k d ≡ first_from g k d
unfolding first_from
first_same f g k zero e = refl
first_same f g k (suc d) e =
    let here : f k ≡ g k = e k (omega arith) in
    rw (here, first_same f g (suc k) d (λ i h. e i (omega arith)))

-- the range with one number more at its end: the first one stays, or it is asked of that number
pub first_stays : (f : ℕ → Bool) (k d : ℕ) → first_from f k d < k + d → first_from f k (suc d) ≡ first_from f k d
unfolding first_from
first_stays f k zero h = absurd (omega arith)
first_stays f k (suc d) h = go (f k) h (first_stays f (suc k) d)
  where
    go : (t : Bool) → choose t k (first_from f (suc k) d) < k + suc d → (first_from f (suc k) d < suc k + d → first_from f (suc k) (suc d) ≡ first_from f (suc k) d) → choose t k (first_from f (suc k) (suc d)) ≡ choose t k (first_from f (suc k) d)
    go true h' ih = refl
    go false h' ih = ih (omega arith)

pub first_last : (f : ℕ → Bool) (k d : ℕ) → k + d ≤ first_from f k d → first_from f k (suc d) ≡ choose (f (k + d)) (k + d) (suc (k + d))
unfolding first_from
first_last f k zero h = rw (add-zero k)
first_last f k (suc d) h = go (f k) h (first_last f (suc k) d)
  where
    go : (t : Bool) → k + suc d ≤ choose t k (first_from f (suc k) d) → (suc k + d ≤ first_from f (suc k) d → first_from f (suc k) (suc d) ≡ choose (f (suc k + d)) (suc k + d) (suc (suc k + d))) → choose t k (first_from f (suc k) (suc d)) ≡ choose (f (k + suc d)) (k + suc d) (suc (k + suc d))
    go true h' ih = absurd (omega arith)
    go false h' ih =
        let p : suc k + d ≡ k + suc d = omega arith in
        rw p at (ih (omega arith))
