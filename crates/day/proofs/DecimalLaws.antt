-- The number of digits of a report's numbers is the fewest that hold them. Assumes nothing.
use Prim.Native.Nat.{ℕ, zero, suc, ◌-◌, ◌*◌, ◌/◌, ◌^◌, ◌<◌, ◌≤◌}
use mathlib.Core.Path.{◌≡◌}
use native.Mathlib.Nat.{div-lt_iff_lt-mul, le-div_iff_mul-le, pow-suc}
use native.Mathlib.Decide.{dec_lt}
use native.Mathlib.Omega.{arith}
use borrow.Author.Tests.{lt-ltb, le-ltb}
use Rattle.day.specs.Report.{most_digits, digits_from, digit_count, DecimalFewest}

some_digits : (d k v : ℕ) → k ≤ digits_from d k v
unfolding digits_from
some_digits zero k v = omega arith
some_digits (suc d) k v =
    elim (dec_lt v 10) [
      | yes l ↦ rw (lt-ltb v 10 l) (omega arith)
      | no l ↦ rw (le-ltb v 10 (omega (arith, l))) (omega (arith, some_digits d (suc k) (v / 10)))
    ]

enough_digits : (d k v : ℕ) → v < 10 ^ suc d → v < 10 ^ suc (digits_from d k v - k)
unfolding digits_from
enough_digits zero k v h =
    let one : k - k ≡ 0 = omega arith in
    rw one h
enough_digits (suc d) k v h =
    elim (dec_lt v 10) [
      | yes l ↦
          let one : k - k ≡ 0 = omega arith in
          rw (lt-ltb v 10 l, one) l
      | no l ↦
          let rest : v / 10 < 10 ^ suc d = (div-lt_iff_lt-mul {k = 10} (omega arith)).1 (rw pow-suc at h) in
          let more : v < 10 ^ suc (digits_from d (suc k) (v / 10) - suc k) * 10 = (div-lt_iff_lt-mul {k = 10} (omega arith)).0 (enough_digits d (suc k) (v / 10) rest) in
          let place : digits_from d (suc k) (v / 10) - k ≡ suc (digits_from d (suc k) (v / 10) - suc k) = omega (arith, some_digits d (suc k) (v / 10)) in
          rw (le-ltb v 10 (omega (arith, l)), place, pow-suc 10 (suc (digits_from d (suc k) (v / 10) - suc k))) more
    ]

-- one digit, or more of what is left
fewest_more : (v r k : ℕ) → suc k ≤ r → 10 ≤ v → (suc k < r → 10 ^ (r - suc k) ≤ v / 10) → 10 ^ (r - k) ≤ v
fewest_more v r k h l more =
    elim (dec_lt (suc k) r) [
      | yes m ↦
          let place : r - k ≡ suc (r - suc k) = omega (arith, m) in
          let all : 10 ^ (r - suc k) * 10 ≤ v = (le-div_iff_mul-le {k = 10} (omega arith)).0 (more m) in
          rw (place, pow-suc 10 (r - suc k)) all
      | no m ↦
          let place : r - k ≡ 1 = omega (arith, m, h) in
          rw place l
    ]

fewest_digits : (d k v : ℕ) → k < digits_from d k v → 10 ^ (digits_from d k v - k) ≤ v
unfolding digits_from
fewest_digits zero k v h = absurd (omega (arith, h))
fewest_digits (suc d) k v h =
    elim (dec_lt v 10) [
      | yes l ↦ absurd (omega (arith, rw (lt-ltb v 10 l) at h))
      | no l ↦ rw (le-ltb v 10 (omega (arith, l))) (fewest_more v (digits_from d (suc k) (v / 10)) k (some_digits d (suc k) (v / 10)) (omega (arith, l)) (fewest_digits d (suc k) (v / 10)))
    ]

pub decimal_fewest : DecimalFewest
unfolding digit_count
decimal_fewest n h =
    let place : suc (digits_from (most_digits - 1) 1 n - 1) ≡ digits_from (most_digits - 1) 1 n = omega (arith, some_digits (most_digits - 1) 1 n) in
    (rw place at (enough_digits (most_digits - 1) 1 n h), fewest_digits (most_digits - 1) 1 n)
