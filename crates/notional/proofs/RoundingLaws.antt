-- Laws of specs/Rounding.antt: a step rounds to the nearest, rounding keeps the order, and rounding what is rounded changes nothing. Assumes nothing.
use Prim.Native.Nat.{ℕ, ◌+◌, ◌*◌, ◌/◌, ◌%◌, ◌<◌, ◌≤◌}
use mathlib.Core.Bool.{Bool, true, false}
use mathlib.Core.List.{List, [], ◌∷◌}
use mathlib.Core.Logic.{◌⊎◌, inl, inr}
use mathlib.Core.Path.{◌≡◌, refl, sym, ap, ap₂, ◌∙◌}
use native.Mathlib.Omega.{arith}
use native.Mathlib.Nat.{div-div-eq-div-mul, mul-div-mul_left, div-mul-le_self, lt-div-mul-add, div-add-mod', div-eq_of_lt-le, le-div_iff_mul-le, mul-mod_left, mul-le-mul_left, mul-le-mul_right, mul_assoc, mul_left_comm, add-mul, le_trans}
use lib.Dec.{ltb, leb, eqb}
use borrow.Author.Tests.{ltb-true, ltb-false, leb-true, eqb-true}
use Rattle.octets.specs.Choice.{both}
use Rattle.octets.proofs.ChoiceLaws.{both_first, both_second}
use Rattle.notional.specs.Amount.{unit}
use Rattle.notional.specs.Rounding.{bands, last_step, step_in, step, nearest, NearestStep, least_shown, rounded}
use Rattle.notional.specs.Laws.{RoundedAgain}
use Rattle.notional.proofs.BandLaws.{step_here, step_after}

-- ---- rounding by halves of a unit: one law for every step

abbrev pub half_unit : ℕ
half_unit = 50_000

pub nearest_by_halves : (s w f : ℕ) → (2 * w + f / half_unit + s) / (2 * s) * s ≡ nearest s (w * unit + f)
unfolding nearest
nearest_by_halves s w f =
    let x : ℕ = (2 * w + s) * half_unit + f in
    let halves : 2 * w + f / half_unit + s ≡ x / half_unit = omega arith in
    let twice : 2 * x ≡ 2 * (w * unit + f) + s * unit = omega arith in
    let steps : 2 * (half_unit * (2 * s)) ≡ 2 * (s * unit) = omega arith in
    ap (λ (q : ℕ). q * s) (
    ap (λ (m : ℕ). m / (2 * s)) halves
    ∙ div-div-eq-div-mul x half_unit (2 * s)
    ∙ sym (mul-div-mul_left x (half_unit * (2 * s)) (omega arith))
    ∙ ap₂ (λ (m k : ℕ). m / k) twice steps
    )

pub half_back : (x s : ℕ) → x / (2 * s) * s ≤ x
half_back x s = le_trans (mul-le-mul_left (x / (2 * s)) (omega arith)) (div-mul-le_self x (2 * s))

-- ---- the nearest multiple of one step

module _ (s : ℕ) (pos : 0 < s) where
  nearest_monotone : (a b : ℕ) → a ≤ b → nearest s a ≤ nearest s b
  unfolding nearest
  nearest_monotone a b h =
      let k : ℕ = 2 * (s * unit) in
      let x : ℕ = 2 * a + s * unit in
      let y : ℕ = 2 * b + s * unit in
      let less : x / k * k ≤ y = le_trans (div-mul-le_self x k) (omega arith) in
      mul-le-mul_right s ((le-div_iff_mul-le {k = k} (omega arith)).1 less)

  -- a multiple of the step stays
  nearest_multiple : (n : ℕ) → n % s ≡ 0 → nearest s (n * unit) ≡ n
  unfolding nearest
  nearest_multiple n e =
      let q : ℕ = n / s in
      let k : ℕ = 2 * (s * unit) in
      let whole : q * s ≡ n = omega (arith, div-add-mod' n s) in
      let times : q * k ≡ 2 * (n * unit) = rw (mul_left_comm q 2 (s * unit), ← mul_assoc q s unit, whole) in
      let low : q * k ≤ 2 * (n * unit) + s * unit = omega arith in
      let high : 2 * (n * unit) + s * unit < (q + 1) * k = rw add-mul (omega arith) in
      rw (div-eq_of_lt-le k low high) whole

  nearest_is_multiple : (a : ℕ) → nearest s a % s ≡ 0
  unfolding nearest
  nearest_is_multiple a = mul-mod_left _ s

pub nearest_step : NearestStep
unfolding nearest
nearest_step s a pos =
    let k : ℕ = 2 * (s * unit) in
    let x : ℕ = 2 * a + s * unit in
    let q : ℕ = x / k in
    let times : q * k ≡ 2 * (q * s * unit) = rw (mul_left_comm q 2 (s * unit), ← mul_assoc q s unit) in
    let above : q * k ≤ x = div-mul-le_self x k in
    let below : x < q * k + k = lt-div-mul-add {a = x} {b = k} (omega arith) in
    (nearest_is_multiple s pos a, omega arith, omega arith)

-- ---- the bands: one test of the whole table

-- a band's bounds are multiples of its step, and do not fall
abbrev fits : ℕ → ℕ × ℕ → Bool
fits lo b = both (ltb 0 b.1) (both (leb lo b.0) (both (eqb (lo % b.1) 0) (eqb (b.0 % b.1) 0)))

-- each band starts where the one before ends, the last step where the last band does
abbrev orderly : ℕ → List (ℕ × ℕ) → Bool
orderly lo [] = eqb (lo % last_step) 0
orderly lo (b ∷ bs) = both (fits lo b) (orderly b.0 bs)

is_orderly : orderly 0 bands ≡ true
unfolding bands
is_orderly = refl

record Bounds (lo : ℕ) (b : ℕ × ℕ) : Type 0 where
  pos : 0 < b.1
  rise : lo ≤ b.0
  low : lo % b.1 ≡ 0
  high : b.0 % b.1 ≡ 0

module _ (lo : ℕ) (b : ℕ × ℕ) (bs : List (ℕ × ℕ)) (o : orderly lo (b ∷ bs) ≡ true) where
  bounds : Bounds lo b
  bounds =
      let e₀ = both_first (fits lo b) _ o in
      let e₁ = both_second (ltb 0 b.1) _ e₀ in
      let e₂ = both_second (leb lo b.0) _ e₁ in
      record {
        pos = ltb-true 0 b.1 (both_first (ltb 0 b.1) _ e₀);
        rise = leb-true lo b.0 (both_first (leb lo b.0) _ e₁);
        low = eqb-true (lo % b.1) 0 (both_first (eqb (lo % b.1) 0) _ e₂);
        high = eqb-true (b.0 % b.1) 0 (both_second (eqb (lo % b.1) 0) _ e₂);
      }

  others : orderly b.0 bs ≡ true
  others = both_second (fits lo b) _ o

-- ---- rounding by the first of some bands, and by the others

abbrev Side : ℕ → ℕ → Type 0
Side a b = (a < b) ⊎ (b ≤ a)

side : (a b : ℕ) → Side a b
side a b = go (ltb a b) refl
  where
    go : (t : Bool) → ltb a b ≡ t → Side a b
    go true e = inl (ltb-true a b e)
    go false e = inr (ltb-false a b e)

abbrev round_in : List (ℕ × ℕ) → ℕ → ℕ
round_in bs a = nearest (step_in bs a) a

module _ (b : ℕ × ℕ) (bs : List (ℕ × ℕ)) where
  here : (a : ℕ) → a < b.0 * unit → round_in (b ∷ bs) a ≡ nearest b.1 a
  here a h = ap (λ (s : ℕ). nearest s a) (step_here b bs a h)

  after : (a : ℕ) → b.0 * unit ≤ a → round_in (b ∷ bs) a ≡ round_in bs a
  after a h = ap (λ (s : ℕ). nearest s a) (step_after b bs a h)

  module _ (lo : ℕ) (f : Bounds lo b) (next : round_in bs (b.0 * unit) ≡ b.0) where
    start_first : Side (lo * unit) (b.0 * unit) → round_in (b ∷ bs) (lo * unit) ≡ lo
    start_first (inl p) = here (lo * unit) p ∙ nearest_multiple b.1 f.pos lo f.low
    start_first (inr p) =
        let e : b.0 ≡ lo = omega arith in
        after (lo * unit) p ∙ rw e at next

    -- below its bound a band rounds to no more than the bound
    at_most : (a : ℕ) → a < b.0 * unit → nearest b.1 a ≤ b.0
    at_most a p = omega (arith, nearest_monotone b.1 f.pos a (b.0 * unit) (omega arith), nearest_multiple b.1 f.pos b.0 f.high)

    module _ (rest : (a c : ℕ) → a ≤ c → round_in bs a ≤ round_in bs c) where
      order_first : (a c : ℕ) → a ≤ c → Side a (b.0 * unit) → Side c (b.0 * unit) → round_in (b ∷ bs) a ≤ round_in (b ∷ bs) c
      order_first a c h (inl p) (inl q) = omega (arith, here a p, here c q, nearest_monotone b.1 f.pos a c h)
      order_first a c h (inl p) (inr q) = omega (arith, here a p, at_most a p, rest (b.0 * unit) c q, after c q)
      order_first a c h (inr p) (inl q) = absurd (omega arith)
      order_first a c h (inr p) (inr q) = omega (arith, after a p, after c q, rest a c h)

      again_first : (a n : ℕ) → (round_in bs a ≡ n → round_in bs (n * unit) ≡ n) → round_in (b ∷ bs) a ≡ n → Side a (b.0 * unit) → Side (n * unit) (b.0 * unit) → round_in (b ∷ bs) (n * unit) ≡ n
      again_first a n same e (inl p) (inl q) =
          here (n * unit) q ∙ nearest_multiple b.1 f.pos n (ap (λ (m : ℕ). m % b.1) (sym e ∙ here a p) ∙ nearest_is_multiple b.1 f.pos a)
      again_first a n same e (inl p) (inr q) =
          let bound : b.0 ≡ n = omega (arith, here a p, at_most a p) in
          after (n * unit) q ∙ rw bound at next
      again_first a n same e (inr p) (inl q) = absurd (omega (arith, after a p, rest (b.0 * unit) a p))
      again_first a n same e (inr p) (inr q) = after (n * unit) q ∙ same (sym (after a p) ∙ e)

-- ---- rounding by orderly bands

last_pos : 0 < last_step
last_pos = omega arith

-- where they start, an amount stays
start : (lo : ℕ) (bs : List (ℕ × ℕ)) → orderly lo bs ≡ true → round_in bs (lo * unit) ≡ lo
unfolding step_in
start lo [] o = nearest_multiple last_step last_pos lo (eqb-true (lo % last_step) 0 o)
start lo (b ∷ bs) o = start_first b bs lo (bounds lo b bs o) (start b.0 bs (others lo b bs o)) (side (lo * unit) (b.0 * unit))

-- the order stays
order : (lo : ℕ) (bs : List (ℕ × ℕ)) → orderly lo bs ≡ true → (a c : ℕ) → a ≤ c → round_in bs a ≤ round_in bs c
unfolding step_in
order lo [] o a c h = nearest_monotone last_step last_pos a c h
order lo (b ∷ bs) o a c h =
    let r = others lo b bs o in
    order_first b bs lo (bounds lo b bs o) (start b.0 bs r) (order b.0 bs r) a c h (side a (b.0 * unit)) (side c (b.0 * unit))

-- what was rounded stays
again : (lo : ℕ) (bs : List (ℕ × ℕ)) → orderly lo bs ≡ true → (a n : ℕ) → round_in bs a ≡ n → round_in bs (n * unit) ≡ n
unfolding step_in
again lo [] o a n e = nearest_multiple last_step last_pos n (ap (λ (m : ℕ). m % last_step) (sym e) ∙ nearest_is_multiple last_step last_pos a)
again lo (b ∷ bs) o a n e =
    let r = others lo b bs o in
    again_first b bs lo (bounds lo b bs o) (start b.0 bs r) (order b.0 bs r) a n (again b.0 bs r a n) e (side a (b.0 * unit)) (side (n * unit) (b.0 * unit))

-- ---- the laws

pub rounded_monotone : (a b : ℕ) → a ≤ b → rounded a ≤ rounded b
unfolding rounded step
rounded_monotone a b h = omega (arith, order 0 bands is_orderly a b h)

-- a rounded amount is not below 5
pub rounded_least : (a : ℕ) → least_shown ≤ rounded a
unfolding rounded
rounded_least a = omega arith

least_own : rounded (least_shown * unit) ≡ least_shown
unfolding rounded step step_in bands nearest
least_own = refl

pub rounded_again : RoundedAgain
unfolding rounded step
rounded_again a = go (side (round_in bands a) least_shown)
  where
    keep : (m : ℕ) → rounded a ≡ m → rounded (m * unit) ≡ m → rounded (rounded a * unit) ≡ rounded a
    keep m e h = ap (λ (k : ℕ). rounded (k * unit)) e ∙ h ∙ sym e

    go : Side (round_in bands a) least_shown → rounded (rounded a * unit) ≡ rounded a
    go (inl h) = keep least_shown (omega arith) least_own
    go (inr h) = keep (round_in bands a) (omega arith) (omega (arith, again 0 bands is_orderly a (round_in bands a) refl))
