-- Laws of specs/Answers.antt: a number carries its answer. Assumes nothing.
use Prim.Native.Nat.{ℕ, ◌+◌, ◌*◌, ◌/◌, ◌%◌, ◌<◌}
use mathlib.Core.Path.{◌≡◌, ap, ◌∙◌}
use native.Mathlib.Nat.{zero-add, mod-eq_of_lt, div-eq_of_lt, add-mul-mod_self_right, add-mul-div_right}
use native.Mathlib.Omega.{arith}
use Rattle.repository.specs.Answers.{answer_with, byte, element_unit, status_unit, identifier_unit, packed, answer_in, NumberCarries}

-- a number below a unit beside a multiple of the unit
low : (r x u : ℕ) → r < u → (r + x * u) % u ≡ r
low r x u h = add-mul-mod_self_right r x u ∙ mod-eq_of_lt h

high : (r x u : ℕ) → r < u → (r + x * u) / u ≡ x
high r x u h = add-mul-div_right r x (omega arith) ∙ ap (λ q. q + x) (div-eq_of_lt h) ∙ zero-add x

-- each field is recovered from the number
pub recovered : (v e s i : ℕ) → v < byte → e < byte → s < byte → answer_in (packed (answer_with v e s i)) ≡ answer_with v e s i
unfolding packed answer_in
recovered v e s i hv he hs =
    let n : ℕ = v + e * element_unit + s * status_unit + i * identifier_unit in
    let at_element : n ≡ v + (e + (s + i * byte) * byte) * byte = omega arith in
    let at_status : n ≡ v + e * element_unit + (s + i * byte) * status_unit = omega arith in
    let first : n % byte ≡ v = ap (λ x. x % byte) at_element ∙ low v (e + (s + i * byte) * byte) byte hv in
    let second : n / element_unit % byte ≡ e = ap (λ x. x / element_unit % byte) at_element ∙ ap (λ x. x % byte) (high v (e + (s + i * byte) * byte) element_unit hv) ∙ low e (s + i * byte) byte he in
    let third : n / status_unit % byte ≡ s = ap (λ x. x / status_unit % byte) at_status ∙ ap (λ x. x % byte) (high (v + e * element_unit) (s + i * byte) status_unit (omega arith)) ∙ low s i byte hs in
    let fourth : n / identifier_unit ≡ i = high (v + e * element_unit + s * status_unit) i identifier_unit (omega arith) in
    rw (first, second, third, fourth)

-- and no other number has these fields
only_number : (n : ℕ) → packed (answer_in n) ≡ n
unfolding packed answer_in
only_number n = omega arith

pub number_carries : NumberCarries
number_carries = (recovered, only_number)
