-- Laws of specs/Lei.antt: the running remainder is that of the whole number. Assumes nothing.
use Prim.Native.Char.{code}
use Prim.Native.Nat.{ℕ, ◌+◌, ◌-◌, ◌*◌, ◌/◌, ◌%◌, ◌<◌, ◌≤◌}
use mathlib.Core.Path.{◌≡◌, refl, sym, ap, ◌∙◌}
use mathlib.Core.List.{[], ◌∷◌, ◌++◌}
use mathlib.Core.Bool.{true, false}
use native.Mathlib.Omega.{arith}
use native.Mathlib.Nat.{add-mul-mod_self_right, div-add-mod', add-mul, mul_right_comm}
use native.Mathlib.Numerals.{add-one}
use borrow.Author.Tests.{lt-leb}
use lib.ListN.{length, get_or, take, drop, length-take}
use lib.Seq.{take-suc, take_all}
use Rattle.octets.specs.Bytes.{Bytes}
use Rattle.values.specs.Limits.{lei_modulus, lei_body, lei_check}
use Rattle.values.specs.Run.{in_class, each_of, run_of}
use Rattle.values.specs.declared.run.Class.TheVariants.{Digit, Capital, CapitalOrDigit}
use Rattle.values.proofs.RunLaws.{each_at, run_each, each_joined}
use Rattle.values.specs.Lei.{weight, number, grow, spell, next_remainder, running_remainder, PrefixRemainder, is_lei}

-- a number read on by digits of weight w: the remainder decides
step_mod : (w n d : ℕ) → (n % lei_modulus * w + d) % lei_modulus ≡ (n * w + d) % lei_modulus
step_mod w n d =
    let q : ℕ = n / lei_modulus in
    let r : ℕ = n % lei_modulus in
    let whole : q * lei_modulus + r ≡ n = div-add-mod' n lei_modulus in
    let split : n * w ≡ q * w * lei_modulus + r * w = ap (λ (k : ℕ). k * w) (sym whole) ∙ add-mul (q * lei_modulus) r w ∙ ap (λ (k : ℕ). k + r * w) (mul_right_comm q lei_modulus w) in
    let e : r * w + d + q * w * lei_modulus ≡ n * w + d = omega arith in
    sym (add-mul-mod_self_right (r * w + d) (q * w) lei_modulus) ∙ ap (λ (m : ℕ). m % lei_modulus) e

-- one character more: the remainder follows from the remainder
next_mod : (n b : ℕ) → next_remainder (n % lei_modulus) b ≡ grow n b % lei_modulus
unfolding grow
next_mod n b = step_mod (weight b) n (number b)

-- and so it does after a text
pub running_mod : (v : Bytes) (n : ℕ) → running_remainder (n % lei_modulus) v ≡ spell n v % lei_modulus
unfolding running_remainder spell
running_mod [] n = refl
running_mod (b ∷ v) n = ap (λ (r : ℕ). running_remainder r v) (next_mod n b) ∙ running_mod v (grow n b)

pub prefix_remainder : PrefixRemainder
prefix_remainder v k = running_mod (take k v) 0

-- a text in two parts
running_append : (u v : Bytes) (r : ℕ) → running_remainder r (u ++ v) ≡ running_remainder (running_remainder r u) v
unfolding running_remainder
running_append [] v r = refl
running_append (b ∷ u) v r = running_append u v (next_remainder r b)

-- the running remainder of a prefix, and the next character
pub running_next : (v : Bytes) (k : ℕ) → k < length v → next_remainder (running_remainder 0 (take k v)) (get_or v k 0) ≡ running_remainder 0 (take (k + 1) v)
unfolding running_remainder
running_next v k h =
    let more : take (k + 1) v ≡ take k v ++ (get_or v k 0 ∷ []) = rw (add-one k) (take-suc v k 0 h) in
    sym (ap (running_remainder 0) more ∙ running_append (take k v) (get_or v k 0 ∷ []) 0)

-- a number read on by a digit, and by a capital
pub grow_digit : (n b : ℕ) → b < code "A" → grow n b ≡ n * 10 + (b - code "0")
unfolding grow weight number
grow_digit n b l = rw (lt-leb (code "A") b l)

pub grow_capital : (n b : ℕ) → in_class Capital b ≡ true → grow n b ≡ n * 100 + (10 + (b - code "A"))
unfolding grow weight number
grow_capital n b e = rw e

-- the running remainder of all characters
pub running_whole : (v : Bytes) (k : ℕ) → length v ≤ k → running_remainder 0 (take k v) ≡ spell 0 v % lei_modulus
running_whole v k h = prefix_remainder v k ∙ ap (λ (s : Bytes). spell 0 s % lei_modulus) (take_all k v h)

pub character : (v : Bytes) (k : ℕ) → k < length v → each_of CapitalOrDigit v ≡ true → in_class CapitalOrDigit (get_or v k 0) ≡ true
character = each_at CapitalOrDigit

pub ruleset remainders = (running_next, running_whole, character)

-- an LEI: too short, and the characters of one that is not
pub short : (v : Bytes) → length v < lei_body → is_lei v ≡ false
unfolding is_lei run_of
short v h =
    let less : length (take lei_body v) < lei_body = omega (arith, length-take lei_body v) in
    rw (lt-leb _ _ less)

pub characters : (v : Bytes) → run_of lei_body lei_body CapitalOrDigit (take lei_body v) ≡ true → run_of lei_check lei_check Digit (drop lei_body v) ≡ true → each_of CapitalOrDigit v ≡ true
characters v first then = each_joined lei_body v (run_each lei_body lei_body CapitalOrDigit (take lei_body v) first) (run_each lei_check lei_check Digit (drop lei_body v) then)

pub ruleset parts = (short, characters)
