-- Laws of specs/Choice.antt. Assumes nothing.
use mathlib.Core.Bool.{Bool, true, false, not, false≢true}
use mathlib.Core.Path.{◌≡◌, refl, sym}
use Rattle.octets.specs.Choice.{choose, both}

-- what a test of two tests tells
pub both_first : (a b : Bool) → both a b ≡ true → a ≡ true
both_first true b e = refl
both_first false b e = e

pub both_second : (a b : Bool) → both a b ≡ true → b ≡ true
both_second true b e = e
both_second false b e = absurd (false≢true e)

pub both_false : (a b : Bool) → both a b ≡ false → a ≡ true → b ≡ false
both_false true b e f = e
both_false false b e f = absurd (false≢true f)

-- a test of two tests, by the second
pub both_last : (a b : Bool) → b ≡ true → both a b ≡ a
both_last true b e = e
both_last false b e = refl

pub both_none : (a b : Bool) → b ≡ false → both a b ≡ false
both_none true b e = e
both_none false b e = refl

pub not_not : (b : Bool) → not b ≡ false → b ≡ true
not_not true e = refl
not_not false e = absurd (false≢true (sym e))

-- a test that cannot pass
pub not_true_false : (b : Bool) → (b ≡ true → ⊥) → b ≡ false
not_true_false true h = absurd (h refl)
not_true_false false h = refl

-- two tests are equal if each passes where the other does
pub same_test : (a b : Bool) → (a ≡ true → b ≡ true) → (b ≡ true → a ≡ true) → a ≡ b
same_test true b f g = sym (f refl)
same_test false true f g = g refl
same_test false false f g = refl

-- a choice by a test that passes
pub choose_first {ℓ} : {A : Type ℓ} (b : Bool) (x y : A) → b ≡ true → choose b x y ≡ x
choose_first true x y e = refl
choose_first false x y e = absurd (false≢true e)

-- two choices by equal tests
pub choose_same {ℓ} : {A : Type ℓ} (b d : Bool) (x x' y y' : A) → b ≡ d → (b ≡ true → x ≡ x') → y ≡ y' → choose b x y ≡ choose d x' y'
choose_same true true x x' y y' e f g = f refl
choose_same true false x x' y y' e f g = absurd (false≢true (sym e))
choose_same false true x x' y y' e f g = absurd (false≢true e)
choose_same false false x x' y y' e f g = g
