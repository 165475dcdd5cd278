-- Specification, section 2: how far a reader has come that goes along the codes of a message whose layout is right.
use Rattle.std.specs.Prelude.{ℕ, ◌+◌, ◌<◌, ◌≤◌, ◌≡◌, Bool, true, false, List, get_or, Option, MatchOption}
use Rattle.std.specs.Borrow.{Bor}
use Rattle.octets.specs.Bytes.{Bytes}
use Rattle.octets.specs.Choice.{choose}
use Rattle.message.specs.Layout.{count, code_at, layout_right}
use Rattle.message.specs.Values.{value, is_there}

-- the layout is right, under some limits and known codes, of which 0 is none
pub record Laid (m : Bytes) : Type 0 where
  pub longest : ℕ
  pub most : ℕ
  pub known : List Bool
  pub right : layout_right longest most known m ≡ true
  pub none : get_or known 0 false ≡ false

-- the entries before `at` have codes below this one, and those from `at` on have none below it
pub record Reached (m : Bytes) (code at : ℕ) : Type 0 where
  pub inside : at ≤ count m
  pub passed : (k : ℕ) → k < at → code_at m k < code
  pub left : (k : ℕ) → at ≤ k → k < count m → code ≤ code_at m k

-- the place for the next code: one entry on where the element is there
abbrev pub next_place : ℕ → Bool → ℕ
next_place at here = choose here (at + 1) at

-- no element above a code is there
abbrev pub NoneAbove : Bytes → ℕ → Type 0
NoneAbove m last = (code : ℕ) → last < code → is_there code m ≡ false

-- what a reader answers of an element: its value where it is there
abbrev pub Read : Bytes → ℕ → Option (Bor Bytes) → Type 0
Read m code answer = MatchOption answer (is_there code m ≡ false) (λ v. (is_there code m ≡ true) × (v.now ≡ value code m))
