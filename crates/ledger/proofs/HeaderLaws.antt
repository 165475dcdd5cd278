-- Laws of specs/Header.antt. Assumes nothing.
use Prim.Native.Nat.{ℕ, ◌≤◌}
use Prim.Native.String.{String}
use mathlib.Core.Bool.{Bool, true, false}
use mathlib.Core.List.{List, [], ◌∷◌}
use mathlib.Core.Path.{◌≡◌}
use native.Mathlib.Omega.{arith}
use Rattle.octets.specs.Bytes.{Bytes}
use Rattle.octets.specs.Choice.{choose}
use Rattle.octets.specs.Same.{same_bytes, look_up}
use Rattle.octets.specs.Text.{text}
use Rattle.octets.proofs.ChoiceLaws.{both_first, both_second}
use Rattle.notional.specs.Masking.{is_cap, largest_cap}
use Rattle.notional.proofs.MaskingLaws.{cap_largest}
use Rattle.ledger.specs.Header.{cap_for, are_caps}
use Rattle.ledger.specs.declared.header.Caps.{Caps}

-- the caps one by one
pub each_cap : (caps : Caps) → are_caps caps ≡ true → (is_cap caps.cr ≡ true) × (is_cap caps.ir ≡ true) × (is_cap caps.fx ≡ true) × (is_cap caps.eq ≡ true) × (is_cap caps.co ≡ true)
unfolding are_caps
each_cap caps e =
    let ir = both_second (is_cap caps.cr) _ e in
    let fx = both_second (is_cap caps.ir) _ ir in
    let eq = both_second (is_cap caps.fx) _ fx in
    (both_first _ _ e, both_first _ _ ir, both_first _ _ fx, both_first _ _ eq, both_second (is_cap caps.eq) _ eq)

-- ---- the cap of a class is what the masking requires of it

none_largest : (v : Bytes) → look_up [] 0 v ≤ largest_cap
unfolding look_up
none_largest v = omega arith

more_largest : (c : String × ℕ) (cs : List (String × ℕ)) (v : Bytes) → is_cap c.1 ≡ true → look_up cs 0 v ≤ largest_cap → look_up (c ∷ cs) 0 v ≤ largest_cap
unfolding look_up
more_largest c cs v e l = by (same_bytes v (text c.0))
  where
    by : (t : Bool) → choose t c.1 (look_up cs 0 v) ≤ largest_cap
    by true = cap_largest c.1 e
    by false = l

pub cap_for_largest : (caps : Caps) → are_caps caps ≡ true → (v : Bytes) → cap_for caps v ≤ largest_cap
unfolding cap_for
cap_for_largest caps e v =
    let is = each_cap caps e in
    more_largest _ _ v is.0 (more_largest _ _ v is.1 (more_largest _ _ v is.2 (more_largest _ _ v is.3 (more_largest _ _ v is.4 (none_largest v)))))
