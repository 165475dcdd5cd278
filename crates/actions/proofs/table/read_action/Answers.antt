-- Shorter and longer values are no action. Assumes nothing.
use Rattle.std.proofs.Common.{arith, ◌≡◌, refl, sym, ap, ◌∙◌, ℕ, length, true, List, [], ◌∷◌, map, nat_eq}
use Prim.Native.String.{String}
use borrow.Author.Tests.{eqb-true}
use Rattle.std.specs.Prelude.{Err}
use Rattle.octets.specs.Bytes.{Bytes}
use Rattle.octets.specs.Text.{text}
use Rattle.octets.specs.Same.{look_up}
use Rattle.octets.proofs.ChoiceLaws.{both_first, both_second}
use Rattle.octets.proofs.SameLaws.{wide, same_false}
use Rattle.actions.specs.Actions.{action_type, action_codes, action_of}
use Rattle.actions.proofs.table.read_action.Goals as goal

-- a value of another length than the codes have
other_size : {A : Type 0} (w : ℕ) (table : List (String × A)) (other : A) (v : Bytes) → wide w (map (λ c. c.0) table) ≡ true → (length v ≡ w → ⊥) → look_up table other v ≡ other
unfolding look_up wide
other_size w [] other v e h = refl
other_size w (c ∷ table) other v e h =
    let size : length (text c.0) ≡ w = eqb-true (length (text c.0)) w (both_first (nat_eq (length (text c.0)) w) (wide w (map (λ c. c.0) table)) e) in
    rw (same_false v (text c.0) (λ q. h (ap length q ∙ size))) (other_size w table other v (both_second (nat_eq (length (text c.0)) w) (wide w (map (λ c. c.0) table)) e) h)

no_action : (v : Bytes) → (length v ≡ 4 → ⊥) → Err action_type ≡ action_of v
unfolding action_of wide text
no_action v h = sym (other_size 4 action_codes (Err action_type) v refl h)

pub returns-in_default : goal.returns-in_default
returns-in_default c = no_action c.args.v.now (λ e. omega arith)

pub returns-in_default-24 : goal.returns-in_default-24
returns-in_default-24 c = no_action c.args.v.now (λ e. omega arith)
