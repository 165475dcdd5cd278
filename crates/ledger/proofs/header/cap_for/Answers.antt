-- Shorter and longer values are no class.
use Rattle.std.proofs.Common.{◌≡◌, refl, ap, ◌∙◌, length, false, arith}
use Prim.Native.String.{String}
use Rattle.octets.specs.Bytes.{Bytes}
use Rattle.octets.specs.Same.{same_bytes, look_up}
use Rattle.octets.specs.Text.{text}
use Rattle.octets.proofs.SameLaws.{same_false}
use Rattle.ledger.specs.declared.header.Caps.{Caps}
use Rattle.ledger.specs.Header.{cap_for}
use Rattle.ledger.proofs.header.cap_for.Goals as goal

no_class : (caps : Caps) (v : Bytes) → (length v ≡ 2 → ⊥) → 0 ≡ cap_for caps v
unfolding cap_for look_up text
no_class caps v h =
    let other : (c : String) → length (text c) ≡ 2 → same_bytes v (text c) ≡ false = λ c e. same_false v (text c) (λ q. h (ap length q ∙ e)) in
    rw (other "CR" refl, other "IR" refl, other "FX" refl, other "EQ" refl, other "CO" refl)

pub returns-in_default : goal.returns-in_default
returns-in_default c = no_class c.args.caps c.args.class.now (λ e. omega arith)

pub returns-in_default-7 : goal.returns-in_default-7
returns-in_default-7 c = no_class c.args.caps c.args.class.now (λ e. omega arith)
