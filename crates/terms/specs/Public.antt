-- Specification, clause 3.6: the elements that the masked terms show as they are, and that nothing else is shown.
use Rattle.std.specs.Prelude.{ℕ, Bool, true, false, ◌≡◌}
use Rattle.octets.specs.Bytes.{Bytes}
use Rattle.octets.specs.Choice.{both}
use Rattle.message.specs.Values.{value}
use Rattle.elements.specs.declared.table.Kinds.{Kinds}
use Rattle.elements.specs.declared.table.Kinds.TheVariants.{None, All, Full}
use Rattle.elements.specs.declared.table.Public.{Public}
use Rattle.elements.specs.declared.table.Public.TheVariants.{Hidden, Masked, Shown}
use Rattle.elements.specs.Codes.{notional_amount}
use Rattle.elements.specs.Table.{element_of}
use Rattle.notional.specs.Amount.{amount}
use Rattle.notional.specs.Masking.{over, shown}
use Rattle.terms.specs.Terms.{terms_of}

abbrev pub is_full_only : Kinds → Bool
is_full_only None = false
is_full_only All = false
is_full_only Full = true

abbrev pub is_shown : Public → Bool
is_shown Hidden = false
is_shown Masked = false
is_shown Shown = true

-- an element of full messages that is public; the notional amount is masked
unfoldable pub is_public_term : ℕ → Bool
is_public_term code = both (is_full_only (element_of code).taken) (is_shown (element_of code).public)

-- two messages have the same values of these elements
abbrev pub Agree : Bytes → Bytes → Type 0
Agree m₁ m₂ = (code : ℕ) → is_public_term code ≡ true → value code m₁ ≡ value code m₂

-- the masked amount of a message: the units that are shown, and whether a plus sign follows
abbrev pub masked_amount : ℕ → Bytes → ℕ × Bool
masked_amount cap m = (shown cap (amount (value notional_amount m)), over cap (amount (value notional_amount m)))

-- the masked terms depend on these elements and on the masked amount alone,
-- whatever the parties, package names, settlement dates and true amounts
abbrev pub TermsPublic : Type 0
TermsPublic =
    (cap₁ cap₂ : ℕ) (m₁ m₂ : Bytes) → Agree m₁ m₂ → masked_amount cap₁ m₁ ≡ masked_amount cap₂ m₂
    → terms_of cap₁ m₁ ≡ terms_of cap₂ m₂
