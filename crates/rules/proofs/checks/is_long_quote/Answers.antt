-- A longer value is no notation. Assumes nothing.
use Rattle.std.proofs.Common.{arith, ◌≡◌, ◌≤◌, ℕ, length, false, ap}
use Rattle.octets.specs.Bytes.{Bytes}
use Rattle.octets.specs.Text.{text}
use Rattle.octets.proofs.SameLaws.{same_false}
use Rattle.message.specs.Values.{value}
use Rattle.elements.specs.Conditions.{value_is}
use Rattle.rules.specs.Rules.{long_quote}
use Rattle.rules.proofs.checks.is_long_quote.Goals as goal

no_notation : (price notation : ℕ) (m : Bytes) → 2 ≤ length (value notation m) → false ≡ long_quote price notation m
unfolding long_quote value_is text
no_notation price notation m h =
    rw (
      same_false (value notation m) (text "3") (λ e. absurd (omega (arith, ap length e))),
      same_false (value notation m) (text "4") (λ e. absurd (omega (arith, ap length e))),
    )

pub returns-in_default-3 : goal.returns-in_default-3
returns-in_default-3 c = no_notation _ _ _ (omega (arith, ap length c.element.ensures.0))
