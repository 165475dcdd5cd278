-- No other code has a row. Assumes nothing.
use Rattle.std.proofs.Common.{arith, ℕ, zero, suc, ◌<◌, ◌≡◌, refl, sym, ◌∙◌}
use lib.ListN.{get_or-eq_default}
use Rattle.elements.specs.Table.{no_element, elements, element_of, last_code}
use Rattle.elements.proofs.table.element_of.Goals as goal

no_element_lem : (code : ℕ) → (0 < code → last_code < code) → no_element ≡ element_of code
unfolding element_of
no_element_lem zero h = refl
no_element_lem (suc k) h = sym (get_or-eq_default elements no_element (h (omega arith)))

pub returns-in_default : goal.returns-in_default
returns-in_default c = c.row-in_default.ensures ∙ no_element_lem c.args.code (λ h. omega arith)
