-- The rules after the layout's depend on the values of a message alone. Assumes nothing.
use Rattle.std.specs.Prelude.{Result, Err, Ok}
use Prim.Native.Nat.{ℕ}
use mathlib.Core.Path.{◌≡◌, refl, ap, ap₂}
use mathlib.Core.Bool.{Bool, not}
use mathlib.Core.List.{List, ◌∷◌}
use Rattle.octets.specs.Bytes.{Bytes}
use Rattle.message.specs.Values.{value, is_there}
use Rattle.actions.specs.declared.Action.{Action}
use Rattle.actions.specs.Actions.{action_type, action_of}
use Rattle.elements.specs.Messages.{has_layout}
use Rattle.elements.specs.Conditions.{is_package, value_is, is_quoted, quote_of, facts_of, is_due}
use Rattle.rules.specs.Rules.{Check, Needed, Taken, Formed, Due}
use Rattle.rules.specs.Verdicts.{layout_wrong}
use Rattle.rules.specs.Findings.{Rule, test}
use Rattle.rules.specs.Rules.{at_fault, has_both_quotes, long_quote, has_long_price, out_of_order, rules_of, laid_rules, rules_for, action_in}

module _ (m₁ m₂ : Bytes) (same : (code : ℕ) → value code m₁ ≡ value code m₂) where
  pub action_same : action_in m₁ ≡ action_in m₂
  action_same = ap action_of (same action_type)

  -- the same elements are at fault
  fault_same : (c : Check) (a : Action) (code : ℕ) → at_fault c a m₁ code ≡ at_fault c a m₂ code
  unfolding is_due facts_of quote_of is_quoted is_package value_is is_there
  fault_same Needed a code = simp same
  fault_same Taken a code = simp same
  fault_same Formed a code = simp same
  fault_same Due a code = simp same

  faults_same : (c : Check) (a : Action) → at_fault c a m₁ ≡ at_fault c a m₂
  faults_same c a = λ i code. fault_same c a code i

  rules_same : (a : Action) → rules_of a m₁ ≡ rules_of a m₂
  unfolding rules_of has_both_quotes has_long_price long_quote out_of_order is_quoted is_package value_is is_there
  rules_same a = simp (faults_same, same)

  pub laid_same : (r : Result Action ℕ) → laid_rules r m₁ ≡ laid_rules r m₂
  laid_same (Err code) = refl
  laid_same (Ok a) = rw (rules_same a)

  pub rules_for_same : (r : Result Action ℕ) (longest : ℕ) → has_layout longest m₁ ≡ has_layout longest m₂ → rules_for r longest m₁ ≡ rules_for r longest m₂
  unfolding rules_for
  rules_for_same r longest layout = ap₂ (λ (t : Bool) (rs : List Rule). test layout_wrong (not t) ∷ rs) layout (laid_same r)
