-- `rules::judge`, rule by rule: where one refuses, and where it is passed and the rest decides. Assumes nothing.
use Rattle.std.specs.Prelude.{Result, Err, Ok, IsErr, IsErrAnd, MatchResult}
use Rattle.std.proofs.lemmas.Result.{err_from_is_err_and}
use Prim.Native.Nat.{ℕ}
use mathlib.Core.Bool.{Bool, true, false}
use mathlib.Core.Path.{◌≡◌, refl, sym, ap, ◌∙◌}
use mathlib.Core.List.{List}
use lib.Dec.{eqb}
use Rattle.octets.specs.Bytes.{Bytes}
use Rattle.actions.specs.declared.Action.{Action}
use Rattle.rules.specs.declared.verdicts.Refusal.{Refusal}
use Rattle.rules.specs.Verdicts.{action_wrong, element_missing}
use Rattle.rules.specs.Findings.{Finding, passed, broken, broken_if, Rule, first_broken, finding_of, from_rule}
use Rattle.rules.specs.Rules.{answer_of, action_in, rules_of, laid_rules, conclude, judged_from, judged_by, numbers_of, numbered}
use Rattle.rules.proofs.FindingLaws.{after_rule, stops_at, goes_on}

-- a refusal, whether or not there is an action
pub refuses : (n e : ℕ) (r : Result Action ℕ) → eqb n 0 ≡ false → conclude (n, e) r ≡ Err (n, e)
refuses n e (Err code) h = refl
refuses n e (Ok a) h = rw h

-- ---- `r.map_err(V)?`

-- the code goes on with the value of r
goes_through : (r : Result Action ℕ) (s : Result Action Refusal) (P : ℕ → Refusal → Type 0) (a : Action) → MatchResult r (λ x. s ≡ Ok x) (λ e. IsErrAnd s (P e)) → s ≡ Ok a → r ≡ Ok a
goes_through (Ok b) s P a h e = cc
goes_through (Err code) s P a h e =
    let p = err_from_is_err_and s h in
    absurd cc

-- or it returns t, the fault of r under the name V of the rule with number n
turns_back : (n : ℕ) (V : ℕ → Refusal) → ((e : ℕ) → numbers_of (V e) ≡ (n, e)) → (r : Result Action ℕ) (s t : Result Action Refusal) (d : Refusal)
    → MatchResult r (λ x. s ≡ Ok x) (λ e. IsErrAnd s (λ y. y ≡ V e)) → s ≡ Err d → IsErr t × IsErrAnd t (λ y. y ≡ d) → (code : ℕ) × (r ≡ Err code) × (numbered t ≡ judged_by n r)
turns_back n V named (Ok b) s t d h e g = absurd cc
turns_back n V named (Err code) s t d h e g =
    let p = err_from_is_err_and s h in
    let q = err_from_is_err_and t g.1 in
    let is : t ≡ Err (V code) = cc in
    (code, refl, ap numbered is ∙ ap Err (named code))

-- ---- the action

module _ (m : Bytes) (r : Result Action ℕ) (s : Result Action Refusal) (read : r ≡ action_in m) where
  pub action_stops : (t : Result Action Refusal) (d : Refusal) (V : ℕ → Refusal) → ((e : ℕ) → numbers_of (V e) ≡ (action_wrong, e))
      → MatchResult r (λ x. s ≡ Ok x) (λ e. IsErrAnd s (λ y. y ≡ V e)) → s ≡ Err d → IsErr t × IsErrAnd t (λ y. y ≡ d) → numbered t ≡ judged_from action_wrong (action_in m) m
  unfolding judged_from first_broken from_rule
  action_stops t d V named h e g =
      let b = turns_back action_wrong V named r s t d h e g in
      b.2 ∙ rw (b.1, sym read ∙ b.1)

  pub action_on : (P : ℕ → Refusal → Type 0) (a : Action) → MatchResult r (λ x. s ≡ Ok x) (λ e. IsErrAnd s (P e)) → s ≡ Ok a → judged_from element_missing (Ok a) m ≡ judged_from action_wrong (action_in m) m
  unfolding judged_from rules_of first_broken from_rule
  action_on P a h e = rw (sym read ∙ goes_through r s P a h e)

-- ---- the rules after it

-- what a check that answers a value, or a fault, says of its rule
passed_by : (a b : Action) (f : Finding) → answer_of a f ≡ Ok b → (f ≡ passed) × (b ≡ a)
passed_by a b passed e = (refl, cc)
passed_by a b (broken code) e =
    let z : Err code ≡ Ok b = e in
    (cc, cc)

broken_by : (a : Action) (code : ℕ) (f : Finding) → answer_of a f ≡ Err code → f ≡ broken code
broken_by a code passed e =
    let z : Ok a ≡ Err code = e in
    cc
broken_by a code (broken d) e =
    let z : Err d ≡ Err code = e in
    cc

module _ (n : ℕ) (a : Action) (m : Bytes) where
  abbrev rs : List Rule
  rs = laid_rules (Ok a) m

  -- the rule with number n refuses
  rule_stops : (e : ℕ) → eqb n 0 ≡ false → finding_of n rs ≡ broken e → Err (n, e) ≡ judged_from n (Ok a) m
  unfolding judged_from
  rule_stops e some f = sym (ap (λ v. conclude v (Ok a)) (stops_at n e rs f) ∙ refuses n e (Ok a) some)

  -- it is passed, and the one with number k is the next
  rule_on : (k : ℕ) → after_rule n rs ≡ from_rule k rs → finding_of n rs ≡ passed → judged_from k (Ok a) m ≡ judged_from n (Ok a) m
  unfolding judged_from
  rule_on k next f = sym (ap (λ v. conclude v (Ok a)) (goes_on n rs f ∙ ap first_broken next))

  -- the same where the code asks a test, or a check
  pub test_stops : {b : Bool} → eqb n 0 ≡ false → finding_of n rs ≡ broken_if b → b ≡ true → Err (n, 0) ≡ judged_from n (Ok a) m
  test_stops some f e = rule_stops 0 some (f ∙ ap broken_if e)

  pub test_on : (k : ℕ) {b : Bool} → after_rule n rs ≡ from_rule k rs → finding_of n rs ≡ broken_if b → b ≡ false → judged_from k (Ok a) m ≡ judged_from n (Ok a) m
  test_on k next f e = rule_on k next (f ∙ ap broken_if e)

  pub check_stops : eqb n 0 ≡ false → {d : Result Action ℕ} {code : ℕ} → d ≡ answer_of a (finding_of n rs) → d ≡ Err code
      → judged_by n d ≡ judged_from n (Ok a) m
  check_stops some {d} {code} e f = ap (judged_by n) f ∙ rule_stops code some (broken_by a code (finding_of n rs) (sym e ∙ f))

  module _ (r : Result Action ℕ) (s : Result Action Refusal) (checked : r ≡ answer_of a (finding_of n rs)) where
    pub refusal_stops : (t : Result Action Refusal) (d : Refusal) (V : ℕ → Refusal) → ((e : ℕ) → numbers_of (V e) ≡ (n, e)) → eqb n 0 ≡ false
        → MatchResult r (λ x. s ≡ Ok x) (λ e. IsErrAnd s (λ y. y ≡ V e)) → s ≡ Err d → IsErr t × IsErrAnd t (λ y. y ≡ d) → numbered t ≡ judged_from n (Ok a) m
    refusal_stops t d V named some h e g =
        let b = turns_back n V named r s t d h e g in
        b.2 ∙ check_stops some checked b.1

    pub check_on : (k : ℕ) (b : Action) (P : ℕ → Refusal → Type 0) → after_rule n rs ≡ from_rule k rs
        → MatchResult r (λ x. s ≡ Ok x) (λ e. IsErrAnd s (P e)) → s ≡ Ok b → judged_from k (Ok b) m ≡ judged_from n (Ok a) m
    check_on k b P next h e =
        let p = passed_by a b (finding_of n rs) (sym checked ∙ goes_through r s P b h e) in
        ap (λ x. judged_from k (Ok x) m) p.1 ∙ rule_on k next p.0
