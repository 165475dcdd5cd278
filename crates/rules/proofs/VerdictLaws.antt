-- Laws of the verdict on a message: its rules' numbers differ, when it is accepted, which element 6 names, what judging answers. Assumes nothing.
use Rattle.std.specs.Prelude.{Result, Err, Ok}
use Prim.Native.Nat.{ℕ}
use native.Mathlib.Omega.{arith}
use mathlib.Core.Bool.{Bool, true, false, false≢true}
use mathlib.Core.Path.{◌≡◌, refl, sym}
use mathlib.Core.List.{List, [], ◌∷◌}
use lib.Dec.{eqb}
use borrow.Author.Tests.{eqb-true}
use Prim.Native.String.{String}
use Rattle.actions.specs.declared.Action.{Action}
use Rattle.octets.specs.Bytes.{Bytes}
use Rattle.octets.specs.Choice.{choose, both}
use Rattle.octets.specs.Text.{text}
use Rattle.octets.specs.Same.{same_bytes, look_up}
use Rattle.octets.proofs.ChoiceLaws.{both_first, both_second}
use Rattle.message.specs.Values.{value}
use Rattle.actions.specs.Actions.{action_type, action_codes, action_of}
use Rattle.elements.specs.Forms.{is_read}
use Rattle.rules.specs.Verdicts.{action_wrong, element_missing, element_not_taken, form_broken, conditional_missing}
use Rattle.rules.specs.Findings.{broken, AllPassed}
use Rattle.rules.specs.Rules.{finding, rules_of, rules_for, rules, verdict, conclude, judged, verdict_of}
use Rattle.rules.proofs.FindingLaws.{unused, distinct, all_passed, none_broken}

-- no two rules have the same number, and none has 0
pub differ : (r : Result Action ℕ) (longest : ℕ) (m : Bytes) → distinct (rules_for r longest m) ≡ true
unfolding rules_for unused distinct rules_of
differ (Err code) longest m = refl
differ (Ok a) longest m = refl

pub numbers_differ : (longest : ℕ) (m : Bytes) → distinct (rules longest m) ≡ true
numbers_differ longest m = differ (action_of (value action_type m)) longest m

-- the verdict is 0 exactly where every rule is passed; it names no element then
pub accepted_exactly : (longest : ℕ) (m : Bytes) → ((verdict longest m).0 ≡ 0 → AllPassed (rules longest m)) × (AllPassed (rules longest m) → verdict longest m ≡ (0, 0))
unfolding verdict
accepted_exactly longest m = (all_passed (rules longest m) (numbers_differ longest m), none_broken (rules longest m))

-- ---- the element that a verdict names

of_finding : (r : Result Action ℕ) (e : ℕ) → finding r ≡ broken e → r ≡ Err e
of_finding (Err code) e f = cc
of_finding (Ok a) e f =
    let z : ◌≡◌ {A = ℕ} 0 1 = cc in
    absurd (omega arith)

-- a table of codes that are all read gives no other fault than that of a code that it has not
all_read : List (String × Result Action ℕ) → Bool
all_read [] = true
all_read (c ∷ cs) = both (is_read c.1) (all_read cs)

fault_code : (table : List (String × Result Action ℕ)) (v : Bytes) (e : ℕ) → all_read table ≡ true → look_up table (Err action_type) v ≡ Err e → e ≡ action_type
unfolding look_up all_read
fault_code [] v e all f = cc
fault_code (c ∷ cs) v e all f =
    by (same_bytes v (text c.0)) c.1 (both_first (is_read c.1) (all_read cs) all) f (fault_code cs v e (both_second (is_read c.1) (all_read cs) all))
  where
    by : (t : Bool) (r : Result Action ℕ) → is_read r ≡ true → choose t r (look_up cs (Err action_type) v) ≡ Err e → (look_up cs (Err action_type) v ≡ Err e → e ≡ action_type) → e ≡ action_type
    by true (Err d) is g rest = absurd (false≢true is)
    by true (Ok a) is g rest =
        let z : ◌≡◌ {A = ℕ} 0 1 = cc in
        absurd (omega arith)
    by false r is g rest = rest g

-- the numbers that name an element
abbrev pub naming_numbers : List ℕ
naming_numbers = action_wrong ∷ element_missing ∷ element_not_taken ∷ form_broken ∷ conditional_missing ∷ []

-- 6: the element is the action's
pub action_at_fault : (v : Bytes) (e : ℕ) → finding (action_of v) ≡ broken e → e ≡ action_type
unfolding action_of all_read
action_at_fault v e f = fault_code action_codes v e refl (of_finding (action_of v) e f)

-- the answer of judging has the verdict's number and element
pub judged_verdict : (longest : ℕ) (m : Bytes) → verdict_of (judged longest m) ≡ verdict longest m
unfolding judged
judged_verdict longest m = by (action_of (value action_type m)) (eqb (verdict longest m).0 0) refl
  where
    none : eqb (verdict longest m).0 0 ≡ true → (0, 0) ≡ verdict longest m
    none e = sym ((accepted_exactly longest m).1 ((accepted_exactly longest m).0 (eqb-true _ _ e)))

    by : (r : Result Action ℕ) (t : Bool) → eqb (verdict longest m).0 0 ≡ t → verdict_of (conclude (verdict longest m) r) ≡ verdict longest m
    by (Err code) t e = refl
    by (Ok a) true e = rw e (none e)
    by (Ok a) false e = rw e
