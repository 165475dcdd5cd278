-- The premises of demand 3 as a test that computes. Assumes nothing.
use Prim.Native.Nat.{ℕ, ◌<◌}
use native.Mathlib.Nat.{zero-add}
use mathlib.Core.Bool.{Bool, true, false, beq, false≢true}
use mathlib.Core.Path.{◌≡◌, refl, sym, ◌∙◌}
use mathlib.Core.List.{List}
use lib.ListN.{length}
use lib.Dec.{eqb}
use borrow.Author.Tests.{eqb-true, eq-eqb}
use Rattle.octets.specs.Bytes.{Bytes}
use Rattle.octets.specs.Choice.{choose, both}
use Rattle.octets.specs.Search.{all}
use Rattle.octets.specs.Same.{same_bytes}
use Rattle.octets.proofs.ChoiceLaws.{both_first, both_second}
use Rattle.octets.proofs.SearchLaws.{all_at}
use Rattle.octets.proofs.SameLaws.{same_true, same_refl}
use Rattle.message.specs.Values.{value}
use Rattle.actions.specs.Actions.{action_type}
use Rattle.elements.specs.Codes.{event_type, event_timestamp}
use Rattle.ledger.specs.declared.header.Caps.{Caps}
use Rattle.submission.specs.Submission.{swap_of}
use Rattle.submission.specs.History.{Judgement}
use Rattle.submission.specs.Demand3.{message_at, verdict_at, AcceptedAt, masked_terms_at, SameShown, Alike}

-- ---- the test: a part for each premise

-- a test that is asked of accepted messages only
abbrev pub if_accepted : List Judgement → ℕ → Bool → Bool
if_accepted js i t = choose (eqb (verdict_at js i) 0) t true

abbrev pub same_value : ℕ → Bytes → Bytes → Bool
same_value code m₁ m₂ = same_bytes (value code m₁) (value code m₂)

abbrev pub same_shown : Bytes → Bytes → Bool
same_shown m₁ m₂ = both (same_value action_type m₁ m₂) (both (same_value event_type m₁ m₂) (same_value event_timestamp m₁ m₂))

abbrev pub same_swap : List Judgement → ℕ → ℕ → Bool
same_swap js i j = same_bytes (swap_of (message_at js i)) (swap_of (message_at js j))

abbrev pub verdicts_alike : List Judgement → List Judgement → Bool
verdicts_alike js ks = all (λ i. eqb (verdict_at js i) (verdict_at ks i)) (length js)

abbrev pub shown_alike : List Judgement → List Judgement → Bool
shown_alike js ks = all (λ i. if_accepted js i (same_shown (message_at js i) (message_at ks i))) (length js)

abbrev pub terms_alike : Caps → List Judgement → List Judgement → Bool
terms_alike caps js ks = all (λ i. if_accepted js i (same_bytes (masked_terms_at caps js i) (masked_terms_at caps ks i))) (length js)

abbrev pub swaps_alike : List Judgement → List Judgement → Bool
swaps_alike js ks = all (λ i. all (λ j. if_accepted js i (if_accepted js j (beq (same_swap js i j) (same_swap ks i j)))) (length js)) (length js)

unfoldable pub alike_test : Caps → List Judgement → List Judgement → Bool
alike_test caps js ks =
    both (eqb (length js) (length ks)) (both (verdicts_alike js ks) (both (shown_alike js ks) (both (terms_alike caps js ks) (swaps_alike js ks))))

-- ---- what the test tells

pub at_place : (f : ℕ → Bool) (n i : ℕ) → i < n → all f n ≡ true → f i ≡ true
at_place f n i h e = rw zero-add at (all_at f 0 n i h e)

if_accepted_lem : (js : List Judgement) (i : ℕ) (t : Bool) → AcceptedAt js i → if_accepted js i t ≡ true → t ≡ true
if_accepted_lem js i t a e = rw (eq-eqb (verdict_at js i) 0 a.1) at e

same_value_lem : (code : ℕ) (m₁ m₂ : Bytes) → same_value code m₁ m₂ ≡ true → value code m₁ ≡ value code m₂
same_value_lem code m₁ m₂ e = same_true (value code m₁) (value code m₂) e

same_shown_lem : (m₁ m₂ : Bytes) → same_shown m₁ m₂ ≡ true → SameShown m₁ m₂
same_shown_lem m₁ m₂ e =
    let rest : both (same_value event_type m₁ m₂) (same_value event_timestamp m₁ m₂) ≡ true = both_second (same_value action_type m₁ m₂) _ e in
    (same_value_lem action_type m₁ m₂ (both_first (same_value action_type m₁ m₂) _ e), same_value_lem event_type m₁ m₂ (both_first (same_value event_type m₁ m₂) _ rest), same_value_lem event_timestamp m₁ m₂ (both_second (same_value event_type m₁ m₂) _ rest))

beq_same : (a b : Bool) → beq a b ≡ true → a ≡ b
beq_same true true e = refl
beq_same true false e = absurd (false≢true e)
beq_same false true e = absurd (false≢true e)
beq_same false false e = refl

-- where tests of equality agree, one pair is equal if the other is
same_from : (u v x y : Bytes) → same_bytes u v ≡ same_bytes x y → u ≡ v → x ≡ y
same_from u v x y e p =
    let t : same_bytes u v ≡ true = rw p (same_refl v) in
    same_true x y (sym e ∙ t)

pub alike : (caps : Caps) (js ks : List Judgement) → alike_test caps js ks ≡ true → Alike caps js ks
unfolding alike_test
alike caps js ks h =
    let h₁ : both (verdicts_alike js ks) (both (shown_alike js ks) (both (terms_alike caps js ks) (swaps_alike js ks))) ≡ true = both_second (eqb (length js) (length ks)) _ h in
    let h₂ : both (shown_alike js ks) (both (terms_alike caps js ks) (swaps_alike js ks)) ≡ true = both_second (verdicts_alike js ks) _ h₁ in
    let h₃ : both (terms_alike caps js ks) (swaps_alike js ks) ≡ true = both_second (shown_alike js ks) _ h₂ in
    record {
      lengths = eqb-true (length js) (length ks) (both_first (eqb (length js) (length ks)) _ h);
      verdicts = λ i l. eqb-true (verdict_at js i) (verdict_at ks i) (at_place _ (length js) i l (both_first (verdicts_alike js ks) _ h₁));
      shown = λ i a. same_shown_lem _ _ (if_accepted_lem js i _ a (at_place _ (length js) i a.0 (both_first (shown_alike js ks) _ h₂)));
      terms = λ i a. same_true _ _ (if_accepted_lem js i _ a (at_place _ (length js) i a.0 (both_first (terms_alike caps js ks) _ h₃)));
      swaps = λ i j a b.
          let e : same_swap js i j ≡ same_swap ks i j =
          beq_same _ _ (if_accepted_lem js j _ b (if_accepted_lem js i _ a (at_place _ (length js) j b.0 (at_place _ (length js) i a.0 (both_second (terms_alike caps js ks) _ h₃))))) in
          (same_from _ _ _ _ e, same_from _ _ _ _ (sym e));
    }
