-- Two histories whose premises hold publish messages that tell the same tape. Assumes nothing.
use Rattle.std.specs.Prelude.{Result, Err, Ok}
use Prim.Native.Nat.{ℕ, suc, ◌^◌, ◌<◌}
use mathlib.Core.Bool.{Bool, true, false}
use mathlib.Core.Path.{◌≡◌, refl, sym, ap, ap₂, ◌∙◌}
use mathlib.Core.Logic.{◌↔◌}
use mathlib.Core.List.{List, [], ◌∷◌, ◌++◌, map}
use native.Mathlib.Omega.{arith}
use lib.ListN.{length}
use lib.Dec.{eqb}
use borrow.Author.Tests.{eqb-true}
use Rattle.actions.specs.declared.Action.{Action}
use Rattle.octets.specs.Bytes.{Bytes}
use Rattle.octets.specs.Choice.{both}
use Rattle.octets.specs.Same.{same_bytes}
use Rattle.octets.proofs.ChoiceLaws.{both_first, both_second, same_test, choose_first, choose_same}
use Rattle.octets.proofs.SameLaws.{same_true, same_refl}
use Rattle.actions.specs.Actions.{action_of, is_full}
use Rattle.ledger.specs.declared.header.Caps.{Caps}
use Rattle.ledger.specs.Layout.{u32}
use Rattle.ledger.specs.Line.{line}
use Rattle.submission.specs.Opening.{Limits}
use Rattle.submission.specs.Submission.{swap_of, action_in, line_due, line_due_in, masked_terms}
use Rattle.submission.specs.History.{Call, message_of, answer_to, ledger_after, has_action, of_kind, publishes, Judgement, judgements}
use Rattle.submission.specs.Demand3.{message_at, verdict_at, AcceptedAt, masked_terms_at, SameShown, Alike}
use Rattle.submission.specs.Published.{published, last_identifier, last_masked, published_terms, line_by, published_line, published_tape}
use Rattle.submission.proofs.PublishedTape.{LedgerAgrees, kept_agreeing, publishes_due}

-- ---- two messages that show the same

pub record Partners (caps : Caps) (m₁ m₂ : Bytes) : Type 0 where
  pub shown : SameShown m₁ m₂
  pub terms : has_action is_full m₁ ≡ true → masked_terms caps m₁ ≡ masked_terms caps m₂

same_actions : (caps : Caps) (m₁ m₂ : Bytes) → SameShown m₁ m₂ → action_in m₁ ≡ action_in m₂
same_actions caps m₁ m₂ s = ap action_of s.0

-- the premises, with the masked terms of full messages alone: the rest of them follows
pub record AllPartners (caps : Caps) (js ks : List Judgement) : Type 0 where
  pub lengths : length js ≡ length ks
  pub verdicts : (i : ℕ) → i < length js → verdict_at js i ≡ verdict_at ks i
  pub partners : (i : ℕ) → AcceptedAt js i → Partners caps (message_at js i) (message_at ks i)
  pub swaps : (i j : ℕ) → AcceptedAt js i → AcceptedAt js j → (swap_of (message_at js i) ≡ swap_of (message_at js j)) ↔ (swap_of (message_at ks i) ≡ swap_of (message_at ks j))

pub all_partners : (caps : Caps) (js ks : List Judgement) → Alike caps js ks → AllPartners caps js ks
unfolding masked_terms_at
all_partners caps js ks a =
    record {
      lengths = a.lengths;
      verdicts = a.verdicts;
      partners = λ i z.
          record {
            shown = a.shown i z;
            terms = λ f.
                sym (choose_first (has_action is_full (message_at js i)) (masked_terms caps (message_at js i)) _ f)
                ∙ a.terms i z
                ∙ choose_first (has_action is_full (message_at ks i)) (masked_terms caps (message_at ks i)) _ (ap (of_kind is_full) (sym (same_actions caps _ _ (a.shown i z))) ∙ f);
          };
      swaps = a.swaps;
    }

partners_rest : (caps : Caps) (j k : Judgement) (js ks : List Judgement) → AllPartners caps (j ∷ js) (k ∷ ks) → AllPartners caps js ks
partners_rest caps j k js ks n =
    record {
      lengths = omega (arith, n.lengths);
      verdicts = λ i h. n.verdicts (suc i) (omega arith);
      partners = λ i z. n.partners (suc i) (omega (arith, z.0), z.1);
      swaps = λ i e z y. n.swaps (suc i) (suc e) (omega (arith, z.0), z.1) (omega (arith, y.0), y.1);
    }

-- ---- earlier messages that show the same, place by place

Prior : Caps → List Bytes → List Bytes → Type 0
Prior caps [] [] = Unit {0}
Prior caps [] (f ∷ fs) = ⊥
Prior caps (e ∷ es) [] = ⊥
Prior caps (e ∷ es) (f ∷ fs) = Partners caps e f × Prior caps es fs

-- which of them name a swap
abbrev naming : Bytes → List Bytes → List Bool
naming u es = map (λ (e : Bytes). same_bytes (swap_of e) u) es

record Same (caps : Caps) (u v : Bytes) (es fs : List Bytes) : Type 0 where
  lines : last_identifier u es ≡ last_identifier v fs
  terms : last_masked caps u es ≡ last_masked caps v fs
  long : length es ≡ length fs

same_earlier : (caps : Caps) (u v : Bytes) (es fs : List Bytes) → Prior caps es fs → naming u es ≡ naming v fs → Same caps u v es fs
unfolding Prior last_identifier last_masked
same_earlier caps u v [] [] p n = record { lines = refl; terms = refl; long = refl }
same_earlier caps u v [] (f ∷ fs) p n = absurd p
same_earlier caps u v (e ∷ es) [] p n = absurd p
same_earlier caps u v (e ∷ es) (f ∷ fs) p n =
    let b : same_bytes (swap_of e) u ≡ same_bytes (swap_of f) v = cc in
    let rest : naming u es ≡ naming v fs = cc in
    let i : Same caps u v es fs = same_earlier caps u v es fs p.1 rest in
    let g : has_action is_full e ≡ has_action is_full f = ap (of_kind is_full) (same_actions caps e f p.0.shown) in
    record {
      lines = rw (b, i.lines, i.long);
      terms = choose_same (both (same_bytes (swap_of e) u) (has_action is_full e)) (both (same_bytes (swap_of f) v) (has_action is_full f)) _ _ _ _ (rw (b, g))
          (λ z. p.0.terms (both_second (same_bytes (swap_of e) u) (has_action is_full e) z)) i.terms;
      long = ap suc i.long;
    }

-- ---- one line

line_shown : (r : Result Action ℕ) (i p : ℕ) (m n terms : Bytes) → SameShown m n → line_by r i p m terms ≡ line_by r i p n terms
unfolding line
line_shown (Err code) i p m n terms s = refl
line_shown (Ok a) i p m n terms s = rw (s.0, s.1, s.2)

same_terms : (caps : Caps) (m n : Bytes) (es fs : List Bytes) → Partners caps m n → Same caps (swap_of m) (swap_of n) es fs → published_terms caps es m ≡ published_terms caps fs n
unfolding published_terms
same_terms caps m n es fs t i =
    choose_same (has_action is_full m) (has_action is_full n) _ _ _ _ (ap (of_kind is_full) (same_actions caps m n t.shown)) t.terms i.terms

same_line : (caps : Caps) (m n : Bytes) (es fs : List Bytes) → Partners caps m n → Same caps (swap_of m) (swap_of n) es fs → published_line caps es m ≡ published_line caps fs n
unfolding published_line
same_line caps m n es fs t i =
    line_shown (action_in m) _ _ m n _ t.shown
    ∙ rw (same_actions caps m n t.shown, same_terms caps m n es fs t i, i.lines, i.long)

-- ---- the histories from here on, with what was published before

abbrev Named : List Judgement → List Judgement → List Bytes → List Bytes → Type 0
Named js ks es fs = (i : ℕ) → AcceptedAt js i → naming (swap_of (message_at js i)) es ≡ naming (swap_of (message_at ks i)) fs

name_one : (u v m n : Bytes) → (m ≡ u) ↔ (n ≡ v) → same_bytes m u ≡ same_bytes n v
name_one u v m n e =
    same_test _ _ (λ b. rw (e.0 (same_true m u b)) (same_refl v)) (λ b. rw (e.1 (same_true n v b)) (same_refl u))

-- whether a line is due, with what was published before
abbrev due_after : Caps → List Bytes → Bytes → Bool
due_after caps es m = has_action (λ a. line_due a (published_terms caps es m) (last_masked caps (swap_of m) es)) m

same_due : (caps : Caps) (m n : Bytes) (es fs : List Bytes) → Partners caps m n → Same caps (swap_of m) (swap_of n) es fs → due_after caps es m ≡ due_after caps fs n
same_due caps m n es fs t i =
    ap (of_kind (λ a. line_due a (published_terms caps es m) (last_masked caps (swap_of m) es))) (same_actions caps m n t.shown)
    ∙ ap₂ (λ (x y : Bytes). has_action (λ a. line_due a x y) n) (same_terms caps m n es fs t i) i.terms

-- a test that counts only where a verdict is 0
same_at_0 : (v w : ℕ) (b c : Bool) → v ≡ w → (v ≡ 0 → b ≡ c) → both (eqb v 0) b ≡ both (eqb w 0) c
same_at_0 v w b c e s = rw (← e) (by (eqb v 0) refl)
  where
    by : (t : Bool) → eqb v 0 ≡ t → both t b ≡ both t c
    by true g = s (eqb-true v 0 g)
    by false g = refl

module _ (caps : Caps) (limits : Limits) (small : limits.largest < 256 ^ u32) (c₁ c₂ : Call) (h₁ h₂ : List Call) (l₁ l₂ : Bytes) (es fs : List Bytes) (p : Prior caps es fs)
    (g₁ : LedgerAgrees caps l₁ es) (g₂ : LedgerAgrees caps l₂ fs) (q : Named (judgements limits l₁ (c₁ ∷ h₁)) (judgements limits l₂ (c₂ ∷ h₂)) es fs) (n : AllPartners caps (judgements limits l₁ (c₁ ∷ h₁)) (judgements limits l₂ (c₂ ∷ h₂))) where
  same_verdict : (answer_to limits l₁ c₁).verdict ≡ (answer_to limits l₂ c₂).verdict
  unfolding judgements
  same_verdict = n.verdicts 0 (omega arith)

  partners : (answer_to limits l₁ c₁).verdict ≡ 0 → Partners caps (message_of c₁) (message_of c₂)
  unfolding judgements
  partners v = n.partners 0 (omega arith, v)

  accepted_first : publishes limits l₁ c₁ ≡ true → (answer_to limits l₁ c₁).verdict ≡ 0
  unfolding publishes
  accepted_first e = eqb-true _ 0 (both_first (eqb (answer_to limits l₁ c₁).verdict 0) (has_action (λ a. line_due_in a l₁ (message_of c₁)) (message_of c₁)) e)

  named_rest : Named (judgements limits (ledger_after limits l₁ c₁) h₁) (judgements limits (ledger_after limits l₂ c₂) h₂) es fs
  unfolding judgements
  named_rest i z = q (suc i) (omega (arith, z.0), z.1)

  named_own : (answer_to limits l₁ c₁).verdict ≡ 0 → naming (swap_of (message_of c₁)) es ≡ naming (swap_of (message_of c₂)) fs
  unfolding judgements
  named_own v = q 0 (omega arith, v)

  -- the earlier messages of the two swaps show the same
  same_swaps : (answer_to limits l₁ c₁).verdict ≡ 0 → Same caps (swap_of (message_of c₁)) (swap_of (message_of c₂)) es fs
  same_swaps v = same_earlier caps (swap_of (message_of c₁)) (swap_of (message_of c₂)) es fs p (named_own v)

  publish_alike : publishes limits l₁ c₁ ≡ publishes limits l₂ c₂
  publish_alike =
      publishes_due limits small c₁ g₁
      ∙ same_at_0 _ _ _ _ same_verdict (λ v. same_due caps (message_of c₁) (message_of c₂) es fs (partners v) (same_swaps v))
      ∙ sym (publishes_due limits small c₂ g₂)

  named_more : (answer_to limits l₁ c₁).verdict ≡ 0 → Named (judgements limits (ledger_after limits l₁ c₁) h₁) (judgements limits (ledger_after limits l₂ c₂) h₂) (message_of c₁ ∷ es) (message_of c₂ ∷ fs)
  unfolding judgements
  named_more v i z =
      ap₂ {C = List Bool} (λ (c : Bool) (bs : List Bool). c ∷ bs) (name_one _ _ (swap_of (message_of c₁)) (swap_of (message_of c₂)) (n.swaps 0 (suc i) (omega arith, v) (omega (arith, z.0), z.1))) (named_rest i z)

  partners_after : AllPartners caps (judgements limits (ledger_after limits l₁ c₁) h₁) (judgements limits (ledger_after limits l₂ c₂) h₂)
  unfolding judgements
  partners_after = partners_rest caps _ _ _ _ n

  one-turn :
      ((es' fs' : List Bytes) → Prior caps es' fs' → LedgerAgrees caps (ledger_after limits l₁ c₁) es' → LedgerAgrees caps (ledger_after limits l₂ c₂) fs' → Named (judgements limits (ledger_after limits l₁ c₁) h₁) (judgements limits (ledger_after limits l₂ c₂) h₂) es' fs'
      → published_tape caps es' (published limits (ledger_after limits l₁ c₁) h₁) ≡ published_tape caps fs' (published limits (ledger_after limits l₂ c₂) h₂))
      → (b : Bool) → publishes limits l₁ c₁ ≡ b → published_tape caps es (published limits l₁ (c₁ ∷ h₁)) ≡ published_tape caps fs (published limits l₂ (c₂ ∷ h₂))
  unfolding published published_tape Prior
  one-turn rest true e =
      let v : (answer_to limits l₁ c₁).verdict ≡ 0 = accepted_first e in
      let e₂ : publishes limits l₂ c₂ ≡ true = sym publish_alike ∙ e in
      let t : Partners caps (message_of c₁) (message_of c₂) = partners v in
      rw (e, e₂)
      (ap₂ {C = Bytes} (λ (a b : Bytes). a ++ b) (same_line caps (message_of c₁) (message_of c₂) es fs t (same_swaps v))
      (rest (message_of c₁ ∷ es) (message_of c₂ ∷ fs) (t, p) (rw e at (kept_agreeing limits small c₁ g₁)) (rw e₂ at (kept_agreeing limits small c₂ g₂)) (named_more v)))
  one-turn rest false e =
      let e₂ : publishes limits l₂ c₂ ≡ false = sym publish_alike ∙ e in
      rw (e, e₂) (rest es fs p (rw e at (kept_agreeing limits small c₁ g₁)) (rw e₂ at (kept_agreeing limits small c₂ g₂)) named_rest)

both_known : (caps : Caps) (limits : Limits) → limits.largest < 256 ^ u32 → (h₁ h₂ : List Call) (l₁ l₂ : Bytes) (es fs : List Bytes) → Prior caps es fs
    → LedgerAgrees caps l₁ es → LedgerAgrees caps l₂ fs → Named (judgements limits l₁ h₁) (judgements limits l₂ h₂) es fs → AllPartners caps (judgements limits l₁ h₁) (judgements limits l₂ h₂)
    → published_tape caps es (published limits l₁ h₁) ≡ published_tape caps fs (published limits l₂ h₂)
unfolding judgements published published_tape
both_known caps limits small [] [] l₁ l₂ es fs p g₁ g₂ q n = refl
both_known caps limits small [] (c₂ ∷ h₂) l₁ l₂ es fs p g₁ g₂ q n = absurd (omega (arith, n.lengths))
both_known caps limits small (c₁ ∷ h₁) [] l₁ l₂ es fs p g₁ g₂ q n = absurd (omega (arith, n.lengths))
both_known caps limits small (c₁ ∷ h₁) (c₂ ∷ h₂) l₁ l₂ es fs p g₁ g₂ q n =
    one-turn caps limits small c₁ c₂ h₁ h₂ l₁ l₂ es fs p g₁ g₂ q n
    (λ es' fs' p' k₁ k₂ q'. both_known caps limits small h₁ h₂ (ledger_after limits l₁ c₁) (ledger_after limits l₂ c₂) es' fs' p' k₁ k₂ q' (partners_after caps limits small c₁ c₂ h₁ h₂ l₁ l₂ es fs p g₁ g₂ q n))
    (publishes limits l₁ c₁) refl

-- two histories whose premises hold tell the same
pub same_published : (caps : Caps) (limits : Limits) → limits.largest < 256 ^ u32 → (h₁ h₂ : List Call) (l₁ l₂ : Bytes) → LedgerAgrees caps l₁ [] → LedgerAgrees caps l₂ [] → Alike caps (judgements limits l₁ h₁) (judgements limits l₂ h₂)
    → published_tape caps [] (published limits l₁ h₁) ≡ published_tape caps [] (published limits l₂ h₂)
unfolding Prior
same_published caps limits small h₁ h₂ l₁ l₂ g₁ g₂ a = both_known caps limits small h₁ h₂ l₁ l₂ [] [] tt g₁ g₂ (λ i z. refl) (all_partners caps _ _ a)
