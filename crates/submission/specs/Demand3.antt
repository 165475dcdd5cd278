-- Demand 3 (specification, clause 12.3): one claim over two whole histories. The premises speak of messages, verdict numbers and caps alone.
use Rattle.std.specs.Prelude.{ℕ, ◌^◌, ◌<◌, ◌≡◌, ◌↔◌, List, [], ◌∷◌, length, take, get_or, eqb}
use Rattle.octets.specs.Bytes.{Bytes}
use Rattle.octets.specs.Choice.{choose, both}
use Rattle.octets.specs.Same.{same_bytes}
use Rattle.message.specs.Values.{value}
use Rattle.actions.specs.Actions.{action_type, is_full, writes_line}
use Rattle.elements.specs.Codes.{event_type, event_timestamp}
use Rattle.terms.specs.Public.{Agree, masked_amount}
use Rattle.ledger.specs.declared.header.Caps.{Caps}
use Rattle.ledger.specs.Layout.{u32}
use Rattle.submission.specs.Opening.{Limits, opened}
use Rattle.submission.specs.Submission.{swap_of, cap_on, masked_terms}
use Rattle.submission.specs.History.{Call, tape, Judgement, judgements, has_action}

-- the message and the verdict at a place of a list
abbrev pub nowhere : Judgement
nowhere = record { message = []; verdict = 0 }

abbrev pub message_at : List Judgement → ℕ → Bytes
message_at js i = (get_or js i nowhere).message

abbrev pub verdict_at : List Judgement → ℕ → ℕ
verdict_at js i = (get_or js i nowhere).verdict

abbrev pub AcceptedAt : List Judgement → ℕ → Type 0
AcceptedAt js i = (i < length js) × (verdict_at js i ≡ 0)

-- the masked terms of the last accepted full message of the swap u in a list, or `terms` where it has none
unfoldable pub last_terms : Caps → Bytes → List Judgement → Bytes → Bytes
last_terms caps u [] terms = terms
last_terms caps u (j ∷ js) terms =
    last_terms caps u js
    (choose (both (eqb j.verdict 0) (both (has_action is_full j.message) (same_bytes (swap_of j.message) u))) (masked_terms caps j.message) terms)

-- a full message's own; TERM and EROR have those of their swap's last accepted full message earlier in the list, others none
unfoldable pub masked_terms_at : Caps → List Judgement → ℕ → Bytes
masked_terms_at caps js i =
    let m : Bytes = message_at js i in
    choose (has_action is_full m) (masked_terms caps m)
    (choose (has_action writes_line m) (last_terms caps (swap_of m) (take i js) []) [])

-- ---- the premises

-- two accepted messages agree in action, event (or its absence) and event time
abbrev pub SameShown : Bytes → Bytes → Type 0
SameShown m₁ m₂ =
    (value action_type m₁ ≡ value action_type m₂) × (value event_type m₁ ≡ value event_type m₂)
    × (value event_timestamp m₁ ≡ value event_timestamp m₂)

pub record Alike (caps : Caps) (js ks : List Judgement) : Type 0 where
  -- as many calls, and at each place the same verdict number
  pub lengths : length js ≡ length ks
  pub verdicts : (i : ℕ) → i < length js → verdict_at js i ≡ verdict_at ks i
  -- accepted messages agree in what they show of themselves, and in masked terms
  pub shown : (i : ℕ) → AcceptedAt js i → SameShown (message_at js i) (message_at ks i)
  pub terms : (i : ℕ) → AcceptedAt js i → masked_terms_at caps js i ≡ masked_terms_at caps ks i
  -- two of them name the same swap exactly where their partners do
  pub swaps :
      (i j : ℕ)
      → AcceptedAt js i
      → AcceptedAt js j
      → (swap_of (message_at js i) ≡ swap_of (message_at js j)) ↔ (swap_of (message_at ks i) ≡ swap_of (message_at ks j))

-- ---- the claim

-- the ledger that opening leaves
abbrev pub start : Limits → Caps → Bytes → Bytes
start limits caps l = (opened limits caps l).ledger

-- two ledgers, of any length, that opening answered with 0, and two lists of calls that meet the premises: the tapes are equal, byte for byte
abbrev pub SameTapesUnder : Limits → Type 0
SameTapesUnder limits =
    (caps : Caps) (l₁ l₂ : Bytes) (h₁ h₂ : List Call)
    → (opened limits caps l₁).verdict ≡ 0
    → (opened limits caps l₂).verdict ≡ 0
    → Alike caps (judgements limits (start limits caps l₁) h₁) (judgements limits (start limits caps l₂) h₂)
    → tape limits (start limits caps l₁) h₁ ≡ tape limits (start limits caps l₂) h₂

-- under any limits whose largest capacity the header's field can hold
abbrev pub SameTapes : Type 0
SameTapes = (limits : Limits) → limits.largest < 256 ^ u32 → SameTapesUnder limits

-- a full message's masked terms are the same whatever the parties, package name, settlement date and true amount: it is enough that two messages have the same
-- public elements and the same masked amount
abbrev pub MaskedTermsPublic : Type 0
MaskedTermsPublic =
    (caps : Caps) (m₁ m₂ : Bytes)
    → Agree m₁ m₂
    → masked_amount (cap_on caps m₁) m₁ ≡ masked_amount (cap_on caps m₂) m₂
    → masked_terms caps m₁ ≡ masked_terms caps m₂
