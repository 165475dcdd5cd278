-- Identifiers count lines; calls that write nothing. Assumes nothing.
use Rattle.std.specs.Prelude.{Ok}
use Prim.Native.Nat.{ℕ, ◌+◌, ◌^◌, ◌<◌, ◌≤◌}
use mathlib.Core.Bool.{Bool, true, false, false≢true}
use mathlib.Core.Path.{◌≡◌, refl, sym, ap, ◌∙◌}
use mathlib.Core.List.{List, [], ◌∷◌, ◌++◌}
use native.Mathlib.Omega.{arith}
use lib.ListN.{length}
use lib.Dec.{eqb}
use Rattle.octets.specs.Bytes.{Bytes}
use Rattle.octets.specs.Choice.{choose, both}
use Rattle.octets.proofs.ChoiceLaws.{both_first, both_none}
use Rattle.actions.specs.declared.Action.TheVariants.{Modi}
use Rattle.rules.specs.Findings.{AllPassed}
use Rattle.ledger.specs.declared.header.Caps.{Caps}
use Rattle.ledger.specs.Layout.{u32}
use Rattle.ledger.specs.Header.{next_identifier, caps_in}
use Rattle.ledger.specs.Rows.{stored_terms, swap_row}
use Rattle.submission.specs.Opening.{Limits}
use Rattle.submission.specs.Lent.{Buffers, Lent}
use Rattle.submission.specs.Submission.{swap_of, action_in, line_due_in, admitting_rules, masked_terms}
use Rattle.submission.specs.History.{Call, submit, message_of, answer_to, ledger_after, ledger_after_all, has_action, publishes, line_of, tape}
use Rattle.submission.specs.Demand3.{start}
use Rattle.submission.specs.Published.{published}
use Rattle.submission.specs.Counting.{IdentifierWithLine, IdentifierCounts, KeptByCalls, QuietCall}
use Rattle.submission.proofs.Acceptance.{has_place}
use Rattle.submission.proofs.Outcome.{by_outcome}
use Rattle.submission.proofs.PublishedTape.{LedgerAgrees, kept_agreeing}
use Rattle.submission.proofs.Opened.{start_agrees}
use Rattle.submission.proofs.Demand2.{quiet_modification}
use Rattle.submission.proofs.LineDueLaws.{line_due_exactly}

pub kept_by_calls : KeptByCalls
unfolding ledger_after_all
kept_by_calls limits P keep l [] h = h
kept_by_calls limits P keep l (c ∷ cs) h = kept_by_calls limits P keep (ledger_after limits l c) cs (keep l c h)

-- ---- the identifier of a call

-- the identifier is the ledger's next one where a line is written, else 0; and then it is not 0
record Given (limits : Limits) (l : Bytes) (c : Call) : Type 0 where
  is : (answer_to limits l c).identifier ≡ choose (publishes limits l c) (next_identifier l) 0
  some : publishes limits l c ≡ true → 1 ≤ next_identifier l

given : (limits : Limits) (l : Bytes) (c : Call) → Given limits l c
unfolding publishes
given limits l (submit m b) =
    let lent : Lent = record { ledger = l; buffers = b } in
    record {
      is = by_outcome limits lent m (λ s. s.identifier ≡ choose (both (eqb s.verdict 0) (has_action (λ a. line_due_in a l m) m)) (next_identifier l) 0) (λ c. rw c.admitted.reads) (λ v z. rw z);
      some = by_outcome limits lent m (λ s. both (eqb s.verdict 0) (has_action (λ a. line_due_in a l m) m) ≡ true → 1 ≤ next_identifier l) (λ c p. (has_place c.admitted).header.positive) (λ v z p. absurd (false≢true (sym z ∙ both_first _ _ p)));
    }

pub identifier_with_line : IdentifierWithLine
identifier_with_line limits l c = (λ e. by (publishes limits l c) refl e, other (publishes limits l c) refl)
  where
    g : Given limits l c
    g = given limits l c

    by : (b : Bool) → publishes limits l c ≡ b → ((answer_to limits l c).identifier ≡ 0 → ⊥) → publishes limits l c ≡ true
    by true p e = p
    by false p e = absurd (e (g.is ∙ rw p))

    other : (b : Bool) → publishes limits l c ≡ b → publishes limits l c ≡ true → (answer_to limits l c).identifier ≡ 0 → ⊥
    other false p q e = false≢true (sym p ∙ q)
    other true p q e =
        let is : (answer_to limits l c).identifier ≡ next_identifier l = g.is ∙ rw p in
        omega (arith, is, e, g.some p)

-- ---- since opening

-- a ledger that holds what so many published messages say
record Counted (caps : Caps) (l : Bytes) (n : ℕ) : Type 0 where
  earlier : List Bytes
  holds : LedgerAgrees caps l earlier
  count : length earlier ≡ n

counted : (limits : Limits) → limits.largest < 256 ^ u32 → (caps : Caps) (cs : List Call) (l : Bytes) (earlier : List Bytes) → LedgerAgrees caps l earlier → Counted caps (ledger_after_all limits l cs) (length (published limits l cs) + length earlier)
unfolding ledger_after_all published
counted limits small caps [] l earlier h = record { earlier = earlier; holds = h; count = omega arith }
counted limits small caps (c ∷ cs) l earlier h =
    let rest = counted limits small caps cs (ledger_after limits l c) _ (kept_agreeing limits small c h) in
    record { earlier = rest.earlier; holds = rest.holds; count = rest.count ∙ one (publishes limits l c) (published limits (ledger_after limits l c) cs) }
  where
    one : (b : Bool) (ms : List Bytes) → length ms + length (choose b (message_of c ∷ earlier) earlier) ≡ length (choose b (message_of c ∷ ms) ms) + length earlier
    one true ms = omega arith
    one false ms = refl

pub identifier_counts : IdentifierCounts
identifier_counts limits small caps l before c v =
    let k = counted limits small caps before (start limits caps l) [] (start_agrees limits caps l v) in
    let lines : length k.earlier ≡ length (published limits (start limits caps l) before) = k.count ∙ omega arith in
    (given limits (ledger_after_all limits (start limits caps l) before) c).is ∙ rw (k.holds.next_is, lines)

-- ---- a call that writes nothing

pub quiet_call : QuietCall
unfolding tape ledger_after_all line_of
quiet_call limits l [] c after same none = rw (none, same)
quiet_call limits l (b ∷ before) c after same none = ap (λ rest. line_of limits l b ++ rest) (quiet_call limits (ledger_after limits l b) before c after same none)

-- so does a modification that shows nothing
pub quiet_modification_call : (limits : Limits) → limits.largest < 256 ^ u32 → (l : Bytes) (before : List Call) (m : Bytes) (b : Buffers) (after : List Call) → action_in m ≡ Ok Modi
    → AllPassed (admitting_rules limits (action_in m) (record { ledger = ledger_after_all limits l before; buffers = b }) m)
    → masked_terms (caps_in (ledger_after_all limits l before)) m ≡ stored_terms (swap_row (ledger_after_all limits l before) (swap_of m))
    → tape limits l (before ++ (submit m b ∷ after)) ≡ tape limits l (before ++ after)
unfolding publishes
quiet_modification_call limits small l before m b after reads passes same =
    let found : Bytes = ledger_after_all limits l before in
    let answer = quiet_modification limits small (record { ledger = found; buffers = b }) m reads passes same in
    quiet_call limits l before (submit m b) after (ap (λ s. s.lent.ledger) answer)
    (rw (reads, ((line_due_exactly Modi found m).modification refl).1 same) (both_none (eqb (answer_to limits found (submit m b)).verdict 0) false refl))
