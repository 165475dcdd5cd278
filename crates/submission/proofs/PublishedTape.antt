-- The tape is what the published messages tell. Assumes nothing.
use Rattle.std.specs.Prelude.{Ok}
use Prim.Native.Nat.{ℕ, suc, ◌^◌, ◌<◌, ◌≤◌}
use mathlib.Core.Bool.{Bool, true, false}
use mathlib.Core.Path.{◌≡◌, refl, ap, ◌∙◌, subst}
use mathlib.Core.List.{List, [], ◌∷◌, ◌++◌}
use native.Mathlib.Numerals.{add-one}
use native.Mathlib.Omega.{arith}
use lib.ListN.{length, take}
use lib.Dec.{eqb}
use Rattle.octets.specs.Bytes.{Bytes}
use Rattle.octets.specs.Choice.{choose, both}
use Rattle.octets.specs.Same.{same_bytes}
use Rattle.octets.proofs.ChoiceLaws.{both_last, both_none}
use Rattle.octets.proofs.SameLaws.{same_true, same_apart}
use Rattle.actions.specs.declared.Action.{Action}
use Rattle.actions.specs.Actions.{is_full, is_new}
use Rattle.actions.proofs.KindLaws.{old_unless_full}
use Rattle.ledger.specs.declared.header.Caps.{Caps}
use Rattle.ledger.specs.Layout.{u32, uti_size, line_size}
use Rattle.ledger.specs.Header.{next_identifier, caps_in}
use Rattle.ledger.specs.Rows.{row_at, identifier_of, stored_terms, is_known, swap_row, swap_identifier}
use Rattle.ledger.specs.Line.{line}
use Rattle.ledger.proofs.RowFields.{after_identifier, after_terms}
use Rattle.submission.specs.Opening.{Limits}
use Rattle.submission.specs.Submission.{swap_of, action_in, line_due, line_due_in, masked_terms, terms_for, place_for, row_for, ledger_for, line_for}
use Rattle.submission.specs.History.{Call, submit, message_of, answer_to, ledger_after, has_action, publishes, line_of, tape}
use Rattle.submission.specs.Published.{published, last_identifier, last_masked, published_terms, published_line, published_tape}
use Rattle.submission.proofs.LineDueLaws.{due_same, old_unless_due}
use Rattle.submission.proofs.Acceptance.{HasPlace, has_place, tape_room}
use Rattle.submission.proofs.Lookup.{row_whole, length_shown, old_place, next_raised, caps_kept, own_row, other_kept}
use Rattle.submission.proofs.Outcome.{by_outcome, accepted_line}

-- a ledger holds what the published messages say, the latest first: the next identifier is one more than their number, and each row that is found has the
-- identifier of its swap's last line and the terms of its last full message
pub record LedgerAgrees (caps : Caps) (l : Bytes) (earlier : List Bytes) : Type 0 where
  pub caps_are : caps_in l ≡ caps
  pub next_is : next_identifier l ≡ suc (length earlier)
  pub identifiers : (u : Bytes) → length u ≤ uti_size → is_known l u ≡ true → identifier_of (swap_row l u) ≡ last_identifier u earlier
  pub terms : (u : Bytes) → length u ≤ uti_size → is_known l u ≡ true → stored_terms (swap_row l u) ≡ last_masked caps u earlier

-- NEWT shows no previous identifier
new_line : (a : Action) (i p q : ℕ) (m terms : Bytes) → is_new a ≡ true → line a i p m terms ≡ line a i q m terms
unfolding line
new_line a i p q m terms e = rw e

module _ {largest : ℕ} (small : largest < 256 ^ u32) {caps : Caps} {l m : Bytes} {earlier : List Bytes} (h : LedgerAgrees caps l earlier) {a : Action} (reads : action_in m ≡ Ok a) (f : HasPlace largest l m a) where
  terms_published : terms_for a l m ≡ published_terms caps earlier m
  unfolding terms_for published_terms
  terms_published = rw (reads, h.caps_are) (by (is_full a) refl)
    where
      by : (b : Bool) → is_full a ≡ b → choose b (masked_terms caps m) (stored_terms (swap_row l (swap_of m))) ≡ choose b (masked_terms caps m) (last_masked caps (swap_of m) earlier)
      by true e = refl
      by false e = h.terms (swap_of m) f.uti (f.known (old_unless_full a e))

  -- whether a line is due goes by the published messages too
  due_published : line_due_in a l m ≡ line_due a (published_terms caps earlier m) (last_masked caps (swap_of m) earlier)
  unfolding line_due_in
  due_published = rw terms_published (due_same a (published_terms caps earlier m) _ _ (λ old. h.terms (swap_of m) f.uti (f.known old)))

  line_published : line_for a l m ≡ published_line caps earlier m
  unfolding line_for published_line swap_identifier
  line_published = rw (reads, terms_published, h.next_is) (by (is_new a) refl)
    where
      by : (b : Bool) → is_new a ≡ b → line a (suc (length earlier)) (swap_identifier l (swap_of m)) m (published_terms caps earlier m) ≡ line a (suc (length earlier)) (last_identifier (swap_of m) earlier) m (published_terms caps earlier m)
      by true e = new_line a _ _ _ m _ e
      by false e = rw (f.known e, h.identifiers (swap_of m) f.uti (f.known e))

  row_identifier : identifier_of (row_for a l m) ≡ choose (line_due_in a l m) (next_identifier l) (identifier_of (row_at l (place_for a l m)))
  unfolding row_for
  row_identifier = after_identifier a (line_due_in a l m) _ (swap_of m) (next_identifier l) (terms_for a l m) (row_at l (place_for a l m)) (length_shown f small) (row_whole f small (place_for a l m) f.place) (omega (arith, f.header.next))

  row_terms : stored_terms (row_for a l m) ≡ choose (both (line_due_in a l m) (is_full a)) (masked_terms (caps_in l) m) (stored_terms (row_at l (place_for a l m)))
  unfolding row_for terms_for
  row_terms =
      after_terms a (line_due_in a l m) _ (swap_of m) (next_identifier l) (terms_for a l m) (row_at l (place_for a l m)) (length_shown f small) (row_whole f small (place_for a l m) f.place)
      ∙ by (line_due_in a l m) (is_full a) refl
    where
      by : (d b : Bool) → is_full a ≡ b → choose (both d b) (terms_for a l m) (stored_terms (row_at l (place_for a l m))) ≡ choose (both d b) (masked_terms (caps_in l) m) (stored_terms (row_at l (place_for a l m)))
      by true true e = rw e
      by true false e = refl
      by false b e = refl

  -- a field of the rows that some actions write, none of which is NEWT where they do not
  still : {A : Type 0} (says last : Bytes → A) (w : Bool) (x : A) → (w ≡ false → is_new a ≡ false)
      → says (row_for a l m) ≡ choose w x (says (row_at l (place_for a l m)))
      → ((u : Bytes) → length u ≤ uti_size → is_known l u ≡ true → says (swap_row l u) ≡ last u)
      → (u : Bytes) → length u ≤ uti_size → is_known (ledger_for a l m) u ≡ true → says (swap_row (ledger_for a l m) u) ≡ choose (both (same_bytes (swap_of m) u) w) x (last u)
  still says last w x old own before u short known = by (same_bytes (swap_of m) u) refl
    where
      written : (c : Bool) → w ≡ c → choose c x (says (row_at l (place_for a l m))) ≡ choose c x (last (swap_of m))
      written true g = refl
      written false g = ap (λ k. says (row_at l k)) (old_place f small (old g)) ∙ before (swap_of m) f.uti (f.known (old g))

      by : (b : Bool) → same_bytes (swap_of m) u ≡ b → says (swap_row (ledger_for a l m) u) ≡ choose (both b w) x (last u)
      by true e = subst (λ v. says (swap_row (ledger_for a l m) v) ≡ choose w x (last v)) (same_true (swap_of m) u e) (ap says (own_row f small) ∙ own ∙ written w refl)
      by false e = let k = other_kept f small u short (same_apart (swap_of m) u e) known in ap says k.1 ∙ before u short k.0

  -- what the ledger holds after
  after : (b : Bool) → line_due_in a l m ≡ b → LedgerAgrees caps (ledger_for a l m) (choose b (m ∷ earlier) earlier)
  unfolding last_identifier last_masked
  after b w =
      record {
        caps_are = caps_kept f small ∙ h.caps_are;
        next_is = next_raised f small ∙ rw (w, h.next_is, add-one) (next b);
        identifiers = λ u short known. still identifier_of (λ v. last_identifier v earlier) (line_due_in a l m) (next_identifier l) (old_unless_due a l m) row_identifier h.identifiers u short known ∙ rw (w, h.next_is) (last u b);
        terms = λ u short known. still stored_terms (λ v. last_masked caps v earlier) (both (line_due_in a l m) (is_full a)) (masked_terms (caps_in l) m) unless row_terms h.terms u short known ∙ rw (h.caps_are, w) (masked u b);
      }
    where
      next : (b : Bool) → choose b (suc (suc (length earlier))) (suc (length earlier)) ≡ suc (length (choose b (m ∷ earlier) earlier))
      next true = refl
      next false = refl

      last : (u : Bytes) (b : Bool) → choose (both (same_bytes (swap_of m) u) b) (suc (length earlier)) (last_identifier u earlier) ≡ last_identifier u (choose b (m ∷ earlier) earlier)
      last u true = rw (both_last (same_bytes (swap_of m) u) true refl)
      last u false = rw (both_none (same_bytes (swap_of m) u) false refl)

      masked : (u : Bytes) (b : Bool) → choose (both (same_bytes (swap_of m) u) (both b (is_full a))) (masked_terms caps m) (last_masked caps u earlier) ≡ last_masked caps u (choose b (m ∷ earlier) earlier)
      masked u true = rw reads
      masked u false = rw (both_none (same_bytes (swap_of m) u) false refl)

      -- NEWT has a line and is full
      unless : both (line_due_in a l m) (is_full a) ≡ false → is_new a ≡ false
      unless z = by (line_due_in a l m) refl z
        where
          by : (d : Bool) → line_due_in a l m ≡ d → both d (is_full a) ≡ false → is_new a ≡ false
          by true e z = old_unless_full a z
          by false e z = old_unless_due a l m e

-- ---- a history

module _ (limits : Limits) (small : limits.largest < 256 ^ u32) {caps : Caps} where
  -- a call keeps what the ledger holds; where it writes a line, its message is one more that is published
  pub kept_agreeing : {l : Bytes} (c : Call) {earlier : List Bytes} → LedgerAgrees caps l earlier → LedgerAgrees caps (ledger_after limits l c) (choose (publishes limits l c) (message_of c ∷ earlier) earlier)
  unfolding publishes
  kept_agreeing {l} (submit m b) {earlier} h =
      by_outcome limits (record { ledger = l; buffers = b }) m (λ s. LedgerAgrees caps s.lent.ledger (choose (both (eqb s.verdict 0) (has_action (λ a. line_due_in a l m) m)) (m ∷ earlier) earlier))
      (λ c. let d = c.admitted in rw d.reads (after small h d.reads (has_place d) (line_due_in d.action l m) refl))
      (λ v z. rw z h)

  -- it writes a line where the published messages make one due
  pub publishes_due : {l : Bytes} (c : Call) {earlier : List Bytes} → LedgerAgrees caps l earlier
      → publishes limits l c ≡ both (eqb (answer_to limits l c).verdict 0) (has_action (λ a. line_due a (published_terms caps earlier (message_of c)) (last_masked caps (swap_of (message_of c)) earlier)) (message_of c))
  unfolding publishes
  publishes_due {l} (submit m b) {earlier} h =
      by_outcome limits (record { ledger = l; buffers = b }) m
      (λ s. both (eqb s.verdict 0) (has_action (λ a. line_due_in a l m) m) ≡ both (eqb s.verdict 0) (has_action (λ a. line_due a (published_terms caps earlier m) (last_masked caps (swap_of m) earlier)) m))
      (λ c. let d = c.admitted in rw d.reads (due_published small h d.reads (has_place d)))
      (λ v z. rw z)

  -- what it adds to the tape is the line that the published messages tell
  line_is_published : {l : Bytes} (c : Call) {earlier : List Bytes} → LedgerAgrees caps l earlier → line_of limits l c ≡ choose (publishes limits l c) (published_line caps earlier (message_of c)) []
  unfolding line_of publishes
  line_is_published {l} (submit m b) {earlier} h =
      by_outcome limits (record { ledger = l; buffers = b }) m
      (λ s. choose (both (eqb s.verdict 0) (has_action (λ a. line_due_in a l m) m)) (take line_size s.lent.buffers.tape) [] ≡ choose (both (eqb s.verdict 0) (has_action (λ a. line_due_in a l m) m)) (published_line caps earlier m) [])
      (λ c. let d = c.admitted in rw d.reads (accepted_line d.action l b.tape m (tape_room d) ∙ rw (line_published small h d.reads (has_place d))))
      (λ v z. rw z)

  pub published_from : (cs : List Call) (l : Bytes) (earlier : List Bytes) → LedgerAgrees caps l earlier → tape limits l cs ≡ published_tape caps earlier (published limits l cs)
  unfolding tape published published_tape
  published_from [] l earlier h = refl
  published_from (c ∷ cs) l earlier h = rw (line_is_published c h) (by (publishes limits l c) (published_from cs (ledger_after limits l c) _ (kept_agreeing c h)))
    where
      by : (b : Bool) → tape limits (ledger_after limits l c) cs ≡ published_tape caps (choose b (message_of c ∷ earlier) earlier) (published limits (ledger_after limits l c) cs)
          → choose b (published_line caps earlier (message_of c)) [] ++ tape limits (ledger_after limits l c) cs ≡ published_tape caps earlier (choose b (message_of c ∷ published limits (ledger_after limits l c) cs) (published limits (ledger_after limits l c) cs))
      by true e = ap (λ rest. published_line caps earlier (message_of c) ++ rest) e
      by false e = e
