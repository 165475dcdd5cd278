-- Demand 2. Assumes nothing.
use Rattle.std.specs.Prelude.{Result, Ok}
use Prim.Native.Nat.{ℕ, ◌+◌, ◌-◌, ◌^◌, ◌<◌, ◌≤◌}
use mathlib.Core.Bool.{Bool, true, false, not, false≢true}
use mathlib.Core.Path.{◌≡◌, refl, sym, ap, ap₂, ◌∙◌, subst}
use mathlib.Core.List.{List, [], ◌∷◌, ◌++◌}
use native.Mathlib.Omega.{arith}
use lib.ListN.{length, get_or, drop}
use lib.Dec.{eqb, leb, ltb}
use borrow.Author.Tests.{eqb-false, eq-eqb, ne_eqb, leb-true, le-leb, ltb-true, ltb-false, le-ltb}
use Rattle.octets.specs.Bytes.{Bytes}
use Rattle.octets.specs.Choice.{choose, both}
use Rattle.octets.specs.Part.{splice}
use Rattle.octets.specs.Fields.{Placed}
use Rattle.octets.proofs.ChoiceLaws.{both_first, both_second, both_false, both_none, not_not}
use Rattle.octets.proofs.SameLaws.{same_true, same_refl}
use Rattle.octets.proofs.PartLaws.{length_splice, byte_apart}
use Rattle.octets.proofs.FieldRun.{front_placed, front_later}
use Rattle.values.specs.Run.{within}
use Rattle.terms.specs.Terms.{terms_size}
use Rattle.actions.specs.declared.Action.{Action}
use Rattle.actions.specs.declared.Action.TheVariants.{Newt, Modi}
use Rattle.actions.specs.Actions.{is_full, is_new, repeats_time, next_status}
use Rattle.actions.specs.Statuses.{live, ported, no_step}
use Rattle.actions.proofs.KindLaws.{is_newt, modi_stays, old_if_repeats}
use Rattle.elements.specs.Codes.{uti}
use Rattle.elements.specs.Forms.{has_form}
use Rattle.rules.specs.Verdicts.{form_broken}
use Rattle.rules.specs.Findings.{passed, broken, Rule, test, naming, first_broken, AllPassed}
use Rattle.rules.specs.Rules.{rules_for, rules_of, verdict}
use Rattle.rules.proofs.FindingLaws.{broken_first, first_broken_lem, none_broken, passed_then}
use Rattle.rules.proofs.VerdictLaws as message
use Rattle.ledger.specs.Layout.{u32, u64, rows_at, next_at, length_at, identifier_at, total_at, header_size, row_size, row_start, shortest_ledger, line_size}
use Rattle.ledger.specs.Totals.{totals_in, total_of}
use Rattle.ledger.specs.Header.{rows_in_use, next_identifier, caps_in, are_caps, capacity_for, header_right, header_of}
use Rattle.ledger.specs.Rows.{row_at, status_of, identifier_of, stored_terms, stored_time, is_known, swap_row, swap_status, swap_identifier, swap_time, swap_in, new_row, row_after}
use Rattle.ledger.specs.Line.{line_fields, line}
use Rattle.ledger.proofs.TotalsLaws.{total_of_lem}
use Rattle.ledger.proofs.NewHeader as new
use Rattle.ledger.proofs.RightHeader.{header_right_lem, rows_fit}
use Rattle.ledger.proofs.RowAfterLaws.{row_placed}
use Rattle.ledger.proofs.RowFields.{after_status, after_identifier, after_terms, after_kept, after_tail}
use Rattle.ledger.proofs.ReadBack.{raised_byte}
use Rattle.ledger.proofs.LineLaws.{line_in_place, length_line}
use Rattle.submission.specs.Verdicts.{ledger_short, cap_wrong, ledger_wrong, row_wrong}
use Rattle.submission.specs.Opening.{Limits, opening_rules, opening_verdict, opened}
use Rattle.submission.specs.Lent.{Lent}
use Rattle.submission.specs.Status.{status_rules, asked}
use Rattle.submission.specs.Totals.{totals_rules, asked_totals}
use Rattle.submission.specs.Submission.{submitted, swap_of, action_in, line_due_in, row_right, has_wrong_row, is_not_admitted, has_other_time, finds_full, finds_spent, swap_rules, after_rules, submission_rules, rules_on, verdict_on, masked_terms, terms_for, place_for, row_for, ledger_for, line_for, tape_for}
use Rattle.submission.specs.Demand2.{VerdictExactly, CheckingOrder, RightRow, RulesAccept, AcceptedExactly, QuietModification, Outside, MovesTotal, LedgerWritten, TapeWritten, AcceptanceWrites, OpeningExactly, EachOpeningExactly, OpeningPasses, OpeningWrites, QuestionExactly, EachQuestionExactly, TotalsExactly, EachTotalsExactly}
use Rattle.submission.proofs.LineDueLaws.{line_due_exactly, old_unless_due, new_due, same_terms}
use Rattle.submission.proofs.Acceptance.{numbers_differ, Admitted, as_admitted, Accepted, accepted_answer, step_known, HasPlace, has_place, tape_room, row_right_lem as passed-row, status_test, time_test, message_passes, room_test}
use Rattle.submission.proofs.Lookup.{row_whole, length_shown, length_after, ledger_length, new_place, old_place, ledger_stays, rows_raised, next_raised, low, high, totals_moved, row_written}
use Rattle.submission.proofs.Outcome.{when_accepted, verdict_is}
use Rattle.submission.proofs.Opened.{long_enough, start_is, start_right}
use Rattle.submission.proofs.Demand1.{element_is}

-- ---- the verdict

pub verdict_exactly : VerdictExactly
unfolding verdict_on
verdict_exactly limits lent m n e some =
    let rs : List Rule = rules_on limits lent m in (
      λ p.
          let v : (verdict_on limits lent m).0 ≡ n = sym (verdict_is limits lent m) ∙ p.0 in
          let c : (verdict_on limits lent m).1 ≡ e = sym (element_is limits lent m) ∙ p.1 in
          broken_first rs n e (numbers_differ limits lent m (action_in m)) some (ap₂ {C = ℕ × ℕ} (λ x y. (x, y)) v c),
      λ b.
          let v : verdict_on limits lent m ≡ (n, e) = first_broken_lem rs n e b in
          (verdict_is limits lent m ∙ ap (λ x. x.0) v, element_is limits lent m ∙ ap (λ x. x.1) v),
    )

pub checking_order : CheckingOrder
unfolding submission_rules rules_for rules_of swap_rules
checking_order limits a lent m = refl

-- ---- acceptance in words

-- a row that 14 lets pass, both ways
module _ (l u : Bytes) (known : is_known l u ≡ true) where
  abbrev r : Bytes
  r = swap_row l u

  abbrev is_given : Bool
  is_given = within 1 (next_identifier l - 1) (identifier_of (swap_row l u))

  abbrev is_counted : Bool
  is_counted = leb 1 (total_of (totals_in l) (status_of (swap_row l u)))

  right_row : row_right (header_of l) (swap_in l u) ≡ true → RightRow l (swap_row l u)
  unfolding row_right swap_status swap_identifier header_of
  right_row right =
      let e : both (within live ported (status_of r)) (both is_given is_counted) ≡ true = rw known at right in
      let status : within live ported (status_of r) ≡ true = both_first (within live ported (status_of r)) (both is_given is_counted) e in
      let rest : both is_given is_counted ≡ true = both_second (within live ported (status_of r)) (both is_given is_counted) e in
      let identifier : within 1 (next_identifier l - 1) (identifier_of r) ≡ true = both_first is_given is_counted rest in
      let counted : 1 ≤ total_of (totals_in l) (status_of r) = leb-true _ _ (both_second is_given is_counted rest) in
      let least : live ≤ status_of r = leb-true _ _ (both_first (leb live (status_of r)) (leb (status_of r) ported) status) in
      let most : status_of r ≤ ported = leb-true _ _ (both_second (leb live (status_of r)) (leb (status_of r) ported) status) in
      let given : 1 ≤ identifier_of r = leb-true _ _ (both_first (leb 1 (identifier_of r)) (leb (identifier_of r) (next_identifier l - 1)) identifier) in
      let below : identifier_of r ≤ next_identifier l - 1 = leb-true _ _ (both_second (leb 1 (identifier_of r)) (leb (identifier_of r) (next_identifier l - 1)) identifier) in
      record { least = least; most = most; given = given; before = omega arith; counted = omega (arith, total_of_lem l (status_of r) least most) }

  row_right_lem : RightRow l (swap_row l u) → row_right (header_of l) (swap_in l u) ≡ true
  unfolding row_right swap_status swap_identifier header_of
  row_right_lem h =
      let below : identifier_of (swap_row l u) ≤ next_identifier l - 1 = omega (arith, h.given, h.before) in
      let counted : 1 ≤ total_of (totals_in l) (status_of r) = omega (arith, h.counted, total_of_lem l (status_of r) h.least h.most) in
      rw (known, le-leb _ _ h.least, le-leb _ _ h.most, le-leb _ _ h.given, le-leb _ _ below, le-leb _ _ counted)

-- a test that counts only where another one holds
not_where : (b t : Bool) → (b ≡ true → t ≡ false) → both b t ≡ false
not_where true t h = h refl
not_where false t h = refl

-- the stored time of a swap whose status admits an action that repeats it
known_time : (l u : Bytes) (a : Action) → eqb (next_status a (swap_status l u)) no_step ≡ false → repeats_time a ≡ true → swap_time l u ≡ stored_time (swap_row l u)
unfolding swap_time
known_time l u a admitted repeats = rw (step_known l u a admitted (old_if_repeats a repeats))

module _ (limits : Limits) (lent : Lent) (m : Bytes) where
  abbrev l : Bytes
  l = lent.ledger

  rules_accept : (submitted limits lent m).verdict ≡ 0 → RulesAccept limits lent m
  unfolding has_other_time finds_spent verdict
  rules_accept v =
      let w : Accepted limits lent m = when_accepted limits lent m v in
      let c : Admitted limits lent m = w.admitted in
      let a : Action = c.action in
      record {
        action = a;
        reads = c.reads;
        header = (has_place c).header;
        tape = tape_room c;
        message = rw c.reads (none_broken (rules_for (Ok a) limits.longest m) (message_passes c));
        row = λ k. right_row l (swap_of m) k (passed-row c k);
        step = eqb-false _ _ (status_test c);
        time = λ k. same_true _ _ (not_not _ (both_false (repeats_time a) _ (time_test c) k)) ∙ known_time l (swap_of m) a (status_test c) k;
        room = λ k. eqb-false _ _ (both_false (is_new a) _ (room_test c) k);
        spare = λ k. eqb-false _ _ (both_false (line_due_in a l m) _ w.spare k);
      }

  module _ (s : RulesAccept limits lent m) where
    right_found : has_wrong_row (header_of l) (swap_in l (swap_of m)) ≡ false
    unfolding has_wrong_row
    right_found = not_where (is_known l (swap_of m)) _ (λ k. ap not (row_right_lem l (swap_of m) k (s.row k)))

    admitted : is_not_admitted s.action (swap_in l (swap_of m)) ≡ false
    unfolding is_not_admitted
    admitted = ne_eqb _ _ s.step

    same_time : has_other_time s.action (swap_time l (swap_of m)) m ≡ false
    unfolding has_other_time
    same_time = not_where (repeats_time s.action) _ (λ k. rw (known_time l (swap_of m) s.action (ne_eqb _ _ s.step) k, s.time k) (ap not (same_refl (stored_time (swap_row l (swap_of m))))))

    room_found : finds_full s.action (header_of l) ≡ false
    unfolding finds_full header_of
    room_found = not_where (is_new s.action) _ (λ k. ne_eqb _ _ (s.room k))

    identifier_found : finds_spent (line_due_in s.action l m) (next_identifier l) ≡ false
    unfolding finds_spent
    identifier_found = not_where (line_due_in s.action l m) _ (λ k. ne_eqb _ _ (s.spare k))

    message_right : AllPassed (rules_for (Ok s.action) limits.longest m)
    message_right =
        subst (λ (r : Result Action ℕ). AllPassed (rules_for r limits.longest m)) s.reads
        ((message.accepted_exactly limits.longest m).0 (ap (λ v. v.0) s.message))

    front_passed : first_broken (submission_rules limits (Ok s.action) lent m) ≡ first_broken (rules_for (Ok s.action) limits.longest m ++ after_rules (Ok s.action) l m)
    unfolding submission_rules first_broken
    front_passed = rw (header_right_lem limits.largest l s.header, le-ltb (length lent.buffers.tape) line_size s.tape)

    swap_passed : first_broken (after_rules (Ok s.action) l m) ≡ (0, 0)
    unfolding swap_rules first_broken
    swap_passed = rw (right_found, admitted, same_time, room_found, identifier_found)

    all_passed_on : verdict_on limits lent m ≡ (0, 0)
    unfolding verdict_on
    all_passed_on =
        ap (λ r. first_broken (submission_rules limits r lent m)) s.reads
        ∙ front_passed
        ∙ passed_then (rules_for (Ok s.action) limits.longest m) (after_rules (Ok s.action) l m) message_right
        ∙ swap_passed

    submission_accepts : (submitted limits lent m).verdict ≡ 0
    submission_accepts = verdict_is limits lent m ∙ ap (λ v. v.0) all_passed_on

pub accepted_exactly : AcceptedExactly
accepted_exactly limits lent m = (rules_accept limits lent m, submission_accepts limits lent m)

-- ---- whether a line is due

-- nothing moves where no line is due and the status stays
quiet_answer : {limits : Limits} {lent : Lent} {m : Bytes} (c : Admitted limits lent m) → limits.largest < 256 ^ u32 → c.action ≡ Modi → line_due_in c.action lent.ledger m ≡ false
    → submitted limits lent m ≡ record { verdict = 0; element = 0; identifier = 0; lent = lent }
unfolding finds_spent
quiet_answer {limits} {lent} {m} c small is due =
    let l : Bytes = lent.ledger in
    let step : next_status c.action (swap_status l (swap_of m)) ≡ swap_status l (swap_of m) = rw is (modi_stays _ (rw is at (status_test c))) in
    accepted_answer (record { admitted = c; spare = rw due }) ∙ rw (due, ledger_stays (has_place c) small due step)

pub quiet_modification : QuietModification
quiet_modification limits small lent m reads passes same =
    let c : Admitted limits lent m = as_admitted limits lent m (ap (λ v. v.0) (none_broken _ passes)) in
    let two : Ok c.action ≡ Ok Modi = sym c.reads ∙ reads in
    let is : c.action ≡ Modi = cc in
    quiet_answer c small is (((line_due_exactly c.action lent.ledger m).modification is).1 same)

-- ---- what an accepted message writes

module _ {largest : ℕ} {l m : Bytes} {a : Action} (f : HasPlace largest l m a) (small : largest < 256 ^ u32) where
  abbrev old : Bytes
  old = row_at l (place_for a l m)

  whole : length (row_at l (place_for a l m)) ≡ row_size
  whole = row_whole f small (place_for a l m) f.place

  shown : length (terms_for a l m) ≡ terms_size
  shown = length_shown f small

  row_is : row_at (ledger_for a l m) (place_for a l m) ≡ row_after a (line_due_in a l m) (next_status a (swap_status l (swap_of m))) (swap_of m) (next_identifier l) (terms_for a l m) (row_at l (place_for a l m))
  unfolding row_for
  row_is = row_written f small

  -- the row of a new swap
  new_row_lem : is_new a ≡ true → row_at (ledger_for a l m) (rows_in_use l) ≡ new_row live (swap_of m) (next_identifier l) (masked_terms (caps_in l) m)
  unfolding swap_status terms_for
  new_row_lem e =
      let is : a ≡ Newt = is_newt a e in
      let none : is_known l (swap_of m) ≡ false = f.free e in
      ap (row_at (ledger_for a l m)) (sym (new_place f small e)) ∙ row_is ∙ rw (new_due a l m e, is, none)

  own_terms : (d b : Bool) → line_due_in a l m ≡ d → is_full a ≡ b → choose (both d b) (terms_for a l m) (stored_terms (row_at l (place_for a l m))) ≡ choose b (masked_terms (caps_in l) m) (stored_terms (row_at l (place_for a l m)))
  unfolding terms_for
  own_terms true true g e = rw e
  own_terms false true g e = sym (same_terms a l m e g ∙ ap (λ k. stored_terms (row_at l k)) (sym (old_place f small (old_unless_due a l m g))))
  own_terms d false g e = rw (both_none d false refl)

  -- every other byte
  fits : row_start (place_for a l m) + length (row_for a l m) ≤ length l
  fits = omega (arith, length_after f small, rows_fit largest l f.header, f.place)

  bytes_kept : (i : ℕ) → Outside (row_start (place_for a l m)) row_size i → (is_new a ≡ true → Outside rows_at u32 i) → (line_due_in a l m ≡ true → Outside next_at u64 i)
      → ((s : ℕ) → MovesTotal a l m s → Outside (total_at s) u32 i) → get_or (ledger_for a l m) i 0 ≡ get_or l i 0
  unfolding ledger_for
  bytes_kept i outside p q t =
      let same : length (splice l (row_start (place_for a l m)) (row_for a l m)) ≡ length l = length_splice l (row_for a l m) (row_start (place_for a l m)) fits in
      raised_byte a (line_due_in a l m) (swap_status l (swap_of m)) (next_status a (swap_status l (swap_of m))) (rows_in_use l) (next_identifier l) (splice l (row_start (place_for a l m)) (row_for a l m)) (omega (arith, same, f.header.long)) (low f small) (high f small) i p q (λ s least most moves. t s (least, most, moves)) f.step.0
      ∙ byte_apart l (row_for a l m) (row_start (place_for a l m)) i fits (λ b. omega (arith, length_after f small, outside b))

  ledger_written : LedgerWritten a l m (ledger_for a l m)
  ledger_written =
      record {
        whole = λ e. rw (new_row_lem e) (row_placed live (swap_of m) (next_identifier l) (masked_terms (caps_in l) m));
        status = ap status_of row_is ∙ after_status a (line_due_in a l m) _ (swap_of m) (next_identifier l) (terms_for a l m) old shown whole;
        identifier = ap identifier_of row_is ∙ after_identifier a (line_due_in a l m) _ (swap_of m) (next_identifier l) (terms_for a l m) old shown whole (omega (arith, f.header.next));
        terms = ap stored_terms row_is ∙ after_terms a (line_due_in a l m) _ (swap_of m) (next_identifier l) (terms_for a l m) old shown whole ∙ own_terms (line_due_in a l m) (is_full a) refl refl;
        name = λ e. rw row_is (after_kept a (line_due_in a l m) _ (swap_of m) (next_identifier l) (terms_for a l m) old shown whole e length_at (identifier_at - length_at) (omega arith) (omega arith));
        tail = λ e. rw row_is (after_tail a (line_due_in a l m) _ (swap_of m) (next_identifier l) (terms_for a l m) old shown whole e);
        rows = rows_raised f small;
        next = next_raised f small;
        totals = totals_moved f small;
        long = ledger_length f small;
        others = bytes_kept;
      }

-- ---- the tape buffer

module _ (a : Action) (l t m : Bytes) (room : line_size ≤ length t) where
  abbrev previous : ℕ
  previous = swap_identifier l (swap_of m)

  line_fits : 0 + length (line_for a l m) ≤ length t
  unfolding line_for
  line_fits = omega (arith, length_line a (next_identifier l) previous m (terms_for a l m), room)

  placed : Placed 0 (line_fields a (next_identifier l) previous m (terms_for a l m)) (splice t 0 (line_for a l m))
  unfolding line_for line
  placed = front_placed _ line_size t (line_in_place a (next_identifier l) previous m (terms_for a l m))

  later_bytes : drop line_size (splice t 0 (line_for a l m)) ≡ drop line_size t
  unfolding line_for line
  later_bytes = front_later _ line_size t (line_in_place a (next_identifier l) previous m (terms_for a l m))

  tape_written : TapeWritten a l t m (tape_for a l t m)
  tape_written = by (line_due_in a l m) refl
    where
      by : (b : Bool) → line_due_in a l m ≡ b → TapeWritten a l t m (choose b (splice t 0 (line_for a l m)) t)
      by true e = record { line = λ w. placed; later = later_bytes; long = length_splice t (line_for a l m) 0 line_fits; none = λ w. absurd (false≢true (sym w ∙ e)) }
      by false e = record { line = λ w. absurd (false≢true (sym e ∙ w)); later = refl; long = refl; none = λ w. refl }

pub acceptance_writes : AcceptanceWrites
acceptance_writes limits small lent m v =
    let w : Accepted limits lent m = when_accepted limits lent m v in
    let c : Admitted limits lent m = w.admitted in
    record {
      action = c.action;
      reads = c.reads;
      ledger = rw (ap (λ s. s.lent.ledger) (accepted_answer w)) (ledger_written (has_place c) small);
      tape = rw (ap (λ s. s.lent.buffers.tape) (accepted_answer w)) (tape_written c.action lent.ledger lent.buffers.tape m (tape_room c));
      identifier = ap (λ s. s.identifier) (accepted_answer w);
    }

-- ---- opening

pub opening_exactly : EachOpeningExactly
unfolding opened opening_verdict opening_rules first_broken
opening_exactly limits caps l = by (ltb (length l) shortest_ledger) refl (are_caps caps) refl
  where
    by : (a : Bool) → ltb (length l) shortest_ledger ≡ a → (b : Bool) → are_caps caps ≡ b → OpeningExactly caps l (first_broken (test ledger_short a ∷ test cap_wrong (not b) ∷ [])).0
    by true e b f =
        let short : length l < shortest_ledger = ltb-true _ _ e in
        record {
          short = (λ z. short, λ p. refl);
          cap = (λ z. absurd (omega arith), λ p. absurd (omega (arith, short, p.0)));
          accepted = (λ z. absurd (omega arith), λ p. absurd (omega (arith, short, p.0)));
        }
    by false e false f =
        let long : shortest_ledger ≤ length l = ltb-false _ _ e in
        record {
          short = (λ z. absurd (omega arith), λ p. absurd (omega (arith, long, p)));
          cap = (λ z. (long, f), λ p. refl);
          accepted = (λ z. absurd (omega arith), λ p. absurd (false≢true (sym f ∙ p.1)));
        }
    by false e true f =
        let long : shortest_ledger ≤ length l = ltb-false _ _ e in
        record {
          short = (λ z. absurd (omega arith), λ p. absurd (omega (arith, long, p)));
          cap = (λ z. absurd (omega arith), λ p. absurd (false≢true (sym p.1 ∙ f)));
          accepted = (λ z. (long, f), λ p. refl);
        }

pub opening_passes : OpeningPasses
opening_passes limits small caps l v = start_right limits caps l v small

pub opening_writes : OpeningWrites
opening_writes limits caps l v =
    let capacity : ℕ = capacity_for limits.largest (length l) in
    let room : header_size ≤ length l = omega (arith, long_enough limits caps l v) in
    rw (start_is limits caps l v)
    (record {
      header = new.opened_placed caps capacity l room;
      later = new.opened_later caps capacity l room;
      long = new.opened_length caps capacity l room;
    })

-- ---- the status question

pub question_exactly : EachQuestionExactly
unfolding asked status_rules first_broken
question_exactly limits l u =
    (by (header_right limits.largest l) refl (has_form uti u) refl (has_wrong_row (header_of l) (swap_in l u)) refl, λ v. rw (eq-eqb _ 0 v) (refl, refl))
  where
    by : (a : Bool) → header_right limits.largest l ≡ a → (b : Bool) → has_form uti u ≡ b → (c : Bool) → has_wrong_row (header_of l) (swap_in l u) ≡ c
        → QuestionExactly limits l u (first_broken (test ledger_wrong (not a) ∷ naming form_broken (choose b passed (broken uti)) ∷ test row_wrong c ∷ [])).0
    by false e b f c g =
        record {
          ledger = (λ z. e, λ p. refl);
          form = (λ z. absurd (omega arith), λ p. absurd (false≢true (sym e ∙ p.0)));
          row = (λ z. absurd (omega arith), λ p. absurd (false≢true (sym e ∙ p.0)));
          accepted = (λ z. absurd (omega arith), λ p. absurd (false≢true (sym e ∙ p.0)));
        }
    by true e false f c g =
        record {
          ledger = (λ z. absurd (omega arith), λ p. absurd (false≢true (sym p ∙ e)));
          form = (λ z. (e, f), λ p. refl);
          row = (λ z. absurd (omega arith), λ p. absurd (false≢true (sym f ∙ p.1)));
          accepted = (λ z. absurd (omega arith), λ p. absurd (false≢true (sym f ∙ p.1)));
        }
    by true e true f true g =
        record {
          ledger = (λ z. absurd (omega arith), λ p. absurd (false≢true (sym p ∙ e)));
          form = (λ z. absurd (omega arith), λ p. absurd (false≢true (sym p.1 ∙ f)));
          row = (λ z. (e, f, g), λ p. refl);
          accepted = (λ z. absurd (omega arith), λ p. absurd (false≢true (sym p.2 ∙ g)));
        }
    by true e true f false g =
        record {
          ledger = (λ z. absurd (omega arith), λ p. absurd (false≢true (sym p ∙ e)));
          form = (λ z. absurd (omega arith), λ p. absurd (false≢true (sym p.1 ∙ f)));
          row = (λ z. absurd (omega arith), λ p. absurd (false≢true (sym g ∙ p.2)));
          accepted = (λ z. (e, f, g), λ p. refl);
        }

-- ---- the totals question

pub totals_exactly : EachTotalsExactly
unfolding asked_totals totals_rules first_broken totals_in
totals_exactly limits l = (by (header_right limits.largest l) refl, λ v. rw (eq-eqb _ 0 v))
  where
    by : (b : Bool) → header_right limits.largest l ≡ b → TotalsExactly limits l (first_broken (test ledger_wrong (not b) ∷ [])).0
    by true e = record { ledger = (λ z. absurd (omega arith), λ p. absurd (false≢true (sym p ∙ e))); accepted = (λ z. e, λ p. refl) }
    by false e = record { ledger = (λ z. e, λ p. refl); accepted = (λ z. absurd (omega arith), λ p. absurd (false≢true (sym e ∙ p))) }
