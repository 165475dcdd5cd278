-- The decision beside the definition of a submission, and what the writes of an admission may rely on. Assumes nothing.
use Rattle.std.specs.Prelude.{unwrap_or, Result, Err, Ok}
use Rattle.std.specs.Bool.{then_some}
use Prim.Native.Nat.{ℕ, ◌^◌, ◌<◌, ◌≤◌}
use mathlib.Core.Bool.{Bool, true, false}
use mathlib.Core.Path.{◌≡◌, refl, sym, ap, ap₂, ◌∙◌, subst}
use mathlib.Core.List.{[], ◌∷◌}
use native.Mathlib.Omega.{arith}
use lib.ListN.{length}
use lib.Dec.{eqb}
use borrow.Author.Tests.{eqb-true, eqb-false, ltb-false}
use Rattle.octets.specs.Bytes.{Bytes}
use Rattle.octets.specs.Choice.{choose}
use Rattle.octets.specs.Part.{splice}
use Rattle.octets.proofs.SearchLaws.{first_most}
use Rattle.actions.specs.declared.Action.{Action}
use Rattle.actions.specs.Actions.{is_full, is_new, next_status}
use Rattle.notional.specs.Masking.{largest_cap}
use Rattle.terms.specs.Terms.{terms_of}
use Rattle.rules.specs.Findings.{first_broken, before_rule}
use Rattle.rules.specs.Rules.{rules_for}
use Rattle.rules.proofs.FindingLaws.{broken_then}
use Rattle.ledger.specs.Layout.{u32, uti_size, row_start}
use Rattle.ledger.specs.Header.{rows_in_use, next_identifier, caps_in, are_caps, header_of}
use Rattle.ledger.specs.Rows.{holds_uti, row_at, stored_terms, place_in, place_of, is_known, swap_status, swap_identifier, row_after, header_after}
use Rattle.ledger.specs.Line.{line}
use Rattle.ledger.proofs.HeaderLaws.{cap_for_largest}
use Rattle.ledger.proofs.RightHeader.{rows_fit, capacity_most}
use Rattle.submission.specs.Opening.{Limits}
use Rattle.submission.specs.Verdicts.{identifiers_spent}
use Rattle.submission.specs.Lent.{Lent}
use Rattle.submission.specs.Submission.{swap_of, action_in, line_due, line_due_in, finds_spent, identifier_rule, submission_rules, admitting_rules, verdict_on, cap_on, masked_terms, terms_for, place_for, row_for, ledger_for, line_for, accepted, refused, concluded, submitted}
use Rattle.submission.proofs.Acceptance.{Admitted, as_admitted, eighteen_last, left_to_18, HasPlace, tape_test, has_place}
use Rattle.submission.proofs.Lookup.{low, lowers}
use Rattle.repository.specs.Decision.{Shown, admission_in, decided_on, decision, submitted_by, finished, Writable}

-- the value that was looked up fits the row
pub uti_fits : (u v : Bytes) → length v ≤ uti_size → u ≡ v → length u ≤ uti_size
uti_fits u v h e = rw e h

-- ---- what a submission is, by the decision

module _ (limits : Limits) (lent : Lent) (m : Bytes) where
  -- the first rule broken, 18 left aside
  abbrev found : ℕ × ℕ
  found = first_broken (admitting_rules limits (action_in m) lent m)

  -- a rule before 18 that is broken is the first one broken
  first_found : (a : Action) → action_in m ≡ Ok a → eqb found.0 0 ≡ false → verdict_on limits lent m ≡ found
  unfolding verdict_on
  first_found a g z =
      rw g (ap first_broken (eighteen_last limits lent m a) ∙ broken_then (admitting_rules limits (Ok a) lent m) (identifier_rule a lent.ledger m ∷ []) (eqb-false _ _ (rw g at z)))

  refused_with : (a : Action) → action_in m ≡ Ok a → eqb found.0 0 ≡ false → submitted limits lent m ≡ refused found lent
  unfolding submitted
  refused_with a g z = ap₂ (λ v r. concluded v r lent m) (first_found a g z) g ∙ rw z

  -- where the decision refuses, the submission does; where it admits, every rule but 18 is passed, and the admission is that of the message's action
  abbrev DecidedWith : Result Shown (ℕ × ℕ) → Type 0
  DecidedWith (Err v) = submitted limits lent m ≡ refused v lent
  DecidedWith (Ok s) = (c : Admitted limits lent m) × (s ≡ admission_in c.action lent.ledger m)

  decided_with_by : (r : Result Action ℕ) → action_in m ≡ r → DecidedWith (decided_on found r lent.ledger m)
  unfolding submitted verdict_on submission_rules rules_for before_rule
  decided_with_by (Err code) g = rw g
  decided_with_by (Ok a) g = by (eqb found.0 0) refl
    where
      by : (b : Bool) → eqb found.0 0 ≡ b → DecidedWith (choose b (Ok (admission_in a lent.ledger m)) (Err found))
      by true h =
          let c : Admitted limits lent m = as_admitted limits lent m (eqb-true _ _ h) in
          let both : Ok a ≡ Ok c.action = sym g ∙ c.reads in
          let same : a ≡ c.action = cc in
          (c, ap (λ b. admission_in b lent.ledger m) same)
      by false h = refused_with a g h

  decided_with : (d : Result Shown (ℕ × ℕ)) → decision limits lent m ≡ d → DecidedWith d
  unfolding decision
  decided_with d e = subst DecidedWith e (decided_with_by (action_in m) refl)

  -- what the submission then is
  left_by_lem : (s : Shown) (c : Admitted limits lent m) → s ≡ admission_in c.action lent.ledger m → submitted limits lent m ≡ submitted_by (Ok s) lent m
  unfolding submitted
  left_by_lem s c e = rw (c.reads, left_to_18 limits lent m c, ap (λ (x : Shown). x.action) e) (by (finds_spent (line_due_in c.action lent.ledger m) (next_identifier lent.ledger)))
    where
      v : Bool → ℕ × ℕ
      v b = choose b (identifiers_spent, 0) (0, 0)

      by : (b : Bool) → choose (eqb (v b).0 0) (accepted c.action lent m) (refused (v b) lent) ≡ choose b (refused (identifiers_spent, 0) lent) (accepted c.action lent m)
      by true = refl
      by false = refl

  pub by_decision : (d : Result Shown (ℕ × ℕ)) → decision limits lent m ≡ d → submitted limits lent m ≡ submitted_by d lent m
  by_decision (Err v) g = decided_with (Err v) g
  by_decision (Ok s) g = let c = decided_with (Ok s) g in left_by_lem s c.0 c.1

-- a cap that the header has is one that masking takes
cap_fits : (a : Action) (l m : Bytes) → are_caps (caps_in l) ≡ true → choose (is_full a) (cap_on (caps_in l) m) 0 ≤ largest_cap
unfolding cap_on
cap_fits a l m right = by (is_full a)
  where
    by : (b : Bool) → choose b (cap_on (caps_in l) m) 0 ≤ largest_cap
    by true = cap_for_largest (caps_in l) right _
    by false = omega arith

-- a new swap stands behind the rows in use, any other one where it was found
one_place : {largest : ℕ} {l m : Bytes} {a : Action} → HasPlace largest l m a → (b : Bool) → is_new a ≡ b → place_for a l m ≡ place_of l (swap_of m)
unfolding place_for is_known place_in
one_place {l = l} {m = m} f true e =
    let most : place_of l (swap_of m) ≤ rows_in_use l = omega (arith, first_most (λ k. holds_uti (swap_of m) (row_at l k)) 0 (rows_in_use l)) in
    let least : rows_in_use l ≤ place_of l (swap_of m) = ltb-false _ _ (f.free e) in
    rw e (omega arith)
one_place f false e = rw e

writable_admission : {limits : Limits} {lent : Lent} {m : Bytes} (c : Admitted limits lent m) → limits.largest < 256 ^ u32 → Writable lent m (admission_in c.action lent.ledger m)
unfolding header_of
writable_admission {limits} {lent} {m} c small =
    let f : HasPlace limits.largest lent.ledger m c.action = has_place c in
    let place : place_for c.action lent.ledger m ≡ place_of lent.ledger (swap_of m) = one_place f (is_new c.action) refl in
    record {
      admission = refl;
      tape = ltb-false _ _ (tape_test c);
      uti = f.uti;
      place = place;
      row = omega (arith, f.place, place, rows_fit limits.largest lent.ledger f.header);
      rows = omega (arith, f.header.rows, capacity_most limits.largest lent.ledger f.header);
      next = f.header.next;
      cap = cap_fits c.action lent.ledger m f.header.caps;
      before = low f small;
      least = f.step.0;
      most = f.step.1;
      counted = λ h. (lowers f small h).0;
    }

-- reading has decided: writing cannot fail
pub writable : (limits : Limits) (lent : Lent) (m : Bytes) (s : Shown) → limits.largest < 256 ^ u32 → decision limits lent m ≡ Ok s → Writable lent m s
writable limits lent m s small e =
    let c = decided_with limits lent m (Ok s) e in
    subst (λ x. Writable lent m x) (sym c.1) (writable_admission c.0 small)

-- the identifier of a line that is due
pub line_takes : (due : Bool) (next : ℕ) → unwrap_or (then_some due next) 0 ≡ choose due next 0
line_takes true next = refl
line_takes false next = refl

-- ---- what the writes of an admission leave

module _ {lent : Lent} {m : Bytes} {s : Shown} (f : Writable lent m s) where
  abbrev l : Bytes
  l = lent.ledger

  place_is : s.place ≡ place_of l (swap_of m)
  place_is = ap (λ (x : Shown). x.place) f.admission

  pub terms_are : choose (is_full s.action) (terms_of s.cap m) (stored_terms (row_at l s.place)) ≡ terms_for s.action l m
  unfolding terms_for masked_terms
  terms_are = rw (place_is, ap (λ (x : Shown). x.cap) f.admission) (by (is_full s.action))
    where
      by : (b : Bool) → choose b (terms_of (choose b (cap_on (caps_in l) m) 0) m) (stored_terms (row_at l (place_of l (swap_of m)))) ≡ choose b (terms_of (cap_on (caps_in l) m) m) (stored_terms (row_at l (place_of l (swap_of m))))
      by true = refl
      by false = refl

  pub due_is : line_due s.action (terms_for s.action l m) (stored_terms (row_at l s.place)) ≡ line_due_in s.action l m
  unfolding line_due_in
  due_is = rw place_is

  pub next_is : s.next ≡ next_identifier l
  unfolding header_of
  next_is = ap (λ (x : Shown). x.next) f.admission

  -- whether a line is due, by what was read
  pub due_by : (terms stored : Bytes) (due : Bool) → terms ≡ choose (is_full s.action) (terms_of s.cap m) (stored_terms (row_at l s.place)) → stored ≡ stored_terms (row_at l s.place)
      → due ≡ line_due s.action terms stored → due ≡ line_due_in s.action l m
  due_by terms stored due t o d = d ∙ ap₂ (line_due s.action) (t ∙ terms_are) o ∙ due_is

  -- and what is left by it
  pub finished_by : (spent due : Bool) → due ≡ line_due_in s.action l m → spent ≡ finds_spent due s.next → finished s.action lent m ≡ choose spent (refused (identifiers_spent, 0) lent) (accepted s.action lent m)
  finished_by spent due d e = rw (e, d, next_is)

  pub line_is : line s.action s.next s.previous m (terms_for s.action l m) ≡ line_for s.action l m
  unfolding line_for
  line_is =
      let previous : s.previous ≡ swap_identifier l (swap_of m) = ap (λ (x : Shown). x.previous) f.admission in
      rw (next_is, previous)

  rows_are : s.rows ≡ rows_in_use l
  unfolding header_of
  rows_are = ap (λ (x : Shown). x.rows) f.admission

  pub ledger_is : header_after s.action (line_due_in s.action l m) s.before s.status s.rows s.next (splice l (row_start s.place) (row_after s.action (line_due_in s.action l m) s.status (swap_of m) s.next (terms_for s.action l m) (row_at l s.place))) ≡ ledger_for s.action l m
  unfolding ledger_for row_for
  ledger_is =
      let status : s.status ≡ next_status s.action (swap_status l (swap_of m)) = ap (λ (x : Shown). x.status) f.admission in
      let before : s.before ≡ swap_status l (swap_of m) = ap (λ (x : Shown). x.before) f.admission in
      rw (rows_are, next_is, before, status, ← f.place)
