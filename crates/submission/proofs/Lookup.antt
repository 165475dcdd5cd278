-- The ledger after an accepted message: its header's numbers, the row of the message's swap, and that of any other. Assumes nothing.
use Prim.Native.Nat.{ℕ, suc, ◌+◌, ◌^◌, ◌<◌, ◌≤◌}
use mathlib.Core.Bool.{Bool, true, false}
use mathlib.Core.Path.{◌≡◌, refl, sym, ap, ◌∙◌, subst}
use mathlib.Core.Logic.{◌↔◌}
use native.Mathlib.Numerals.{add-one}
use native.Mathlib.Nat.{zero-add}
use native.Mathlib.Omega.{arith}
use lib.ListN.{length}
use lib.Dec.{eqb, ltb}
use borrow.Author.Tests.{eqb-true, eqb-false, eq-eqb, ltb-true, ltb-false, lt-ltb}
use Rattle.octets.specs.Bytes.{Bytes}
use Rattle.octets.specs.Choice.{choose}
use Rattle.octets.specs.Search.{first_from}
use Rattle.octets.specs.Part.{splice}
use Rattle.octets.proofs.ChoiceLaws.{not_true_false}
use Rattle.octets.proofs.SearchLaws.{first_passes, first_same, first_stays, first_last}
use Rattle.octets.proofs.PartLaws.{length_part}
use Rattle.terms.specs.Terms.{terms_size}
use Rattle.terms.proofs.TermLaws.{length_terms}
use Rattle.actions.specs.declared.Action.{Action}
use Rattle.actions.specs.Actions.{is_full, is_new, next_status}
use Rattle.actions.specs.Statuses.{unknown, live, ported}
use Rattle.actions.proofs.KindLaws.{old_unless_full}
use Rattle.ledger.specs.declared.header.Caps.{Caps}
use Rattle.ledger.specs.Layout.{u32, uti_size, terms_at, header_size, row_size, row_start}
use Rattle.ledger.specs.Totals.{total_in, adds, totals_after}
use Rattle.ledger.specs.Header.{rows_in_use, next_identifier, capacity_in, caps_in}
use Rattle.ledger.specs.Rows.{row_at, status_of, stored_terms, holds_uti, place_in, place_of, is_known, swap_row, swap_status, new_row, numbers_after, header_after}
use Rattle.ledger.proofs.RowLaws as row
use Rattle.ledger.proofs.RightHeader.{rows_fit, capacity_most}
use Rattle.ledger.proofs.RowAfterLaws.{length_row_after}
use Rattle.ledger.proofs.RowFields.{new_holds, after_holds}
use Rattle.ledger.proofs.ReadBack.{row_length, row_rows, row_next, row_caps, row_fixed, row_total, row_same, row_other, raised_caps, raised_row, raised_length, raised_fixed, raised_rows, raised_next, raised_total}
use Rattle.ledger.proofs.Outside.{fixed_in}
use Rattle.ledger.proofs.TotalsLaws.{total_most, two_most}
use Rattle.submission.specs.Submission.{swap_of, line_due_in, cap_on, masked_terms, terms_for, place_for, row_for, ledger_for}
use Rattle.submission.proofs.LineDueLaws.{old_unless_due, new_due}
use Rattle.submission.proofs.Acceptance.{HasPlace}

-- the row of a known swap holds its UTI
pub known_holds : (l u : Bytes) → place_of l u < rows_in_use l → holds_uti u (swap_row l u) ≡ true
unfolding place_in
known_holds l u h = first_passes (λ k. holds_uti u (row_at l k)) 0 (rows_in_use l) (omega arith)

-- ---- terms have one length

length_masked : (caps : Caps) (m : Bytes) → length (masked_terms caps m) ≡ terms_size
unfolding masked_terms
length_masked caps m = length_terms (cap_on caps m) m

pub length_stored : (r : Bytes) → length r ≡ row_size → length (stored_terms r) ≡ terms_size
unfolding stored_terms
length_stored r size = length_part r terms_at terms_size (omega arith)

-- ---- the ledger after

module _ {largest : ℕ} {l m : Bytes} {a : Action} (f : HasPlace largest l m a) (small : largest < 256 ^ u32) where
  room : (j : ℕ) → j < capacity_in l → row_start (suc j) ≤ length l
  room j h = omega (arith, rows_fit largest l f.header)

  pub row_whole : (j : ℕ) → j < capacity_in l → length (row_at l j) ≡ row_size
  row_whole j h = row.length_row l j (omega (arith, room j h))

  known_place : is_known l (swap_of m) ≡ true → place_of l (swap_of m) < capacity_in l
  unfolding is_known
  known_place e = omega (arith, ltb-true (place_of l (swap_of m)) (rows_in_use l) e, f.header.rows)

  pub length_shown : length (terms_for a l m) ≡ terms_size
  unfolding terms_for
  length_shown = by (is_full a) refl
    where
      by : (b : Bool) → is_full a ≡ b → length (choose b (masked_terms (caps_in l) m) (stored_terms (swap_row l (swap_of m)))) ≡ terms_size
      by true e = length_masked (caps_in l) m
      by false e = length_stored (swap_row l (swap_of m)) (row_whole (place_of l (swap_of m)) (known_place (f.known (old_unless_full a e))))

  pub length_after : length (row_for a l m) ≡ row_size
  unfolding row_for
  length_after = length_row_after a (line_due_in a l m) _ (swap_of m) (next_identifier l) (terms_for a l m) (row_at l (place_for a l m)) length_shown (row_whole (place_for a l m) f.place)

  -- the swap's status, and the one that the message leads to
  abbrev before : ℕ
  before = swap_status l (swap_of m)

  abbrev after : ℕ
  after = next_status a (swap_status l (swap_of m))

  -- a new swap has no status
  pub new_status : is_new a ≡ true → swap_status l (swap_of m) ≡ unknown
  unfolding swap_status
  new_status e = rw (f.free e)

  pub low : swap_status l (swap_of m) ≤ ported
  low = by (is_new a) refl
    where
      by : (b : Bool) → is_new a ≡ b → swap_status l (swap_of m) ≤ ported
      by true e = omega (arith, new_status e)
      by false e = (f.status e).1

  pub high : next_status a (swap_status l (swap_of m)) ≤ ported
  high = f.step.1

  abbrev stored : Bytes
  stored = splice l (row_start (place_for a l m)) (row_for a l m)

  here : row_start (suc (place_for a l m)) ≤ length l
  here = room (place_for a l m) f.place

  header_there : header_size ≤ length (splice l (row_start (place_for a l m)) (row_for a l m))
  header_there = omega (arith, row_length l (row_for a l m) (place_for a l m) length_after here)

  -- nothing grows or shrinks
  pub ledger_length : length (ledger_for a l m) ≡ length l
  unfolding ledger_for
  ledger_length = raised_length a (line_due_in a l m) before after _ _ _ header_there low high ∙ row_length l (row_for a l m) (place_for a l m) length_after here

  -- NEWT takes the next row
  pub new_place : is_new a ≡ true → place_for a l m ≡ rows_in_use l
  unfolding place_for
  new_place e = rw e

  pub old_place : is_new a ≡ false → place_for a l m ≡ place_of l (swap_of m)
  unfolding place_for
  old_place e = rw e

  pub rows_raised : rows_in_use (ledger_for a l m) ≡ choose (is_new a) (rows_in_use l + 1) (rows_in_use l)
  unfolding ledger_for
  rows_raised =
      raised_rows a (line_due_in a l m) before after (rows_in_use l) (next_identifier l) stored header_there low high (λ e. omega (arith, f.place, new_place e, capacity_most largest l f.header))
      ∙ ap (choose (is_new a) (rows_in_use l + 1)) (row_rows l (row_for a l m) (place_for a l m) length_after here)

  pub next_raised : next_identifier (ledger_for a l m) ≡ choose (line_due_in a l m) (next_identifier l + 1) (next_identifier l)
  unfolding ledger_for
  next_raised =
      raised_next a (line_due_in a l m) before after (rows_in_use l) (next_identifier l) stored header_there low high (omega (arith, f.header.next))
      ∙ ap (choose (line_due_in a l m) (next_identifier l + 1)) (row_next l (row_for a l m) (place_for a l m) length_after here)

  pub caps_kept : caps_in (ledger_for a l m) ≡ caps_in l
  unfolding ledger_for
  caps_kept = raised_caps a (line_due_in a l m) before after (rows_in_use l) (next_identifier l) stored header_there low high ∙ row_caps l (row_for a l m) (place_for a l m) length_after here

  pub fixed_kept : fixed_in (ledger_for a l m) ≡ fixed_in l
  unfolding ledger_for
  fixed_kept = raised_fixed a (line_due_in a l m) before after (rows_in_use l) (next_identifier l) stored header_there low high ∙ row_fixed l (row_for a l m) (place_for a l m) length_after here

  pub row_written : row_at (ledger_for a l m) (place_for a l m) ≡ row_for a l m
  unfolding ledger_for
  row_written = raised_row a (line_due_in a l m) before after (rows_in_use l) (next_identifier l) stored header_there low high (place_for a l m) ∙ row_same l (row_for a l m) (place_for a l m) length_after here

  pub row_kept : (j : ℕ) → (j ≡ place_for a l m → ⊥) → row_at (ledger_for a l m) j ≡ row_at l j
  unfolding ledger_for
  row_kept j differ = raised_row a (line_due_in a l m) before after (rows_in_use l) (next_identifier l) stored header_there low high j ∙ row_other l (row_for a l m) (place_for a l m) length_after here j differ

  -- ---- the totals

  -- no total is larger than the rows in use
  most : (s : ℕ) → live ≤ s → s ≤ ported → total_in s l ≤ rows_in_use l
  most s p q = omega (arith, total_most l s p q, f.header.totals)

  -- the old status's total can be lowered, and the new one's raised
  pub lowers : (swap_status l (swap_of m) ≡ unknown → ⊥) → (0 < total_in (swap_status l (swap_of m)) l) × (total_in (swap_status l (swap_of m)) l < 256 ^ u32)
  lowers known = by (is_new a) refl
    where
      by : (b : Bool) → is_new a ≡ b → (0 < total_in (swap_status l (swap_of m)) l) × (total_in (swap_status l (swap_of m)) l < 256 ^ u32)
      by true e = absurd (known (new_status e))
      by false e =
          let s = f.status e in
          (f.counted e, omega (arith, most before s.0 s.1, f.header.rows, capacity_most largest l f.header))

  raises : (swap_status l (swap_of m) ≡ next_status a (swap_status l (swap_of m)) → ⊥) → total_in (next_status a (swap_status l (swap_of m))) l + 1 < 256 ^ u32
  raises differ = by (is_new a) refl
    where
      by : (b : Bool) → is_new a ≡ b → total_in (next_status a (swap_status l (swap_of m))) l + 1 < 256 ^ u32
      by true e = omega (arith, most after f.step.0 f.step.1, f.place, new_place e, capacity_most largest l f.header)
      by false e =
          let s = f.status e in
          omega (arith, two_most l before s.0 s.1 after f.step.0 f.step.1 differ, f.counted e, f.header.totals, f.header.rows, capacity_most largest l f.header)

  -- each total loses the swap where it had that status and gains it where it has it now
  pub totals_moved : (s : ℕ) → live ≤ s → s ≤ ported → total_in s (ledger_for a l m) + adds (swap_status l (swap_of m)) s ≡ total_in s l + adds (next_status a (swap_status l (swap_of m))) s
  unfolding ledger_for
  totals_moved s p q =
      let kept : (t : ℕ) → t ≤ ported → total_in t stored ≡ total_in t l = row_total l (row_for a l m) (place_for a l m) length_after here in
      raised_total a (line_due_in a l m) before after (rows_in_use l) (next_identifier l) stored header_there low high f.step.0 (λ h. rw (kept before low) (lowers h)) (λ h. omega (arith, kept after high, raises h)) s p q
      ∙ ap (λ n. n + adds after s) (kept s q)

  -- where no line is due and the status stays, nothing moves
  row_stays : line_due_in a l m ≡ false → next_status a (swap_status l (swap_of m)) ≡ swap_status l (swap_of m) → row_for a l m ≡ row_at l (place_for a l m)
  unfolding row_for swap_status
  row_stays due step =
      let old : is_new a ≡ false = old_unless_due a l m due in
      let status : next_status a (swap_status l (swap_of m)) ≡ status_of (row_at l (place_for a l m)) = step ∙ rw (f.known old, old_place old) in
      rw (due, status) (row.status_own (row_at l (place_for a l m)) (row_whole (place_for a l m) f.place))

  pub ledger_stays : line_due_in a l m ≡ false → next_status a (swap_status l (swap_of m)) ≡ swap_status l (swap_of m) → ledger_for a l m ≡ l
  unfolding ledger_for header_after numbers_after totals_after
  ledger_stays due step = rw (due, old_unless_due a l m due, row_stays due step, step, eq-eqb (swap_status l (swap_of m)) _ refl) (row.row_own l (place_for a l m) (omega (arith, here)))

  -- ---- which UTIs the rows hold

  -- the row that NEWT writes holds the message's UTI and no other
  pub new_row_holds : is_new a ≡ true → (v : Bytes) → (holds_uti v (row_for a l m) ≡ true) ↔ (swap_of m ≡ v)
  unfolding row_for
  new_row_holds e v =
      let is : row_for a l m ≡ new_row (next_status a (swap_status l (swap_of m))) (swap_of m) (next_identifier l) (terms_for a l m) = rw (new_due a l m e, e) in
      rw is (new_holds _ (swap_of m) (next_identifier l) (terms_for a l m) f.uti v)

  -- the row that any other action writes holds the UTI that it held
  pub old_row_holds : is_new a ≡ false → (v : Bytes) → length v ≤ uti_size → holds_uti v (row_for a l m) ≡ holds_uti v (row_at l (place_for a l m))
  unfolding row_for
  old_row_holds e v h = after_holds a (line_due_in a l m) _ (swap_of m) (next_identifier l) (terms_for a l m) (row_at l (place_for a l m)) length_shown (row_whole (place_for a l m) f.place) e v h

  old_holds : is_new a ≡ false → (v : Bytes) → length v ≤ uti_size → (j : ℕ) → holds_uti v (row_at (ledger_for a l m) j) ≡ holds_uti v (row_at l j)
  old_holds e v h j = by (eqb j (place_for a l m)) refl
    where
      by : (b : Bool) → eqb j (place_for a l m) ≡ b → holds_uti v (row_at (ledger_for a l m) j) ≡ holds_uti v (row_at l j)
      by true g =
          let at : j ≡ place_for a l m = eqb-true _ _ g in
          rw at (ap (holds_uti v) row_written ∙ old_row_holds e v h)
      by false g = ap (holds_uti v) (row_kept j (eqb-false _ _ g))

  old_places : is_new a ≡ false → (v : Bytes) → length v ≤ uti_size → place_of (ledger_for a l m) v ≡ place_of l v
  unfolding place_in
  old_places e v h =
      ap (first_from (λ j. holds_uti v (row_at (ledger_for a l m) j)) 0) (rows_raised ∙ rw e)
      ∙ first_same (λ j. holds_uti v (row_at (ledger_for a l m) j)) (λ j. holds_uti v (row_at l j)) 0 (rows_in_use l) (λ j g. old_holds e v h j)

  -- NEWT adds its row behind those in use
  pub new_row_at : is_new a ≡ true → row_at (ledger_for a l m) (rows_in_use l) ≡ row_for a l m
  new_row_at e = ap (row_at (ledger_for a l m)) (sym (new_place e)) ∙ row_written

  -- the rows in use before hold what they held
  new_holds_before : is_new a ≡ true → (v : Bytes) (j : ℕ) → j < rows_in_use l → holds_uti v (row_at (ledger_for a l m) j) ≡ holds_uti v (row_at l j)
  new_holds_before e v j h = ap (holds_uti v) (row_kept j (λ g. omega (arith, g, h, new_place e)))

  new_rows : is_new a ≡ true → rows_in_use (ledger_for a l m) ≡ suc (rows_in_use l)
  new_rows e = rows_raised ∙ rw (e, add-one)

  first_before : is_new a ≡ true → (v : Bytes) → first_from (λ j. holds_uti v (row_at (ledger_for a l m) j)) 0 (rows_in_use l) ≡ place_of l v
  unfolding place_in
  first_before e v = first_same (λ j. holds_uti v (row_at (ledger_for a l m) j)) (λ j. holds_uti v (row_at l j)) 0 (rows_in_use l) (λ j h. new_holds_before e v j (omega arith))

  -- a UTI that was found is found where it was
  new_found : is_new a ≡ true → (v : Bytes) → place_of l v < rows_in_use l → place_of (ledger_for a l m) v ≡ place_of l v
  unfolding place_in
  new_found e v h =
      let g : ℕ → Bool = λ j. holds_uti v (row_at (ledger_for a l m) j) in
      let same : first_from g 0 (rows_in_use l) ≡ place_of l v = first_before e v in
      ap (first_from g 0) (new_rows e) ∙ first_stays g 0 (rows_in_use l) (omega arith) ∙ same

  -- one that was not is asked of the new row
  new_asked : is_new a ≡ true → (v : Bytes) → rows_in_use l ≤ place_of l v → place_of (ledger_for a l m) v ≡ choose (holds_uti v (row_at (ledger_for a l m) (rows_in_use l))) (rows_in_use l) (suc (rows_in_use l))
  unfolding place_in
  new_asked e v h =
      let g : ℕ → Bool = λ j. holds_uti v (row_at (ledger_for a l m) j) in
      let same : first_from g 0 (rows_in_use l) ≡ place_of l v = first_before e v in
      ap (first_from g 0) (new_rows e) ∙ (rw zero-add at (first_last g 0 (rows_in_use l) (omega arith)))

  -- ---- the message's swap

  own_place : (b : Bool) → is_new a ≡ b → place_of (ledger_for a l m) (swap_of m) ≡ place_for a l m
  unfolding is_known
  own_place true e =
      let none : rows_in_use l ≤ place_of l (swap_of m) = ltb-false _ _ (f.free e) in
      new_asked e (swap_of m) none ∙ rw (new_row_at e, (new_row_holds e (swap_of m)).1 refl) (sym (new_place e))
  own_place false e = old_places e (swap_of m) f.uti ∙ sym (old_place e)

  -- its row is the one written
  pub own_row : swap_row (ledger_for a l m) (swap_of m) ≡ row_for a l m
  own_row = ap (row_at (ledger_for a l m)) (own_place (is_new a) refl) ∙ row_written

  -- ---- any other swap

  module _ (v : Bytes) (h : length v ≤ uti_size) (differ : swap_of m ≡ v → ⊥) where
    apart : is_new a ≡ false → place_of l v < rows_in_use l → place_of l v ≡ place_for a l m → ⊥
    unfolding is_known
    apart e g p =
        let own : holds_uti (swap_of m) (swap_row l (swap_of m)) ≡ true = known_holds l (swap_of m) (ltb-true _ _ (f.known e)) in
        let at : place_of l v ≡ place_of l (swap_of m) = p ∙ old_place e in
        differ (row.holds_once (swap_of m) v (swap_row l (swap_of m)) own (subst (λ j. holds_uti v (row_at l j) ≡ true) at (known_holds l v g)))

    other_holds : is_new a ≡ true → holds_uti v (row_at (ledger_for a l m) (rows_in_use l)) ≡ false
    other_holds e = ap (holds_uti v) (new_row_at e) ∙ not_true_false _ (λ g. differ ((new_row_holds e v).0 g))

    other_place : (b : Bool) → is_new a ≡ b → place_of (ledger_for a l m) v < rows_in_use (ledger_for a l m) → (place_of l v < rows_in_use l) × (place_of (ledger_for a l m) v ≡ place_of l v) × (place_of l v ≡ place_for a l m → ⊥)
    other_place false e g =
        let same : rows_in_use (ledger_for a l m) ≡ rows_in_use l = rows_raised ∙ rw e in
        let place : place_of (ledger_for a l m) v ≡ place_of l v = old_places e v h in
        let in_use : place_of l v < rows_in_use l = omega arith in
        (in_use, place, apart e in_use)
    other_place true e g = by (ltb (place_of l v) (rows_in_use l)) refl
      where
        by : (b : Bool) → ltb (place_of l v) (rows_in_use l) ≡ b → (place_of l v < rows_in_use l) × (place_of (ledger_for a l m) v ≡ place_of l v) × (place_of l v ≡ place_for a l m → ⊥)
        by true p =
            let in_use : place_of l v < rows_in_use l = ltb-true _ _ p in
            (in_use, new_found e v in_use, λ q. omega (arith, q, in_use, new_place e))
        by false p =
            let none : rows_in_use l ≤ place_of l v = ltb-false _ _ p in
            let past : place_of (ledger_for a l m) v ≡ suc (rows_in_use l) = new_asked e v none ∙ rw (other_holds e) in
            absurd (omega (arith, past, g, new_rows e))

    -- where it is known after, it was known before, and its row is what it was
    pub other_kept : is_known (ledger_for a l m) v ≡ true → (is_known l v ≡ true) × (swap_row (ledger_for a l m) v ≡ swap_row l v)
    unfolding is_known
    other_kept e =
        let p = other_place (is_new a) refl (ltb-true _ _ e) in
        (lt-ltb _ _ p.0, ap (row_at (ledger_for a l m)) p.1 ∙ row_kept (place_of l v) p.2)
