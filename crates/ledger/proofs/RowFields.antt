-- What a row says after an action has written it. Assumes nothing.
use Prim.Native.Nat.{ℕ, ◌+◌, ◌^◌, ◌<◌, ◌≤◌}
use mathlib.Core.Bool.{Bool, true, false, false≢true}
use mathlib.Core.Path.{◌≡◌, refl, sym, ap, ◌∙◌}
use mathlib.Core.Logic.{◌↔◌}
use mathlib.Core.List.{[], ◌∷◌}
use native.Mathlib.Omega.{arith}
use lib.ListN.{length, take, drop, get_or}
use lib.Seq.{take_at, take-take}
use lib.Dec.{eqb}
use borrow.Author.Tests.{eqb-true, eq-eqb}
use Rattle.octets.specs.Bytes.{Bytes}
use Rattle.octets.specs.Choice.{choose, both}
use Rattle.octets.specs.Part.{part, splice}
use Rattle.octets.specs.Same.{same_bytes}
use Rattle.octets.specs.Number.{from_le, to_le}
use Rattle.octets.specs.Field.{field}
use Rattle.octets.specs.Fields.{bytes_of}
use Rattle.octets.proofs.ChoiceLaws.{both_first, both_second}
use Rattle.octets.proofs.PartLaws.{part_at, part_before, part_after, same_byte}
use Rattle.octets.proofs.SameLaws.{same_refl, same_true}
use Rattle.octets.proofs.NumberLaws.{length-to_le, from_le-to_le}
use Rattle.octets.proofs.FieldLaws.{field_fits, field_exact}
use Rattle.octets.proofs.FieldRun.{placed_at, number_read}
use Rattle.terms.specs.Terms.{terms_size}
use Rattle.actions.specs.declared.Action.{Action}
use Rattle.actions.specs.Actions.{is_full, is_new}
use Rattle.ledger.specs.Layout.{u64, status_at, length_at, uti_at, uti_size, identifier_at, terms_at, tail_at, tail_size, row_size}
use Rattle.ledger.specs.Rows.{status_of, identifier_of, stored_terms, holds_uti, new_row, with_status, with_identifier, with_terms, row_after}
use Rattle.ledger.proofs.RowAfterLaws.{row_placed, length_with_status, length_with_identifier, by_way}

-- a field that is long enough opens with its text
opens : (n : ℕ) (u : Bytes) → length u ≤ n → take (length u) (field n u) ≡ u
opens n u h = rw (field_fits n u h) (take_at u _ (length u) refl)

-- ---- which UTI a row holds

-- bytes from the length on, up to the identifier, say which UTI a row holds
same_uti : (r r' : Bytes) → ((from n : ℕ) → length_at ≤ from → from + n ≤ identifier_at → part r' from n ≡ part r from n) → (u : Bytes) → length u ≤ uti_size → holds_uti u r' ≡ holds_uti u r
unfolding holds_uti
same_uti r r' same u h =
    let byte : get_or r' length_at 0 ≡ get_or r length_at 0 = same_byte r' r length_at (same length_at 1 (omega arith) (omega arith)) in
    rw (byte, same uti_at (length u) (omega arith) (omega arith))

module _ (r : Bytes) (size : length r ≡ row_size) where
  module _ (status : ℕ) where
    status_fits : status_at + length (status ∷ []) ≤ length r
    status_fits = omega arith

    -- a status leaves what is after it
    status_rest : (from n : ℕ) → length_at ≤ from → part (with_status status r) from n ≡ part r from n
    unfolding with_status
    status_rest from n b = part_after r (status ∷ []) status_at status_fits from n b

    status_status : status_of (with_status status r) ≡ status
    unfolding status_of with_status splice
    status_status = refl

  module _ (identifier : ℕ) where
    identifier_fits : identifier_at + length (to_le u64 identifier) ≤ length r
    identifier_fits = omega (arith, length-to_le u64 identifier)

    identifier_front : (from n : ℕ) → from + n ≤ identifier_at → part (with_identifier identifier r) from n ≡ part r from n
    unfolding with_identifier
    identifier_front from n b = part_before r (to_le u64 identifier) identifier_at identifier_fits from n b

    identifier_rest : (from n : ℕ) → terms_at ≤ from → part (with_identifier identifier r) from n ≡ part r from n
    unfolding with_identifier
    identifier_rest from n b = part_after r (to_le u64 identifier) identifier_at identifier_fits from n (omega (arith, length-to_le u64 identifier))

    identifier_identifier : identifier < 256 ^ u64 → identifier_of (with_identifier identifier r) ≡ identifier
    unfolding identifier_of with_identifier
    identifier_identifier b = ap from_le (rw (length-to_le u64 identifier) at (part_at r (to_le u64 identifier) identifier_at identifier_fits)) ∙ from_le-to_le u64 identifier b

  module _ (terms : Bytes) (long : length terms ≡ terms_size) where
    terms_fit : terms_at + length terms ≤ length r
    terms_fit = omega arith

    terms_front : (from n : ℕ) → from + n ≤ terms_at → part (with_terms terms r) from n ≡ part r from n
    unfolding with_terms
    terms_front from n b = part_before r terms terms_at terms_fit from n b

    terms_rest : (from n : ℕ) → tail_at ≤ from → part (with_terms terms r) from n ≡ part r from n
    unfolding with_terms
    terms_rest from n b = part_after r terms terms_at terms_fit from n (omega arith)

    terms_terms : stored_terms (with_terms terms r) ≡ terms
    unfolding stored_terms with_terms
    terms_terms = rw (long) at (part_at r terms terms_at terms_fit)

-- ---- the row of a new swap

module _ (status : ℕ) (u : Bytes) (identifier : ℕ) (terms : Bytes) where
  new_status : status_of (new_row status u identifier terms) ≡ status
  unfolding status_of new_row bytes_of field
  new_status = refl

  new_identifier : identifier < 256 ^ u64 → identifier_of (new_row status u identifier terms) ≡ identifier
  unfolding identifier_of
  new_identifier b = number_read u64 identifier (placed_at _ _ _ (row_placed status u identifier terms) 3) b

  new_terms_lem : length terms ≡ terms_size → stored_terms (new_row status u identifier terms) ≡ terms
  unfolding stored_terms
  new_terms_lem long = placed_at _ _ _ (row_placed status u identifier terms) 4 ∙ field_exact terms_size terms long

  new_length : get_or (new_row status u identifier terms) length_at 0 ≡ length u
  unfolding new_row bytes_of field
  new_length = refl

  new_uti : length u ≤ uti_size → part (new_row status u identifier terms) uti_at (length u) ≡ u
  new_uti h =
      sym (take-take (length u) uti_size (drop uti_at (new_row status u identifier terms)) h)
      ∙ ap (take (length u)) (placed_at _ _ _ (row_placed status u identifier terms) 2)
      ∙ opens uti_size u h

  -- it holds this UTI and no other
  pub new_holds : length u ≤ uti_size → (v : Bytes) → (holds_uti v (new_row status u identifier terms) ≡ true) ↔ (u ≡ v)
  unfolding holds_uti
  new_holds h v =
      let r : Bytes = new_row status u identifier terms in
      let long : Bool = eqb (get_or r length_at 0) (length v) in
      let same : Bool = same_bytes (part r uti_at (length v)) v in (
        λ e.
            let n : length u ≡ length v = sym new_length ∙ eqb-true _ _ (both_first long same e) in
            sym (new_uti h) ∙ rw n (same_true _ _ (both_second long same e)),
        λ e. rw (← e, new_length, eq-eqb (length u) (length u) refl, new_uti h) (same_refl u),
      )

-- ---- the row after an action

module _ (a : Action) (due : Bool) (status : ℕ) (u : Bytes) (identifier : ℕ) (terms r : Bytes) (long : length terms ≡ terms_size) (size : length r ≡ row_size) where
  abbrev set : Bytes
  set = with_status status r

  abbrev marked : Bytes
  marked = with_identifier identifier (with_status status r)

  abbrev changed : Bytes
  changed = with_terms terms (with_identifier identifier (with_status status r))

  set_size : length set ≡ row_size
  set_size = length_with_status status r size

  marked_size : length marked ≡ row_size
  marked_size = length_with_identifier identifier set set_size

  -- the status is written by every action
  pub after_status : status_of (row_after a due status u identifier terms r) ≡ status
  unfolding status_of
  after_status =
      let one : get_or set status_at 0 ≡ status = status_status r size status in
      let two : get_or marked status_at 0 ≡ status = same_byte marked set status_at (identifier_front set set_size identifier status_at 1 (omega arith)) ∙ one in
      let three : get_or changed status_at 0 ≡ status = same_byte changed marked status_at (terms_front marked marked_size terms long status_at 1 (omega arith)) ∙ two in
      by_way (λ f w n x. get_or x status_at 0 ≡ status) (new_status status u identifier terms) three two (λ f n. one) a due

  -- the identifier is written where a line is due
  pub after_identifier : identifier < 256 ^ u64 → identifier_of (row_after a due status u identifier terms r) ≡ choose due identifier (identifier_of r)
  unfolding identifier_of
  after_identifier h =
      let one : from_le (part set identifier_at u64) ≡ from_le (part r identifier_at u64) = ap from_le (status_rest r size status identifier_at u64 (omega arith)) in
      let two : from_le (part marked identifier_at u64) ≡ identifier = identifier_identifier set set_size identifier h in
      let three : from_le (part changed identifier_at u64) ≡ identifier = ap from_le (terms_front marked marked_size terms long identifier_at u64 (omega arith)) ∙ two in
      by_way (λ f w n x. from_le (part x identifier_at u64) ≡ choose w identifier (from_le (part r identifier_at u64))) (new_identifier status u identifier terms h) three two (λ f n. one) a due

  -- the terms are written by a full action where a line is due
  pub after_terms : stored_terms (row_after a due status u identifier terms r) ≡ choose (both due (is_full a)) terms (stored_terms r)
  unfolding stored_terms
  after_terms =
      let one : part set terms_at terms_size ≡ part r terms_at terms_size = status_rest r size status terms_at terms_size (omega arith) in
      let two : part marked terms_at terms_size ≡ part r terms_at terms_size = identifier_rest set set_size identifier terms_at terms_size (omega arith) ∙ one in
      let three : part changed terms_at terms_size ≡ terms = terms_terms marked marked_size terms long in
      by_way (λ f w n x. part x terms_at terms_size ≡ choose (both w f) terms (part r terms_at terms_size)) (new_terms_lem status u identifier terms long) three two (λ f n. one) a due

  -- length, UTI and padding are written by NEWT alone
  pub after_kept : is_new a ≡ false → (from n : ℕ) → length_at ≤ from → from + n ≤ identifier_at → part (row_after a due status u identifier terms r) from n ≡ part r from n
  after_kept e from n p q =
      let one : part set from n ≡ part r from n = status_rest r size status from n p in
      let two : part marked from n ≡ part r from n = identifier_front set set_size identifier from n q ∙ one in
      let three : part changed from n ≡ part r from n = terms_front marked marked_size terms long from n (omega arith) ∙ two in
      by_way (λ f w new x. new ≡ false → part x from n ≡ part r from n) (λ z. absurd (false≢true (sym z))) (λ z. three) (λ z. two) (λ f w z. one) a due e

  -- and so are the last bytes
  pub after_tail : is_new a ≡ false → part (row_after a due status u identifier terms r) tail_at tail_size ≡ part r tail_at tail_size
  after_tail e =
      let one : part set tail_at tail_size ≡ part r tail_at tail_size = status_rest r size status tail_at tail_size (omega arith) in
      let two : part marked tail_at tail_size ≡ part r tail_at tail_size = identifier_rest set set_size identifier tail_at tail_size (omega arith) ∙ one in
      let three : part changed tail_at tail_size ≡ part r tail_at tail_size = terms_rest marked marked_size terms long tail_at tail_size (omega arith) ∙ two in
      by_way (λ f w new x. new ≡ false → part x tail_at tail_size ≡ part r tail_at tail_size) (λ z. absurd (false≢true (sym z))) (λ z. three) (λ z. two) (λ f w z. one) a due e

  pub after_holds : is_new a ≡ false → (v : Bytes) → length v ≤ uti_size → holds_uti v (row_after a due status u identifier terms r) ≡ holds_uti v r
  after_holds e v h = same_uti r (row_after a due status u identifier terms r) (after_kept e) v h
