-- Laws of specs/Rows.antt: what is written of a row leaves it as long as it is. Assumes nothing.
use Prim.Native.Nat.{ℕ}
use mathlib.Core.Bool.{Bool, true, false, false≢true}
use mathlib.Core.Path.{◌≡◌, refl, sym, ◌∙◌}
use mathlib.Core.List.{[], ◌∷◌}
use native.Mathlib.Omega.{arith}
use lib.ListN.{length}
use Rattle.octets.specs.Bytes.{Bytes}
use Rattle.octets.specs.Choice.{choose}
use Rattle.octets.specs.Number.{to_le}
use Rattle.octets.specs.Fields.{written, Placed}
use Rattle.octets.proofs.NumberLaws.{length-to_le}
use Rattle.octets.proofs.PartLaws.{length_splice}
use Rattle.octets.proofs.FieldRun.{length_bytes, all_written, field_placed}
use Rattle.terms.specs.Terms.{terms_size}
use Rattle.actions.specs.declared.Action.{Action}
use Rattle.actions.specs.Actions.{is_full, is_new}
use Rattle.actions.proofs.KindLaws.{old_unless_full}
use Rattle.ledger.specs.Layout.{u64, status_at, identifier_at, terms_at, row_size}
use Rattle.ledger.specs.Rows.{row_fields, new_row, with_status, with_identifier, with_terms, row_after}

module _ (status : ℕ) (u : Bytes) (identifier : ℕ) (terms : Bytes) where
  length_new_row : length (new_row status u identifier terms) ≡ row_size
  unfolding new_row
  length_new_row = length_bytes (row_fields status u identifier terms)

  -- its fields, written one after the other
  pub row_written : (d : Bytes) {last : Bytes} → length d ≡ row_size → last ≡ written status_at (row_fields status u identifier terms) d → last ≡ new_row status u identifier terms
  unfolding new_row
  row_written d size run = all_written (row_fields status u identifier terms) d size run

  -- each field stands at the specification's offset
  pub row_placed : Placed status_at (row_fields status u identifier terms) (new_row status u identifier terms)
  unfolding new_row
  row_placed = field_placed (row_fields status u identifier terms)

pub length_with_status : (status : ℕ) (r : Bytes) → length r ≡ row_size → length (with_status status r) ≡ row_size
unfolding with_status
length_with_status status r size = length_splice r (status ∷ []) status_at (omega arith) ∙ size

pub length_with_identifier : (identifier : ℕ) (r : Bytes) → length r ≡ row_size → length (with_identifier identifier r) ≡ row_size
unfolding with_identifier
length_with_identifier identifier r size = length_splice r (to_le u64 identifier) identifier_at (omega (arith, length-to_le u64 identifier)) ∙ size

length_with_terms : (terms r : Bytes) → length terms ≡ terms_size → length r ≡ row_size → length (with_terms terms r) ≡ row_size
unfolding with_terms
length_with_terms terms r long size = length_splice r terms terms_at (omega arith) ∙ size

-- ---- the row after an action

-- what holds of each of the four ways to write a row holds of the row after any action, with a line or without one; the tests say whether the action is full,
-- a line is due, and the action is new
pub by_way : (P : Bool → Bool → Bool → Bytes → Type 0) {new changed marked set : Bytes}
    → P true true true new
    → P true true false changed
    → P false true false marked
    → ((f n : Bool) → P f false n set)
    → (a : Action) (due : Bool) → P (is_full a) due (is_new a) (choose due (choose (is_new a) new (choose (is_full a) changed marked)) set)
by_way P {new} {changed} {marked} {set} one two three four a due = by (is_full a) due (is_new a) (old_unless_full a)
  where
    by : (f d n : Bool) → (f ≡ false → n ≡ false) → P f d n (choose d (choose n new (choose f changed marked)) set)
    by true true true old = one
    by true true false old = two
    by false true true old = absurd (false≢true (sym (old refl)))
    by false true false old = three
    by f false n old = four f n

pub length_row_after : (a : Action) (due : Bool) (status : ℕ) (u : Bytes) (identifier : ℕ) (terms r : Bytes) → length terms ≡ terms_size → length r ≡ row_size → length (row_after a due status u identifier terms r) ≡ row_size
length_row_after a due status u identifier terms r long size =
    let marked : length (with_identifier identifier (with_status status r)) ≡ row_size = length_with_identifier identifier _ (length_with_status status r size) in
    by_way (λ f l n x. length x ≡ row_size) (length_new_row status u identifier terms) (length_with_terms terms _ long marked) marked (λ f n. length_with_status status r size) a due
