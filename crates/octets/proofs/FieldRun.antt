-- Laws of specs/Fields.antt: written at their offsets, fields that follow each other are their bytes in a row. Assumes nothing.
use Prim.Native.Nat.{ℕ, zero, suc, ◌+◌, ◌^◌, ◌<◌, ◌≤◌}
use mathlib.Core.Path.{◌≡◌, refl, sym, ap, ◌∙◌}
use mathlib.Core.List.{List, [], ◌∷◌, ◌++◌, append_assoc, append-nil}
use native.Mathlib.Nat.{zero-add, add-zero, add_assoc}
use native.Mathlib.Omega.{arith}
use lib.ListN.{length, get_or, drop, length-append}
use lib.Seq.{take_at, drop_at, drop-drop}
use Rattle.octets.specs.Bytes.{Bytes}
use Rattle.octets.specs.Part.{part, splice}
use Rattle.octets.specs.Field.{field}
use Rattle.octets.specs.Number.{from_le, to_le}
use Rattle.octets.proofs.PartLaws.{length_splice, splice_splice, splice_none, splice_all}
use Rattle.octets.proofs.NumberLaws.{length-to_le, from_le-to_le}
use Rattle.octets.proofs.FieldLaws.{length_field, field_exact}
use Rattle.octets.specs.Fields.{FieldText, size_of, places, bytes_of, written, Placed}

-- ---- a run of writes

-- a field, then the others
pub then_written : (at : ℕ) (f : FieldText) (fs : List FieldText) (d : Bytes) {e last : Bytes} → e ≡ splice d at (field f.0 f.1) → last ≡ written (at + f.0) fs e → last ≡ written at (f ∷ fs) d
unfolding written
then_written at f fs d e l = l ∙ ap (written (at + f.0) fs) e

-- the last field
pub last_written : (at : ℕ) (f : FieldText) (d : Bytes) {e : Bytes} → e ≡ splice d at (field f.0 f.1) → e ≡ written at (f ∷ []) d
unfolding written
last_written at f d e = e

module _ (at : ℕ) (f : FieldText) (size : length f.1 ≡ f.0) (d : Bytes) where
  exact_text : splice d at f.1 ≡ splice d at (field f.0 f.1)
  exact_text = ap (splice d at) (sym (field_exact f.0 f.1 size))

  -- a field whose text is as long as it, then the others
  pub then_exact : (fs : List FieldText) {e last : Bytes} → e ≡ splice d at f.1 → last ≡ written (at + f.0) fs e → last ≡ written at (f ∷ fs) d
  then_exact fs e rest = then_written at f fs d (e ∙ exact_text) rest

  -- such a field is the last one
  pub last_exact : {e : Bytes} → e ≡ splice d at f.1 → e ≡ written at (f ∷ []) d
  last_exact e = last_written at f d (e ∙ exact_text)

written_append : (at : ℕ) (fs gs : List FieldText) (d : Bytes) → written at (fs ++ gs) d ≡ written (at + size_of fs) gs (written at fs d)
unfolding written
written_append at [] gs d = rw add-zero
written_append at (f ∷ fs) gs d = written_append (at + f.0) fs gs _ ∙ rw add_assoc

-- a group of fields, then the others
pub then_group : (at : ℕ) (fs gs : List FieldText) (d : Bytes) {e last : Bytes} → e ≡ written at fs d → last ≡ written (at + size_of fs) gs e → last ≡ written at (fs ++ gs) d
then_group at fs gs d e l = l ∙ ap (written (at + size_of fs) gs) e ∙ sym (written_append at fs gs d)

-- ---- the bytes in a row

pub length_bytes : (fs : List FieldText) → length (bytes_of fs) ≡ size_of fs
unfolding bytes_of
length_bytes [] = refl
length_bytes (f ∷ fs) = rw (length-append, length_field, length_bytes fs)

-- written into bytes that are long enough, fields are their bytes in a row
pub written_row : (at : ℕ) (fs : List FieldText) (d : Bytes) → at + size_of fs ≤ length d → written at fs d ≡ splice d at (bytes_of fs)
unfolding written bytes_of
written_row at [] d h = sym (splice_none d at)
written_row at (f ∷ fs) d h =
    let text : Bytes = field f.0 f.1 in
    let size : length text ≡ f.0 = length_field f.0 f.1 in
    let long : length (splice d at text) ≡ length d = length_splice d text at (omega arith) in
    written_row (at + f.0) fs (splice d at text) (omega arith)
    ∙ ap (λ (n : ℕ). splice (splice d at text) (at + n) (bytes_of fs)) (sym size)
    ∙ splice_splice d text (bytes_of fs) at (omega (arith, length_bytes fs))

-- written into bytes of just their length
pub all_written : (fs : List FieldText) (d : Bytes) {last : Bytes} → length d ≡ size_of fs → last ≡ written 0 fs d → last ≡ bytes_of fs
all_written fs d size run = run ∙ written_row 0 fs d (omega arith) ∙ splice_all d (bytes_of fs) (omega (arith, length_bytes fs))

-- ---- each field stands at its offset

placed_from : (at : ℕ) (fs : List FieldText) (d rest : Bytes) → drop at d ≡ bytes_of fs ++ rest → Placed at fs d
unfolding bytes_of Placed
placed_from at [] d rest e = tt
placed_from at (f ∷ fs) d rest e =
    let text : Bytes = field f.0 f.1 in
    let size : length text ≡ f.0 = length_field f.0 f.1 in
    let here : drop at d ≡ text ++ (bytes_of fs ++ rest) = e ∙ append_assoc text (bytes_of fs) rest in
    let after : drop (at + f.0) d ≡ bytes_of fs ++ rest = sym (drop-drop f.0 at d) ∙ rw here (drop_at text (bytes_of fs ++ rest) f.0 size) in
    (rw here (take_at text (bytes_of fs ++ rest) f.0 size), placed_from (at + f.0) fs d rest after)

pub field_placed : (fs : List FieldText) → Placed 0 fs (bytes_of fs)
field_placed fs = placed_from 0 fs (bytes_of fs) [] (sym (append-nil (bytes_of fs)))

-- the field at a place of the list
pub placed_at : (at : ℕ) (fs : List FieldText) (d : Bytes) → Placed at fs d → (k : ℕ) → part d (get_or (places at fs) k (0, 0)).0 (get_or fs k (0, [])).0 ≡ field (get_or fs k (0, [])).0 (get_or fs k (0, [])).1
unfolding field Placed
placed_at at [] d p k = refl
placed_at at (f ∷ fs) d p zero = p.0
placed_at at (f ∷ fs) d p (suc k) = placed_at (at + f.0) fs d p.1 k

-- the number that a field holds is read back
pub number_read : {xs : Bytes} (n v : ℕ) → xs ≡ field n (to_le n v) → v < 256 ^ n → from_le xs ≡ v
number_read n v e h = ap from_le (e ∙ field_exact n (to_le n v) (length-to_le n v)) ∙ from_le-to_le n v h

-- ---- a layout at the front of longer bytes

module _ (fs : List FieldText) (end : ℕ) (d : Bytes) (ok : size_of fs ≡ end) where
  -- each field stands at its offset
  pub front_placed : Placed 0 fs (splice d 0 (bytes_of fs))
  unfolding splice
  front_placed = placed_from 0 fs (splice d 0 (bytes_of fs)) (drop (0 + length (bytes_of fs)) d) refl

  -- later bytes stay
  pub front_later : drop end (splice d 0 (bytes_of fs)) ≡ drop end d
  unfolding splice
  front_later =
      let long : length (bytes_of fs) ≡ end = length_bytes fs ∙ ok in
      drop_at (bytes_of fs) (drop (0 + length (bytes_of fs)) d) end long ∙ rw (zero-add, long)
