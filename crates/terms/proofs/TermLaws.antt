-- Laws of specs/Terms.antt. Assumes nothing.
use Prim.Native.Nat.{ℕ, ◌+◌, ◌≤◌}
use mathlib.Core.Bool.{Bool}
use mathlib.Core.Path.{◌≡◌}
use mathlib.Core.List.{[], ◌∷◌}
use lib.ListN.{length, set, drop_of_length-le}
use Rattle.std.proofs.lemmas.List.{set_split}
use Rattle.std.proofs.Common.{add-one}
use native.Mathlib.Omega.{arith}
use borrow.Author.Tests.{eq-eqb, ne_eqb}
use Rattle.octets.specs.Bytes.{Bytes}
use Rattle.octets.specs.Choice.{choose}
use Rattle.octets.specs.Text.{text}
use Rattle.values.specs.Code.{is_true}
use Rattle.notional.proofs.MaskingLaws.{shown_largest}
use Rattle.price.specs.Price.{shown_price}
use Rattle.octets.specs.Part.{splice}
use Rattle.octets.specs.Field.{field}
use Rattle.octets.specs.Fields.{FieldText, written}
use Rattle.terms.specs.Terms.{mark_size, shown_truth, price_text, term_fields, terms_of, terms_size}
use Rattle.terms.specs.Laws.{NotionalFits}
use Rattle.octets.proofs.FieldRun.{then_written, last_written, length_bytes, all_written}

-- ---- what is shown of a value

-- a value without bytes
nothing : (v : Bytes) → length v ≡ 0 → v ≡ []
nothing v e = drop_of_length-le v {i = 0} (omega arith)

-- a mark is written as one byte
pub mark_written : (d xs : Bytes) (at b : ℕ) → at + mark_size ≤ length d → b ∷ [] ≡ field mark_size xs → set d at b ≡ splice d at (field mark_size xs)
unfolding splice
mark_written d xs at b h e = rw (← e, add-one) (set_split d at b (omega arith))

pub truth_none : (v : Bytes) → length v ≡ 0 → v ≡ shown_truth v
unfolding shown_truth
truth_none v e = rw (eq-eqb _ _ e) (nothing v e)

pub truth_shown : (v : Bytes) (t : Bool) → (length v ≡ 0 → ⊥) → is_true v ≡ t → choose t (text "T") (text "F") ≡ shown_truth v
unfolding shown_truth
truth_shown v t some e = rw (ne_eqb _ _ some, e)

pub price_none : (v : Bytes) → length v ≡ 0 → v ≡ price_text v
unfolding price_text
price_none v e = rw (eq-eqb _ _ e) (nothing v e)

pub price_some : (v : Bytes) → (length v ≡ 0 → ⊥) → shown_price v ≡ price_text v
unfolding price_text
price_some v some = rw (ne_eqb _ _ some)

pub notional_fits : NotionalFits
notional_fits cap a h = omega (arith, shown_largest cap a h)

-- ---- the terms as a whole

pub length_terms : (cap : ℕ) (m : Bytes) → length (terms_of cap m) ≡ terms_size
unfolding terms_of
length_terms cap m = length_bytes (term_fields cap m)

-- four fields, written one after the other
pub four_written : (at : ℕ) (f₁ f₂ f₃ f₄ : FieldText) (d : Bytes) {d₁ d₂ d₃ last : Bytes}
    → d₁ ≡ splice d at (field f₁.0 f₁.1)
    → d₂ ≡ splice d₁ (at + f₁.0) (field f₂.0 f₂.1)
    → d₃ ≡ splice d₂ (at + f₁.0 + f₂.0) (field f₃.0 f₃.1)
    → last ≡ splice d₃ (at + f₁.0 + f₂.0 + f₃.0) (field f₄.0 f₄.1)
    → last ≡ written at (f₁ ∷ f₂ ∷ f₃ ∷ f₄ ∷ []) d
four_written at f₁ f₂ f₃ f₄ d e₁ e₂ e₃ e₄ = then_written _ _ _ _ e₁ (then_written _ _ _ _ e₂ (then_written _ _ _ _ e₃ (last_written _ _ _ e₄)))

-- written field by field, the terms are theirs
pub terms_written : (cap : ℕ) (m d : Bytes) {last : Bytes} → length d ≡ terms_size → last ≡ written 0 (term_fields cap m) d → last ≡ terms_of cap m
unfolding terms_of
terms_written cap m d size run = all_written (term_fields cap m) d size run
