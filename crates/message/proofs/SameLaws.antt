-- Laws of two messages with the same codes: they have the same elements, and where the values are the same too, one length and one layout. Assumes nothing.
use Prim.Native.Nat.{ℕ, zero, suc, ◌+◌, ◌<◌}
use mathlib.Core.Path.{◌≡◌, refl, sym, ap, ap₂, ◌∙◌}
use mathlib.Core.Bool.{Bool, true}
use mathlib.Core.List.{List, ◌++◌}
use native.Mathlib.Omega.{arith}
use native.Mathlib.Nat.{sub-zero}
use lib.Dec.{ltb, leb, eqb}
use lib.ListN.{length}
use Rattle.octets.specs.Bytes.{Bytes}
use Rattle.octets.proofs.SearchLaws.{first_same}
use Rattle.message.specs.Layout.{count, code_at, layout_right}
use Rattle.message.specs.Values.{entry_from, value_at, value, is_there, values_from, SameCodes}
use Rattle.message.proofs.LayoutLaws.{entries_all, length_whole, layout_within, value_found, there_entry}

module _ (longest₁ most₁ : ℕ) (known₁ : List Bool) (m₁ : Bytes) (right₁ : layout_right longest₁ most₁ known₁ m₁ ≡ true)
    (longest₂ most₂ : ℕ) (known₂ : List Bool) (m₂ : Bytes) (right₂ : layout_right longest₂ most₂ known₂ m₂ ≡ true) (codes : SameCodes m₁ m₂) where
  -- an element has the same entry
  entry_same : (code : ℕ) → entry_from m₁ code 0 ≡ entry_from m₂ code 0
  unfolding entry_from
  entry_same code =
      rw (entries_all _ _ _ m₁ right₁, entries_all _ _ _ m₂ right₂, sub-zero (count m₁), sub-zero (count m₂), ← codes.0)
      (first_same (λ k. eqb (code_at m₁ k) code) (λ k. eqb (code_at m₂ k) code) 0 (count m₁) (λ k h. ap (λ (c : ℕ). eqb c code) (codes.1 k (omega arith))))

  -- so the same elements are there
  pub there_same : (code : ℕ) → is_there code m₁ ≡ is_there code m₂
  there_same code = there_entry _ _ _ m₁ right₁ code ∙ ap₂ ltb (entry_same code) codes.0 ∙ sym (there_entry _ _ _ m₂ right₂ code)

  -- and where each has the same value, so has each entry, and the messages are of one length
  module _ (same : (code : ℕ) → value code m₁ ≡ value code m₂) where
    entry_value : (k : ℕ) → k < count m₁ → value_at m₁ k ≡ value_at m₂ k
    entry_value k h =
        sym (value_found _ _ _ m₁ right₁ k h)
        ∙ same (code_at m₁ k)
        ∙ ap (λ (c : ℕ). value c m₂) (codes.1 k h)
        ∙ value_found _ _ _ m₂ right₂ k (omega (arith, codes.0))

    values_same : (d k : ℕ) → k + d ≡ count m₁ → values_from m₁ k d ≡ values_from m₂ k d
    unfolding values_from
    values_same zero k e = refl
    values_same (suc d) k e = ap₂ ◌++◌ (entry_value k (omega arith)) (values_same d (suc k) (omega arith))

    pub length_same : length m₁ ≡ length m₂
    length_same =
        let values : values_from m₁ 0 (count m₁) ≡ values_from m₂ 0 (count m₂) = values_same (count m₁) 0 (omega arith) ∙ ap (values_from m₂ 0) codes.0 in
        omega (arith, codes.0, ap length values, length_whole _ _ _ m₁ right₁, length_whole _ _ _ m₂ right₂)

    -- under any longest message both layouts are right, or neither is
    pub layout_same : (longest : ℕ) → layout_right longest most₁ known₁ m₁ ≡ layout_right longest most₂ known₂ m₂
    layout_same longest = layout_within _ _ _ m₁ right₁ longest ∙ ap (λ (n : ℕ). leb n longest) length_same ∙ sym (layout_within _ _ _ m₂ right₂ longest)
