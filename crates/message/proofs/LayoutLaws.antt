-- Laws of a right layout: no value is empty; the values stand in order without gap, and the last runs to the end; an element without a value
-- has no entry, and each entry is found by its code. Assumes nothing.
use Prim.Native.Nat.{ℕ, zero, suc, ◌+◌, ◌-◌, ◌/◌, ◌<◌, ◌≤◌, min}
use mathlib.Core.Path.{◌≡◌, refl, sym, ap, ap₂, ◌∙◌, subst}
use mathlib.Core.Bool.{Bool, true, false}
use mathlib.Core.List.{List, [], ◌++◌, append-nil}
use native.Mathlib.Omega.{arith}
use native.Mathlib.Nat.{zero-add, sub-zero}
use native.Mathlib.Numerals.{add-one}
use lib.Dec.{ltb, leb, eqb}
use lib.ListN.{length, get_or, take, drop, length-take, length-drop, take-append-drop}
use lib.Seq.{take_all, drop-drop}
use borrow.Author.Tests.{ltb-true, ltb-false, lt-ltb, le-ltb, le-leb, eqb-true, eq-eqb, ne_eqb}
use Rattle.octets.specs.Bytes.{Bytes}
use Rattle.octets.specs.Choice.{choose, both}
use Rattle.octets.specs.Search.{first_from, all}
use Rattle.octets.proofs.ChoiceLaws.{both_first, both_second, both_last, both_none}
use Rattle.octets.proofs.SearchLaws.{all_at, all_more, all_stop, all_end, first_le, first_passes, first_more, first_stop, first_end}
use Rattle.message.specs.Layout.{count_size, entry_size, count, code_at, offset_at, header_size, entry_right, layout_right}
use Rattle.message.specs.Values.{entries, entry_from, end_of, value_at, value, is_there, values_from}
use Rattle.message.specs.Laws.{LayoutLaws}

-- where there are entries, the layout is what they tell
pub layout_entries : (longest most : ℕ) (known : List Bool) (m : Bytes) → count_size ≤ length m → length m ≤ longest → count m ≤ most → 0 < count m
    → layout_right longest most known m ≡ all (entry_right known m) (count m)
unfolding layout_right
layout_entries longest most known m long short few some =
    let z : count m ≡ 0 → ⊥ = omega arith in
    rw (le-leb _ _ long, le-leb _ _ short, le-leb _ _ few, ne_eqb _ _ z)

-- a first entry without room behind the header is wrong
pub header_cut : (known : List Bool) (m : Bytes) → length m ≤ header_size m → entry_right known m 0 ≡ false
unfolding entry_right
header_cut known m h = both_none (get_or known (code_at m 0) false) _ (go (ltb (offset_at m 0) (length m)) refl)
  where
    go : (t : Bool) → ltb (offset_at m 0) (length m) ≡ t → both t (eqb (offset_at m 0) (header_size m)) ≡ false
    go true e =
        let l : offset_at m 0 < length m = ltb-true _ _ e in
        let other : offset_at m 0 ≡ header_size m → ⊥ = omega arith in
        ne_eqb _ _ other
    go false e = refl

-- and so is the layout then
pub layout_cut : (longest most : ℕ) (known : List Bool) (m : Bytes) → count_size ≤ length m → length m ≤ longest → count m ≤ most → 0 < count m
    → length m ≤ header_size m → layout_right longest most known m ≡ false
layout_cut longest most known m long short few some cut =
    layout_entries longest most known m long short few some
    ∙ rw sub-zero at (all_stop (entry_right known m) 0 (count m) some (header_cut known m cut))

-- what the loop over the entries needs
pub ruleset layout_steps = (layout_entries, layout_cut, all_more, all_stop, all_end)

-- ---- the search for an entry

pub entry_stop : (m : Bytes) (code k : ℕ) → k < entries m → code_at m k ≡ code → entry_from m code k ≡ k
unfolding entry_from
entry_stop m code k h e = first_stop (λ j. eqb (code_at m j) code) k (entries m) h (eq-eqb _ _ e)

pub entry_more : (m : Bytes) (code k : ℕ) → k < entries m → (code_at m k ≡ code → ⊥) → entry_from m code k ≡ entry_from m code (k + 1)
unfolding entry_from
entry_more m code k h e = first_more (λ j. eqb (code_at m j) code) k (entries m) h (ne_eqb _ _ e)

pub entry_end : (m : Bytes) (code k : ℕ) → entries m ≤ k → entry_from m code k ≡ k
unfolding entry_from
entry_end m code k h = first_end (λ j. eqb (code_at m j) code) k (entries m) h

pub ruleset entry_steps = (entry_stop, entry_more, entry_end)

module _ (longest most : ℕ) (known : List Bool) (m : Bytes) (right : layout_right longest most known m ≡ true) where
  -- every entry is right
  entry_right_lem : (k : ℕ) → k < count m → entry_right known m k ≡ true
  unfolding layout_right
  entry_right_lem k h =
      let z : count m ≡ 0 → ⊥ = omega arith in
      let r : choose (eqb (count m) 0) (eqb (length m) count_size) (all (entry_right known m) (count m)) ≡ true =
      both_second (leb (count m) most) _ (both_second (leb (length m) longest) _ (both_second (leb count_size (length m)) _ right)) in
      rw zero-add at (all_at (entry_right known m) 0 (count m) k h (rw (ne_eqb _ _ z) at r))

  -- a code is known
  pub code_known : (k : ℕ) → k < count m → get_or known (code_at m k) false ≡ true
  unfolding entry_right
  code_known k h = both_first (get_or known (code_at m k) false) _ (entry_right_lem k h)

  -- an offset lies below the length
  pub offset_inside : (k : ℕ) → k < count m → offset_at m k < length m
  unfolding entry_right
  offset_inside k h = ltb-true (offset_at m k) (length m) (both_first (ltb (offset_at m k) (length m)) _ (both_second (get_or known (code_at m k) false) _ (entry_right_lem k h)))

  -- the first one is the header's size
  pub offset_first : 0 < count m → offset_at m 0 ≡ header_size m
  unfolding entry_right
  offset_first h = eqb-true (offset_at m 0) (header_size m) (both_second (ltb (offset_at m 0) (length m)) _ (both_second (get_or known (code_at m 0) false) _ (entry_right_lem 0 h)))

  -- the header is whole
  header_whole : 0 < count m → header_size m < length m
  header_whole h = subst (λ (n : ℕ). n < length m) (offset_first h) (offset_inside 0 h)

  pub entries_all : entries m ≡ count m
  unfolding entries
  entries_all = go (ltb 0 (count m)) refl
    where
      go : (t : Bool) → ltb 0 (count m) ≡ t → min (count m) ((length m - count_size) / entry_size) ≡ count m
      go true e = omega (arith, header_whole (ltb-true 0 (count m) e))
      go false e = omega (arith, ltb-false 0 (count m) e)

  -- codes and offsets rise
  rises : (k : ℕ) → k + 1 < count m → both (ltb (code_at m k) (code_at m (k + 1))) (ltb (offset_at m k) (offset_at m (k + 1))) ≡ true
  unfolding entry_right
  rises k h =
      let z : k + 1 ≡ 0 → ⊥ = omega arith in
      let p : k + 1 - 1 ≡ k = omega arith in
      let r : choose (eqb (k + 1) 0) (eqb (offset_at m (k + 1)) (header_size m)) (both (ltb (code_at m (k + 1 - 1)) (code_at m (k + 1))) (ltb (offset_at m (k + 1 - 1)) (offset_at m (k + 1)))) ≡ true =
      both_second (ltb (offset_at m (k + 1)) (length m)) _ (both_second (get_or known (code_at m (k + 1)) false) _ (entry_right_lem (k + 1) h)) in
      rw (ne_eqb _ _ z, p) at r

  pub code_rises : (k : ℕ) → k + 1 < count m → code_at m k < code_at m (k + 1)
  code_rises k h = ltb-true (code_at m k) (code_at m (k + 1)) (both_first (ltb (code_at m k) (code_at m (k + 1))) _ (rises k h))

  pub offset_rises : (k : ℕ) → k + 1 < count m → offset_at m k < offset_at m (k + 1)
  offset_rises k h = ltb-true (offset_at m k) (offset_at m (k + 1)) (both_second (ltb (code_at m k) (code_at m (k + 1))) _ (rises k h))

  -- a value ends after it starts, and within the message
  pub value_runs : (k : ℕ) → k < count m → (offset_at m k < end_of m k) × (end_of m k ≤ length m)
  unfolding end_of
  value_runs k h = rw entries_all (go (ltb (k + 1) (count m)) refl)
    where
      go : (t : Bool) → ltb (k + 1) (count m) ≡ t → (offset_at m k < choose t (offset_at m (k + 1)) (length m)) × (choose t (offset_at m (k + 1)) (length m) ≤ length m)
      go true e =
          let l = offset_inside (k + 1) (ltb-true _ _ e) in
          (offset_rises k (ltb-true _ _ e), omega arith)
      go false e = (offset_inside k h, omega arith)

  -- no value is empty
  pub value_filled : (k : ℕ) → k < count m → 0 < length (value_at m k)
  unfolding value_at
  value_filled k h =
      let r = value_runs k h in
      rw (entries_all, lt-ltb _ _ h) (omega (arith, length-take (end_of m k - offset_at m k) (drop (offset_at m k) m), length-drop (offset_at m k) m))

  -- the values from entry k on are the rest of the message from its offset on
  values_rest : (d k : ℕ) → k + suc d ≡ count m → values_from m k (suc d) ≡ drop (offset_at m k) m
  unfolding values_from value_at end_of
  values_rest zero k e =
      let here : k < count m = omega arith in
      let last : count m ≤ k + 1 = omega arith in
      rw (entries_all, lt-ltb _ _ here, le-ltb _ _ last)
      (append-nil _ ∙ take_all (length m - offset_at m k) (drop (offset_at m k) m) (omega (arith, length-drop (offset_at m k) m)))
  values_rest (suc d) k e =
      let here : k < count m = omega arith in
      let more : k + 1 < count m = omega arith in
      let o = offset_rises k more in
      let gap : ℕ = offset_at m (k + 1) - offset_at m k in
      let step : offset_at m k + gap ≡ offset_at m (k + 1) = omega arith in
      let rest : values_from m (k + 1) (suc d) ≡ drop gap (drop (offset_at m k) m) =
      values_rest d (k + 1) (omega arith) ∙ ap (λ (j : ℕ). drop j m) (sym step) ∙ sym (drop-drop gap (offset_at m k) m) in
      let first : value_at m k ≡ take gap (drop (offset_at m k) m) = rw (entries_all, lt-ltb _ _ here, lt-ltb _ _ more) in
      let after : values_from m (suc k) (suc d) ≡ drop gap (drop (offset_at m k) m) = subst (λ (j : ℕ). values_from m j (suc d) ≡ drop gap (drop (offset_at m k) m)) (add-one k) rest in
      ap₂ ◌++◌ first after ∙ take-append-drop gap (drop (offset_at m k) m)

  -- a message without entries is its count
  count_alone : count m ≡ 0 → length m ≡ count_size
  unfolding layout_right
  count_alone z =
      let r : choose (eqb (count m) 0) (eqb (length m) count_size) (all (entry_right known m) (count m)) ≡ true =
      both_second (leb (count m) most) _ (both_second (leb (length m) longest) _ (both_second (leb count_size (length m)) _ right)) in
      eqb-true (length m) count_size (rw (eq-eqb _ _ z) at r)

  -- the message is its header and then its values, in order, without gap, up to the end
  pub values_whole : take (header_size m) m ++ values_from m 0 (count m) ≡ m
  unfolding values_from
  values_whole = go (count m) refl
    where
      go : (n : ℕ) → count m ≡ n → take (header_size m) m ++ values_from m 0 n ≡ m
      go zero e =
          let l = count_alone e in
          append-nil _ ∙ take_all (header_size m) m (omega arith)
      go (suc d) e = rw (values_rest d 0 (omega arith), offset_first (omega arith)) (take-append-drop (header_size m) m)

  -- so it is as long as these
  pub length_whole : length m ≡ header_size m + length (values_from m 0 (count m))
  unfolding values_from
  length_whole = go (count m) refl
    where
      go : (n : ℕ) → count m ≡ n → length m ≡ header_size m + length (values_from m 0 n)
      go zero e = omega (arith, count_alone e)
      go (suc d) e =
          let some : 0 < count m = omega arith in
          omega (arith, header_whole some, offset_first some, ap length (values_rest d 0 (omega arith)), length-drop (offset_at m 0) m)

  -- under another longest message only its length is asked
  pub layout_within : (other : ℕ) → layout_right other most known m ≡ leb (length m) other
  unfolding layout_right
  layout_within other =
      rw (both_first (leb count_size (length m)) _ right)
      (both_last (leb (length m) other) _ (both_second (leb (length m) longest) _ (both_second (leb count_size (length m)) _ right)))

  -- an element without a value has no entry
  pub missing : (code : ℕ) → value code m ≡ [] → (k : ℕ) → k < count m → code_at m k ≡ code → ⊥
  unfolding value entry_from
  missing code e k h p =
      let f : ℕ → Bool = λ j. eqb (code_at m j) code in
      let l : first_from f 0 (count m) ≤ 0 + k = first_le f 0 (count m) k h (rw zero-add (eq-eqb _ _ p)) in
      let filled : 0 < length (value_at m (first_from f 0 (count m))) = value_filled (first_from f 0 (count m)) (omega arith) in
      let there : value_at m (first_from f 0 (count m)) ≡ [] = rw (entries_all, sub-zero) at e in
      omega (arith, ap length there)

  -- codes rise over any distance
  pub code_apart : (d i j : ℕ) → j ≡ i + (d + 1) → j < count m → code_at m i < code_at m j
  code_apart zero i j e h = rw e (code_rises i (omega arith))
  code_apart (suc d) i j e h =
      let near : code_at m i < code_at m (i + (d + 1)) = code_apart d i (i + (d + 1)) refl (omega arith) in
      let next : j ≡ i + (d + 1) + 1 = omega arith in
      let far : code_at m (i + (d + 1)) < code_at m (i + (d + 1) + 1) = code_rises (i + (d + 1)) (omega arith) in
      rw next (omega arith)

  -- an entry is found by its code
  pub entry_found : (k : ℕ) → k < count m → entry_from m (code_at m k) 0 ≡ k
  unfolding entry_from
  entry_found k h =
      let f : ℕ → Bool = λ j. eqb (code_at m j) (code_at m k) in
      let j : ℕ = first_from f 0 (count m) in
      let l : j ≤ 0 + k = first_le f 0 (count m) k h (rw zero-add (eq-eqb (code_at m k) (code_at m k) refl)) in
      let e : code_at m j ≡ code_at m k = eqb-true (code_at m j) (code_at m k) (first_passes f 0 (count m) (omega arith)) in
      rw (entries_all, sub-zero) (by j l e (ltb j k) refl)
    where
      by : (j : ℕ) → j ≤ 0 + k → code_at m j ≡ code_at m k → (t : Bool) → ltb j k ≡ t → j ≡ k
      by j l e true lt =
          let less : code_at m j < code_at m k = code_apart (k - (j + 1)) j k (omega (arith, ltb-true j k lt)) h in
          absurd (omega arith)
      by j l e false ge = omega (arith, ltb-false j k ge)

  -- and so is its value
  pub value_found : (k : ℕ) → k < count m → value (code_at m k) m ≡ value_at m k
  unfolding value
  value_found k h = ap (value_at m) (entry_found k h)

  -- an element is there where its entry is
  pub there_entry : (code : ℕ) → is_there code m ≡ ltb (entry_from m code 0) (count m)
  unfolding is_there value value_at
  there_entry code = go (entry_from m code 0) (ltb (entry_from m code 0) (count m)) refl
    where
      go : (k : ℕ) (t : Bool) → ltb k (count m) ≡ t → ltb 0 (length (value_at m k)) ≡ t
      go k true e = lt-ltb _ _ (value_filled k (ltb-true _ _ e))
      go k false e = rw (entries_all, e)

-- what `layout_right` cites
pub layout_laws : LayoutLaws
layout_laws = record { whole = values_whole; filled = value_filled; found = value_found }
