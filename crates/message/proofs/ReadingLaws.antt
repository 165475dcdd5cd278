-- Laws of a reader that goes along the codes of a message: where it starts, what it finds, and where it goes on. Assumes nothing.
use Prim.Native.Nat.{ℕ, zero, suc, ◌+◌, ◌-◌, ◌<◌, ◌≤◌}
use mathlib.Core.Path.{◌≡◌, refl, sym, ap, ◌∙◌, subst}
use mathlib.Core.Bool.{Bool, true, false, false≢true}
use mathlib.Core.List.{[], ◌∷◌}
use Rattle.std.proofs.Math.Logic.{∥∥₁_elim}
use Rattle.std.proofs.Props.{props}
use Rattle.std.specs.Coded.{×_prop, le_prop}
use native.Mathlib.Omega.{arith}
use native.Mathlib.Nat.{sub-zero}
use lib.Dec.{ltb, eqb}
use lib.ListN.{length, get_or}
use borrow.Author.Tests.{ltb-true, ltb-false, lt-ltb, eqb-true, eqb-false}
use Rattle.octets.specs.Bytes.{Bytes}
use Rattle.octets.specs.Search.{first_from}
use Rattle.octets.proofs.SearchLaws.{first_passes}
use Rattle.message.specs.Layout.{count, code_at, offset_at}
use Rattle.message.specs.Values.{entries, entry_from, end_of, value_at, offset_of, value, is_there}
use Rattle.message.specs.Reading.{Laid, Reached, NoneAbove, next_place}
use Rattle.message.proofs.LayoutLaws.{entries_all, code_known, code_apart, value_runs, value_filled, missing, entry_found, value_found}

entries_most : (m : Bytes) → entries m ≤ count m
unfolding entries
entries_most m = omega arith

-- an element whose code no entry has is missing
absent : (m : Bytes) (code : ℕ) → ((k : ℕ) → k < count m → code_at m k ≡ code → ⊥) → value code m ≡ []
unfolding value entry_from value_at
absent m code nowhere = rw sub-zero (go (ltb found (entries m)) refl)
  where
    f : ℕ → Bool
    f k = eqb (code_at m k) code

    found : ℕ
    found = first_from f 0 (entries m)

    go : (t : Bool) → ltb found (entries m) ≡ t → value_at m found ≡ []
    go true e =
        let h : found < entries m = ltb-true _ _ e in
        absurd (nowhere found (omega (arith, entries_most m)) (eqb-true (code_at m found) code (first_passes f 0 (entries m) (omega arith))))
    go false e = rw e

-- and one that is not there is missing
pub not_there : (m : Bytes) (code : ℕ) → is_there code m ≡ false → value code m ≡ []
unfolding is_there
not_there m code e = go (value code m) e
  where
    go : (v : Bytes) → ltb 0 (length v) ≡ false → v ≡ []
    go [] h = refl
    go (x ∷ xs) h = absurd (omega (arith, ltb-false 0 (length (x ∷ xs)) h))

module _ (m : Bytes) (laid : ∥ Laid m ∥₁) where
  pub laid_entries : entries m ≡ count m
  laid_entries = ∥∥₁_elim laid (search props) (λ l. entries_all l.longest l.most l.known m l.right)

  pub laid_runs : (k : ℕ) → k < entries m → (offset_at m k < end_of m k) × (end_of m k ≤ length m)
  laid_runs k h = ∥∥₁_elim laid (×_prop le_prop le_prop) (λ l. value_runs l.longest l.most l.known m l.right k (omega (arith, laid_entries)))

  filled : (k : ℕ) → k < count m → 0 < length (value_at m k)
  filled k h = ∥∥₁_elim laid (search props) (λ l. value_filled l.longest l.most l.known m l.right k h)

  entry_value : (k : ℕ) → k < count m → value (code_at m k) m ≡ value_at m k
  entry_value k h = ∥∥₁_elim laid (search props) (λ l. value_found l.longest l.most l.known m l.right k h)

  entry_place : (k : ℕ) → k < count m → entry_from m (code_at m k) 0 ≡ k
  entry_place k h = ∥∥₁_elim laid (search props) (λ l. entry_found l.longest l.most l.known m l.right k h)

  no_entry : (code : ℕ) → value code m ≡ [] → (k : ℕ) → k < count m → code_at m k ≡ code → ⊥
  no_entry code v k h e = ∥∥₁_elim laid (λ x y. absurd x) (λ l. missing l.longest l.most l.known m l.right code v k h e)

  -- codes are above 0
  positive : (k : ℕ) → k < count m → 0 < code_at m k
  positive k h = ∥∥₁_elim laid (search props) (λ l. by l (code_at m k) refl)
    where
      by : Laid m → (c : ℕ) → code_at m k ≡ c → 0 < c
      by l zero e = absurd (false≢true (sym l.none ∙ ap (λ (c : ℕ). get_or l.known c false) (sym e) ∙ code_known l.longest l.most l.known m l.right k h))
      by l (suc c) e = omega arith

  -- and rise
  apart : (i j : ℕ) → i < j → j < count m → code_at m i < code_at m j
  apart i j h l = ∥∥₁_elim laid (search props) (λ k. code_apart k.longest k.most k.known m k.right (j - (i + 1)) i j (omega arith) l)

  -- without entries no element is there, and with some none above the last one's code
  pub none_there : count m ≡ 0 → (code : ℕ) → is_there code m ≡ false
  unfolding is_there
  none_there n code = rw (absent m code (λ k l g. omega arith))

  -- no element above the last entry's code is there
  pub none_above : (last : ℕ) → ((k : ℕ) → k + 1 ≡ count m → code_at m k ≤ last) → NoneAbove m last
  unfolding is_there
  none_above last e code h = rw (absent m code (λ k l g. go k l g (eqb (k + 1) (count m)) refl))
    where
      go : (k : ℕ) → k < count m → code_at m k ≡ code → (t : Bool) → eqb (k + 1) (count m) ≡ t → ⊥
      go k l g true q = omega (arith, e k (eqb-true (k + 1) (count m) q))
      go k l g false q =
          let end : count m - 1 + 1 ≡ count m = omega arith in
          omega (arith, e (count m - 1) end, apart k (count m - 1) (omega (arith, eqb-false (k + 1) (count m) q)) (omega arith))

  pub above_last : 0 < count m → (code : ℕ) → code_at m (count m - 1) < code → is_there code m ≡ false
  above_last n =
      none_above (code_at m (count m - 1))
      (λ k e. let at : k ≡ count m - 1 = omega (arith, e) in omega (arith, ap (code_at m) at))

  -- before the first entry the reader has come to code 1
  pub reached_start : Reached m 1 0
  reached_start = record { inside = omega arith; passed = λ k h. absurd (omega arith); left = λ k h l. positive k l }

  module _ (code at : ℕ) (r : Reached m code at) where
    -- the next entry has the code of an element that is there
    found_here : at < count m → code_at m at ≡ code → value code m ≡ value_at m at
    found_here h e = ap (λ (c : ℕ). value c m) (sym e) ∙ entry_value at h

    -- and another one where it is missing
    missing_here : (at < count m → code_at m at ≡ code → ⊥) → value code m ≡ []
    missing_here other = absent m code (λ k h e. go k h e (ltb k at) refl (eqb k at) refl)
      where
        go : (k : ℕ) → k < count m → code_at m k ≡ code → (t : Bool) → ltb k at ≡ t → (u : Bool) → eqb k at ≡ u → ⊥
        go k h e true p u q =
            let l : code_at m k < code = r.passed k (ltb-true _ _ p) in
            omega arith
        go k h e false p true q =
            let s : k ≡ at = eqb-true k at q in
            other (rw s at h) (rw s at e)
        go k h e false p false q =
            let n : k ≡ at → ⊥ = eqb-false k at q in
            let g : at ≤ k = ltb-false _ _ p in
            let b : at < k = omega arith in
            let l : code ≤ code_at m at = r.left at (omega arith) (omega arith) in
            let a : code_at m at < code_at m k = apart at k b h in
            omega arith

    -- so the next entry tells
    there_here : at < count m → code_at m at ≡ code → is_there code m ≡ true
    unfolding is_there
    there_here h e = rw (found_here h e) (lt-ltb _ _ (filled at h))

    pub not_here : (at < count m → code_at m at ≡ code → ⊥) → is_there code m ≡ false
    unfolding is_there
    not_here other = rw (missing_here other)

    pub not_past : count m ≤ at → is_there code m ≡ false
    not_past h = not_here (λ l. absurd (omega arith))

    here_there : is_there code m ≡ true → (at < count m) × (code_at m at ≡ code)
    here_there e = go (ltb at (count m)) refl (eqb (code_at m at) code) refl
      where
        go : (t : Bool) → ltb at (count m) ≡ t → (u : Bool) → eqb (code_at m at) code ≡ u → (at < count m) × (code_at m at ≡ code)
        go true p true q = (ltb-true _ _ p, eqb-true _ _ q)
        go true p false q = absurd (false≢true (sym (not_here (λ h. eqb-false _ _ q)) ∙ e))
        go false p u q = absurd (false≢true (sym (not_past (ltb-false at (count m) p)) ∙ e))

    pub there_inside : is_there code m ≡ true → at < entries m
    there_inside e = omega (arith, (here_there e).0, laid_entries)

    pub found_there : is_there code m ≡ true → value code m ≡ value_at m at
    found_there e = found_here (here_there e).0 (here_there e).1

    pub offset_there : is_there code m ≡ true → offset_of code m ≡ offset_at m at
    unfolding offset_of
    offset_there e = ap (λ (c : ℕ). offset_at m (entry_from m c 0)) (sym (here_there e).1) ∙ ap (offset_at m) (entry_place at (here_there e).0)

    pub there_test : at < count m → eqb (code_at m at) code ≡ is_there code m
    there_test h = go (eqb (code_at m at) code) refl
      where
        go : (t : Bool) → eqb (code_at m at) code ≡ t → t ≡ is_there code m
        go true e = sym (there_here h (eqb-true _ _ e))
        go false e = sym (not_here (λ l. eqb-false _ _ e))

    -- and the reader goes on
    pub reached_next : Reached m (code + 1) (next_place at (is_there code m))
    reached_next = go (is_there code m) refl
      where
        go : (t : Bool) → is_there code m ≡ t → Reached m (code + 1) (next_place at t)
        go true e =
            let h : at < count m = (here_there e).0 in
            let c : code_at m at ≡ code = (here_there e).1 in
            record {
              inside = omega arith;
              passed = λ k l. before k l (ltb k at) refl;
              left = λ k g l. omega (arith, apart at k (omega arith) l);
            }
          where
            before : (k : ℕ) → k < at + 1 → (t : Bool) → ltb k at ≡ t → code_at m k < code + 1
            before k l true p = omega (arith, r.passed k (ltb-true k at p))
            before k l false p =
                let s : k ≡ at = omega (arith, ltb-false k at p) in
                rw s (omega (arith, (here_there e).1))
        go false e =
            record {
              inside = r.inside;
              passed = λ k l. omega (arith, r.passed k l);
              left = λ k g l. omega (arith, r.left k g l, no_entry code (not_there m code e) k l);
            }

    pub reached_over : is_there code m ≡ true → Reached m (code + 1) (at + 1)
    reached_over e = subst (λ (t : Bool). Reached m (code + 1) (next_place at t)) e reached_next

    pub reached_past : is_there code m ≡ false → Reached m (code + 1) at
    reached_past e = subst (λ (t : Bool). Reached m (code + 1) (next_place at t)) e reached_next
