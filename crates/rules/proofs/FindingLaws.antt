-- Laws of specs/Findings.antt: the first rule broken, and the lowest element at fault, in words. Assumes nothing.
use Prim.Native.Nat.{ℕ, ◌+◌, ◌-◌, ◌<◌, ◌≤◌}
use mathlib.Core.Bool.{Bool, true, false, not, false≢true}
use mathlib.Core.Path.{◌≡◌, refl, sym, ap, ◌∙◌, subst}
use mathlib.Core.List.{List, [], ◌∷◌, ◌++◌}
use native.Mathlib.Omega.{arith}
use lib.Dec.{leb, ltb, eqb}
use borrow.Author.Tests.{ltb-true, eqb-true, eqb-false, eq-eqb, leb-true, leb-false}
use Rattle.octets.specs.Choice.{choose, both}
use Rattle.octets.specs.Search.{first_from}
use Rattle.octets.proofs.ChoiceLaws.{both_first, both_second}
use Rattle.octets.proofs.SearchLaws.{first_passes, first_le, first_from_lem}
use Rattle.elements.specs.Table.{last_code}
use Rattle.rules.specs.Findings.{Finding, passed, broken, broken_if, lowest, Rule, test, naming, rule_number, rule_finding, or_else, first_broken, finding_of, from_rule, before_rule, is_one_of, AllPassed, FirstBroken, LowestAtFault}

-- a test whose rule is passed
pub not_broken : (b : Bool) → broken_if b ≡ passed → b ≡ false
not_broken true e =
    let z : ◌≡◌ {A = ℕ} 0 1 = cc in
    absurd (omega arith)
not_broken false e = refl

-- a rule that is passed is not broken
not_both : {A : Type 0} {f : Finding} (e : ℕ) → f ≡ passed → f ≡ broken e → A
not_both e p b =
    let z : ◌≡◌ {A = ℕ} 0 1 = cc in
    absurd (omega arith)

-- ---- numbers

-- no rule has the number n
unfoldable pub unused : ℕ → List Rule → Bool
unused n [] = true
unused n (r ∷ rs) = both (not (eqb (rule_number r) n)) (unused n rs)

-- no rule has the number 0, and no two have the same
unfoldable pub distinct : List Rule → Bool
distinct [] = true
distinct (r ∷ rs) = both (ltb 0 (rule_number r)) (both (unused (rule_number r) rs) (distinct rs))

module _ (r : Rule) (rs : List Rule) (ok : distinct (r ∷ rs) ≡ true) where
  head_some : 0 < rule_number r
  unfolding distinct
  head_some = ltb-true 0 (rule_number r) (both_first (ltb 0 (rule_number r)) (both (unused (rule_number r) rs) (distinct rs)) ok)

  head_unused : unused (rule_number r) rs ≡ true
  unfolding distinct
  head_unused = both_first (unused (rule_number r) rs) (distinct rs) (both_second (ltb 0 (rule_number r)) (both (unused (rule_number r) rs) (distinct rs)) ok)

  tail_distinct : distinct rs ≡ true
  unfolding distinct
  tail_distinct = both_second (unused (rule_number r) rs) (distinct rs) (both_second (ltb 0 (rule_number r)) (both (unused (rule_number r) rs) (distinct rs)) ok)

module _ (n : ℕ) (r : Rule) (rs : List Rule) (free : unused n (r ∷ rs) ≡ true) where
  head_other : rule_number r ≡ n → ⊥
  unfolding unused
  head_other e = false≢true (sym (ap not (eq-eqb (rule_number r) n e)) ∙ both_first (not (eqb (rule_number r) n)) (unused n rs) free)

  tail_unused : unused n rs ≡ true
  unfolding unused
  tail_unused = both_second (not (eqb (rule_number r) n)) (unused n rs) free

-- a number that no rule has is not the verdict
pub not_verdict : (n : ℕ) (rs : List Rule) → 0 < n → unused n rs ≡ true → (first_broken rs).0 ≡ n → ⊥
unfolding first_broken
not_verdict n [] p free e = omega arith
not_verdict n (r ∷ rs) p free e = by (rule_finding r) e (not_verdict n rs p (tail_unused n r rs free))
  where
    by : (f : Finding) → (or_else (rule_number r) f (first_broken rs)).0 ≡ n → ((first_broken rs).0 ≡ n → ⊥) → ⊥
    by passed e' rest = rest e'
    by (broken d) e' rest = head_other n r rs free e'

-- each rule's number is one of ks
unfoldable pub numbered : List ℕ → List Rule → Bool
numbered ks [] = true
numbered ks (r ∷ rs) = both (is_one_of ks (rule_number r)) (numbered ks rs)

-- so is a verdict other than 0
pub has_number : (ks : List ℕ) (rs : List Rule) → numbered ks rs ≡ true → ((first_broken rs).0 ≡ 0 → ⊥) → is_one_of ks (first_broken rs).0 ≡ true
unfolding first_broken numbered
has_number ks [] all some = absurd (some refl)
has_number ks (r ∷ rs) all some = by (rule_finding r) some (has_number ks rs (both_second (is_one_of ks (rule_number r)) (numbered ks rs) all))
  where
    by : (f : Finding) → ((or_else (rule_number r) f (first_broken rs)).0 ≡ 0 → ⊥) → (((first_broken rs).0 ≡ 0 → ⊥) → is_one_of ks (first_broken rs).0 ≡ true) → is_one_of ks (or_else (rule_number r) f (first_broken rs)).0 ≡ true
    by passed z rest = rest z
    by (broken d) z rest = both_first (is_one_of ks (rule_number r)) (numbered ks rs) all

-- only rules whose number is one of ks name an element
unfoldable pub named_by : List ℕ → List Rule → Bool
named_by ks [] = true
named_by ks (test n t ∷ rs) = named_by ks rs
named_by ks (naming n f ∷ rs) = both (is_one_of ks n) (named_by ks rs)

-- a verdict that is none of ks names none
pub names_none : (ks : List ℕ) (rs : List Rule) → named_by ks rs ≡ true → is_one_of ks (first_broken rs).0 ≡ false → (first_broken rs).1 ≡ 0
unfolding first_broken named_by
names_none ks [] all other = refl
names_none ks (test n t ∷ rs) all other = by t other (names_none ks rs all)
  where
    by : (b : Bool) → is_one_of ks (or_else n (broken_if b) (first_broken rs)).0 ≡ false → (is_one_of ks (first_broken rs).0 ≡ false → (first_broken rs).1 ≡ 0) → (or_else n (broken_if b) (first_broken rs)).1 ≡ 0
    by true o rest = refl
    by false o rest = rest o
names_none ks (naming n f ∷ rs) all other = by f other (names_none ks rs (both_second (is_one_of ks n) (named_by ks rs) all))
  where
    by : (g : Finding) → is_one_of ks (or_else n g (first_broken rs)).0 ≡ false → (is_one_of ks (first_broken rs).0 ≡ false → (first_broken rs).1 ≡ 0) → (or_else n g (first_broken rs)).1 ≡ 0
    by passed o rest = rest o
    by (broken d) o rest = absurd (false≢true (sym o ∙ both_first (is_one_of ks n) (named_by ks rs) all))

-- ---- the first rule broken

-- the verdict is that of a rule exactly where the rule is broken and no earlier one is
pub broken_first : (rs : List Rule) (n e : ℕ) → distinct rs ≡ true → 0 < n → first_broken rs ≡ (n, e) → FirstBroken rs n e
unfolding first_broken finding_of before_rule AllPassed
broken_first [] n e ok p v = absurd (omega (arith, ap (λ x. x.0) v))
broken_first (r ∷ rs) n e ok p v = by (rule_finding r) refl (eqb (rule_number r) n) refl v (broken_first rs n e (tail_distinct r rs ok) p)
  where
    by : (f : Finding) → rule_finding r ≡ f → (t : Bool) → eqb (rule_number r) n ≡ t → or_else (rule_number r) f (first_broken rs) ≡ (n, e) → (first_broken rs ≡ (n, e) → FirstBroken rs n e)
        → (choose t (rule_finding r) (finding_of n rs) ≡ broken e) × AllPassed (choose t [] (r ∷ before_rule n rs))
    by passed g true h w rest = absurd (not_verdict (rule_number r) rs (head_some r rs ok) (head_unused r rs ok) (ap (λ x. x.0) w ∙ sym (eqb-true (rule_number r) n h)))
    by passed g false h w rest = ((rest w).0, (g, (rest w).1))
    by (broken d) g true h w rest = (g ∙ ap (λ x. broken x.1) w, tt)
    by (broken d) g false h w rest = absurd (eqb-false (rule_number r) n h (ap (λ x. x.0) w))

pub first_broken_lem : (rs : List Rule) (n e : ℕ) → FirstBroken rs n e → first_broken rs ≡ (n, e)
unfolding first_broken finding_of before_rule AllPassed
first_broken_lem [] n e b = not_both e refl b.0
first_broken_lem (r ∷ rs) n e b = by (eqb (rule_number r) n) refl b.0 b.1 (first_broken_lem rs n e)
  where
    by : (t : Bool) → eqb (rule_number r) n ≡ t → choose t (rule_finding r) (finding_of n rs) ≡ broken e → AllPassed (choose t [] (r ∷ before_rule n rs)) → (FirstBroken rs n e → first_broken rs ≡ (n, e))
        → or_else (rule_number r) (rule_finding r) (first_broken rs) ≡ (n, e)
    by true h f all rest = ap (λ g. or_else (rule_number r) g (first_broken rs)) f ∙ ap (λ k. (k, e)) (eqb-true (rule_number r) n h)
    by false h f all rest = ap (λ g. or_else (rule_number r) g (first_broken rs)) all.0 ∙ rest (f, all.1)

-- the rules after the one with number n
unfoldable pub after_rule : ℕ → List Rule → List Rule
after_rule n [] = []
after_rule n (r ∷ rs) = choose (eqb (rule_number r) n) rs (after_rule n rs)

-- from a rule that is broken on the verdict is its number; one that is passed leaves the verdict to those after it
pub stops_at : (n e : ℕ) (rs : List Rule) → finding_of n rs ≡ broken e → first_broken (from_rule n rs) ≡ (n, e)
unfolding first_broken finding_of from_rule
stops_at n e [] f = not_both e refl f
stops_at n e (r ∷ rs) f = by (eqb (rule_number r) n) refl f (stops_at n e rs)
  where
    by : (t : Bool) → eqb (rule_number r) n ≡ t → choose t (rule_finding r) (finding_of n rs) ≡ broken e → (finding_of n rs ≡ broken e → first_broken (from_rule n rs) ≡ (n, e)) → first_broken (choose t (r ∷ rs) (from_rule n rs)) ≡ (n, e)
    by true h g rest = ap (λ x. or_else (rule_number r) x (first_broken rs)) g ∙ ap (λ k. (k, e)) (eqb-true (rule_number r) n h)
    by false h g rest = rest g

pub goes_on : (n : ℕ) (rs : List Rule) → finding_of n rs ≡ passed → first_broken (from_rule n rs) ≡ first_broken (after_rule n rs)
unfolding first_broken finding_of from_rule after_rule
goes_on n [] f = refl
goes_on n (r ∷ rs) f = by (eqb (rule_number r) n) f (goes_on n rs)
  where
    by : (t : Bool) → choose t (rule_finding r) (finding_of n rs) ≡ passed → (finding_of n rs ≡ passed → first_broken (from_rule n rs) ≡ first_broken (after_rule n rs)) → first_broken (choose t (r ∷ rs) (from_rule n rs)) ≡ first_broken (choose t rs (after_rule n rs))
    by true g rest = ap (λ x. or_else (rule_number r) x (first_broken rs)) g
    by false g rest = rest g

-- a message is accepted exactly where every rule is passed
pub all_passed : (rs : List Rule) → distinct rs ≡ true → (first_broken rs).0 ≡ 0 → AllPassed rs
unfolding first_broken AllPassed
all_passed [] ok v = tt
all_passed (r ∷ rs) ok v = by (rule_finding r) refl v (all_passed rs (tail_distinct r rs ok))
  where
    by : (f : Finding) → rule_finding r ≡ f → (or_else (rule_number r) f (first_broken rs)).0 ≡ 0 → ((first_broken rs).0 ≡ 0 → AllPassed rs) → (rule_finding r ≡ passed) × AllPassed rs
    by passed g w rest = (g, rest w)
    by (broken d) g w rest = absurd (omega (arith, head_some r rs ok))

pub none_broken : (rs : List Rule) → AllPassed rs → first_broken rs ≡ (0, 0)
unfolding first_broken AllPassed
none_broken [] all = refl
none_broken (r ∷ rs) all = ap (λ g. or_else (rule_number r) g (first_broken rs)) all.0 ∙ none_broken rs all.1

-- where every rule is passed, the one with number n is, and so are those before it and those from it on
pub is_passed : (n : ℕ) (rs : List Rule) → AllPassed rs → finding_of n rs ≡ passed
unfolding finding_of AllPassed
is_passed n [] all = refl
is_passed n (r ∷ rs) all = by (eqb (rule_number r) n) (is_passed n rs all.1)
  where
    by : (t : Bool) → finding_of n rs ≡ passed → choose t (rule_finding r) (finding_of n rs) ≡ passed
    by true rest = all.0
    by false rest = rest

pub passed_before : (n : ℕ) (rs : List Rule) → AllPassed rs → AllPassed (before_rule n rs)
unfolding before_rule AllPassed
passed_before n [] all = all
passed_before n (r ∷ rs) all = by (eqb (rule_number r) n) (passed_before n rs all.1)
  where
    by : (t : Bool) → AllPassed (before_rule n rs) → AllPassed (choose t [] (r ∷ before_rule n rs))
    by true rest = tt
    by false rest = (all.0, rest)

pub passed_from : (n : ℕ) (rs : List Rule) → AllPassed rs → AllPassed (from_rule n rs)
unfolding from_rule AllPassed
passed_from n [] all = all
passed_from n (r ∷ rs) all = by (eqb (rule_number r) n) (passed_from n rs all.1)
  where
    by : (t : Bool) → AllPassed (from_rule n rs) → AllPassed (choose t (r ∷ rs) (from_rule n rs))
    by true rest = all
    by false rest = rest

pub passed_front : (rs after : List Rule) → AllPassed (rs ++ after) → AllPassed rs
unfolding AllPassed
passed_front [] after all = tt
passed_front (r ∷ rs) after all = (all.0, passed_front rs after all.1)

-- rules that are all passed leave the verdict to those after them
pub passed_then : (rs after : List Rule) → AllPassed rs → first_broken (rs ++ after) ≡ first_broken after
unfolding first_broken AllPassed
passed_then [] after all = refl
passed_then (r ∷ rs) after all = ap (λ g. or_else (rule_number r) g (first_broken (rs ++ after))) all.0 ∙ passed_then rs after all.1

-- where one is broken, those after it do not count
pub broken_then : (rs after : List Rule) → ((first_broken rs).0 ≡ 0 → ⊥) → first_broken (rs ++ after) ≡ first_broken rs
unfolding first_broken
broken_then [] after some = absurd (some refl)
broken_then (r ∷ rs) after some = by (rule_finding r) some (broken_then rs after)
  where
    by : (f : Finding) → ((or_else (rule_number r) f (first_broken rs)).0 ≡ 0 → ⊥) → (((first_broken rs).0 ≡ 0 → ⊥) → first_broken (rs ++ after) ≡ first_broken rs) → or_else (rule_number r) f (first_broken (rs ++ after)) ≡ or_else (rule_number r) f (first_broken rs)
    by passed g rest = rest g
    by (broken e) g rest = refl

-- ---- the lowest element at fault

module _ (f : ℕ → Bool) where
  -- a code below the first one at fault is not at fault
  below : (n code : ℕ) → first_from f 1 last_code ≡ n → 1 ≤ code → code ≤ last_code → code < n → f code ≡ false
  below n code e l u h = by (f code) refl
    where
      by : (t : Bool) → f code ≡ t → f code ≡ false
      by false g = g
      by true g =
          let at : 1 + (code - 1) ≡ code = omega arith in
          let first : first_from f 1 last_code ≤ 1 + (code - 1) = first_le f 1 last_code (code - 1) (omega arith) (subst (λ c. f c ≡ true) (sym at) g) in
          absurd (omega arith)

  pub lowest_broken : (e : ℕ) → lowest f ≡ broken e → LowestAtFault f e
  unfolding lowest
  lowest_broken e v = by (leb (first_from f 1 last_code) last_code) refl v
    where
      by : (t : Bool) → leb (first_from f 1 last_code) last_code ≡ t → choose t (broken (first_from f 1 last_code)) passed ≡ broken e → LowestAtFault f e
      by true g w =
          let n : first_from f 1 last_code ≡ e = cc in
          let u : first_from f 1 last_code ≤ last_code = leb-true _ _ g in
          let l : 1 ≤ first_from f 1 last_code = first_from_lem f 1 last_code in
          (omega arith, omega arith, subst (λ c. f c ≡ true) n (first_passes f 1 last_code (omega arith)), λ code p h. below e code n p (omega arith) h)
      by false g w =
          let z : ◌≡◌ {A = ℕ} 0 1 = cc in
          absurd (omega arith)

  pub lowest_passed : lowest f ≡ passed → (code : ℕ) → 1 ≤ code → code ≤ last_code → f code ≡ false
  unfolding lowest
  lowest_passed v code l u = by (leb (first_from f 1 last_code) last_code) refl v
    where
      by : (t : Bool) → leb (first_from f 1 last_code) last_code ≡ t → choose t (broken (first_from f 1 last_code)) passed ≡ passed → f code ≡ false
      by true g w =
          let z : ◌≡◌ {A = ℕ} 0 1 = cc in
          absurd (omega arith)
      by false g w =
          let h : last_code < first_from f 1 last_code = leb-false _ _ g in
          below (first_from f 1 last_code) code refl l u (omega arith)

  pub none_at_fault : ((code : ℕ) → 1 ≤ code → code ≤ last_code → f code ≡ false) → lowest f ≡ passed
  unfolding lowest
  none_at_fault none = by (leb (first_from f 1 last_code) last_code) refl
    where
      by : (t : Bool) → leb (first_from f 1 last_code) last_code ≡ t → choose t (broken (first_from f 1 last_code)) passed ≡ passed
      by false g = refl
      by true g =
          let u : first_from f 1 last_code ≤ last_code = leb-true _ _ g in
          let yes : f (first_from f 1 last_code) ≡ true = first_passes f 1 last_code (omega arith) in
          absurd (false≢true (sym (none (first_from f 1 last_code) (first_from_lem f 1 last_code) u) ∙ yes))
