-- The statuses of the code's enum and their numbers, where one is read and where a step is asked for. Assumes nothing.
use Rattle.std.specs.Prelude.{Option, Some, None, ok_or, Result, Err, Ok, IsSome}
use Rattle.std.specs.Result.{result_ok}
use Prim.Native.Nat.{ℕ, zero, suc, ◌≤◌}
use mathlib.Core.Bool.{Bool, true, false}
use mathlib.Core.Path.{◌≡◌, refl, sym, ap, ◌∙◌}
use Rattle.std.proofs.lemmas.Bool.{false≢true}
use native.Mathlib.Omega.{arith}
use lib.Dec.{eqb, leb}
use borrow.Author.Tests.{leb-true, lt-leb}
use Rattle.octets.specs.Bytes.{Bytes}
use Rattle.octets.proofs.ChoiceLaws.{both_first, both_second, both_false, both_none, not_not}
use Rattle.values.specs.Run.{within}
use Rattle.actions.specs.declared.statuses.Status.{Status}
use Rattle.actions.specs.declared.statuses.Status.TheVariants.{Live, Closed, Errored, Ported}
use Rattle.actions.specs.declared.statuses.NoStatus.{NoStatus}
use Rattle.actions.specs.Statuses.{unknown, live, ported, no_step}
use Rattle.actions.specs.Actions.{number_of, Decodes, step_number}
use Rattle.ledger.specs.declared.header.Header.{Header}
use Rattle.ledger.specs.declared.search.Swap.{Swap}
use Rattle.ledger.specs.Rows.{is_known, swap_status, swap_in}
use Rattle.submission.specs.Submission.{row_right, has_wrong_row}
use Rattle.repository.specs.declared.verdicts.Refusal.{Refusal}
use Rattle.repository.specs.declared.verdicts.Refusal.TheVariants.{NotAdmitted}

-- a number that no status has is outside 1 to 4
no_status_by : (n : ℕ) (e : NoStatus) → Decodes n (Err e) → within live ported n ≡ false
no_status_by zero e d = refl
no_status_by (suc zero) e d = absurd (d.1 Live refl)
no_status_by (suc (suc zero)) e d = absurd (d.1 Closed refl)
no_status_by (suc (suc (suc zero))) e d = absurd (d.1 Errored refl)
no_status_by (suc (suc (suc (suc zero)))) e d = absurd (d.1 Ported refl)
no_status_by (suc (suc (suc (suc (suc n))))) e d =
    let number : ℕ = suc (suc (suc (suc (suc n)))) in
    both_none (leb live number) (leb number ported) (lt-leb _ _ (omega arith))

pub no_status : (n : ℕ) (r : Result Status NoStatus) (e : NoStatus) → Decodes n r → r ≡ Err e → within live ported n ≡ false
no_status n r e d g = no_status_by n e (rw g at d)

-- the number of a status that was read, or unknown
pub kept_number : (n : ℕ) (r : Result Status NoStatus) → Decodes n r → n ≤ ported → step_number (result_ok r) ≡ n
kept_number n (Ok s) d h = d
kept_number zero (Err e) d h = refl
kept_number (suc zero) (Err e) d h = absurd (d.1 Live refl)
kept_number (suc (suc zero)) (Err e) d h = absurd (d.1 Closed refl)
kept_number (suc (suc (suc zero))) (Err e) d h = absurd (d.1 Errored refl)
kept_number (suc (suc (suc (suc zero)))) (Err e) d h = absurd (d.1 Ported refl)
kept_number (suc (suc (suc (suc (suc n))))) (Err e) d h = absurd (omega (arith, h))

-- a row that is right has a status, and an unknown swap none
pub status_most : (l u : Bytes) (h : Header) (s : Swap) → s ≡ swap_in l u → has_wrong_row h s ≡ false → s.status ≤ ported
unfolding swap_status has_wrong_row row_right
status_most l u h s e w = by (is_known l u) refl
  where
    by : (b : Bool) → is_known l u ≡ b → s.status ≤ ported
    by false k =
        let none : swap_status l u ≡ unknown = rw k in
        omega (arith, ap (λ (x : Swap). x.status) e, none)
    by true k =
        let known : s.known ≡ true = ap (λ (x : Swap). x.known) e ∙ k in
        let right : row_right h s ≡ true = not_not _ (both_false s.known _ w known) in
        let range : within live ported s.status ≡ true = both_first (within live ported s.status) _ right in
        leb-true _ _ (both_second _ _ range)

-- ---- a step that is asked for

-- a status is not the number that says that no step exists
some_step : (s : Status) → eqb (number_of s) no_step ≡ false
some_step Live = refl
some_step Closed = refl
some_step Errored = refl
some_step Ported = refl

pub step_read : (n : ℕ) (o : Option Status) (r : Result Status Refusal) (s : Status) → step_number o ≡ n → r ≡ ok_or o NotAdmitted → r ≡ Ok s → (eqb n no_step ≡ false) × (number_of s ≡ n)
step_read n None r s e g f = let z : Err NotAdmitted ≡ Ok s = sym g ∙ f in cc
step_read n (Some x) r s e g f =
    let same : x ≡ s = cc in
    let is : number_of s ≡ n = rw (sym same) e in
    (rw (sym is) (some_step s), is)

pub no_step_read : (n : ℕ) (o : Option Status) (r : Result Status Refusal) (d : Refusal) → step_number o ≡ n → r ≡ ok_or o NotAdmitted → r ≡ Err d → (eqb n no_step ≡ true) × (d ≡ NotAdmitted)
no_step_read n None r d e g f = (rw (sym e), cc)
no_step_read n (Some x) r d e g f = let z : Ok x ≡ Err d = sym g ∙ f in cc

-- a swap that has a status is counted
pub has_status : (o : Option Status) → IsSome o → step_number o ≡ unknown → ⊥
has_status None i e = false≢true i
has_status (Some Live) i e = omega (arith, e)
has_status (Some Closed) i e = omega (arith, e)
has_status (Some Errored) i e = omega (arith, e)
has_status (Some Ported) i e = omega (arith, e)
