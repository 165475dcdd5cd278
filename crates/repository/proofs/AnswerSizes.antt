-- The identifiers of answers fit the number that carries them. Assumes nothing.
use Prim.Native.Nat.{ℕ, zero, suc, ◌-◌, ◌<◌, ◌≤◌}
use mathlib.Core.Bool.{Bool, true, false}
use mathlib.Core.Path.{◌≡◌, refl}
use native.Mathlib.Omega.{arith}
use lib.Dec.{leb}
use borrow.Author.Tests.{leb-true}
use Rattle.octets.specs.Bytes.{Bytes}
use Rattle.octets.specs.Choice.{choose}
use Rattle.octets.proofs.ChoiceLaws.{both_first, both_second, both_false, not_not}
use Rattle.values.specs.Run.{within}
use Rattle.actions.specs.Statuses.{live, ported}
use Rattle.ledger.specs.Layout.{identifier_limit}
use Rattle.ledger.specs.Header.{next_identifier, header_right, header_of}
use Rattle.ledger.specs.Rows.{is_known, swap_status, swap_identifier, swap_in}
use Rattle.ledger.proofs.RightHeader.{right_header}
use Rattle.submission.specs.Opening.{Limits}
use Rattle.submission.specs.Lent.{Lent}
use Rattle.submission.specs.Submission.{line_due_in, row_right, has_wrong_row, submitted}
use Rattle.submission.specs.Status.{asked}
use Rattle.submission.proofs.Acceptance.{has_place}
use Rattle.submission.proofs.Outcome.{by_outcome}
use Rattle.submission.proofs.Demand1.{question_answers}
use Rattle.submission.proofs.Demand2.{question_exactly}
use Rattle.repository.specs.declared.answer.Answer.{Answer}
use Rattle.repository.specs.Answers.{carried_limit}

pub carried : (a b : Answer) → a ≡ b → b.identifier < carried_limit → a.identifier < carried_limit
carried a b e h = rw e h

-- a submission answers the next identifier or 0
pub submission_small : (limits : Limits) (lent : Lent) (m : Bytes) → (submitted limits lent m).identifier < carried_limit
submission_small limits lent m =
    by_outcome limits lent m (λ s. s.identifier < carried_limit) (λ c. least (line_due_in c.admitted.action lent.ledger m) (has_place c.admitted).header.next) (λ v z. omega arith)
  where
    least : (b : Bool) → next_identifier lent.ledger ≤ identifier_limit → choose b (next_identifier lent.ledger) 0 < carried_limit
    least true h = omega arith
    least false h = omega arith

-- a right row has an identifier below the next one
swap_small : (largest : ℕ) (l u : Bytes) → header_right largest l ≡ true → has_wrong_row (header_of l) (swap_in l u) ≡ false → swap_identifier l u ≤ identifier_limit
unfolding swap_identifier has_wrong_row row_right header_of
swap_small largest l u h w = by (is_known l u) refl
  where
    by : (b : Bool) → is_known l u ≡ b → swap_identifier l u ≤ identifier_limit
    by false k = rw k (omega arith)
    by true k =
        let i : ℕ = swap_identifier l u in
        let right : row_right (header_of l) (swap_in l u) ≡ true = not_not _ (both_false (is_known l u) _ w k) in
        let range : within 1 (next_identifier l - 1) i ≡ true = both_first (within 1 (next_identifier l - 1) i) _ (both_second (within live ported (swap_status l u)) _ right) in
        omega (arith, leb-true i (next_identifier l - 1) (both_second (leb 1 i) (leb i (next_identifier l - 1)) range), (right_header largest l h).next)

-- the status question answers the swap's last identifier or 0
pub question_small : (limits : Limits) (l u : Bytes) → (asked limits l u).identifier < carried_limit
question_small limits l u = by (asked limits l u).verdict refl
  where
    by : (v : ℕ) → (asked limits l u).verdict ≡ v → (asked limits l u).identifier < carried_limit
    by zero e =
        let q = question_exactly limits l u in
        let fits = q.0.accepted.0 e in
        omega (arith, (q.1 e).1, swap_small limits.largest l u fits.0 fits.2)
    by (suc v) e = omega (arith, ((question_answers limits l u).refused (λ z. omega (arith, z, e))).1)
