-- One call of a history: what it adds to the tape and leaves in the ledger. Assumes nothing.
use Prim.Native.Nat.{ℕ, zero, suc, ◌≤◌}
use mathlib.Core.Bool.{Bool, true, false}
use mathlib.Core.Path.{◌≡◌, refl, sym, ap, ◌∙◌}
use mathlib.Core.List.{[]}
use native.Mathlib.Omega.{arith}
use lib.ListN.{length, take}
use lib.Dec.{eqb}
use borrow.Author.Tests.{ne_eqb}
use Rattle.octets.specs.Bytes.{Bytes}
use Rattle.octets.specs.Choice.{choose}
use Rattle.octets.specs.Part.{splice}
use Rattle.octets.proofs.PartLaws.{part_at}
use Rattle.actions.specs.declared.Action.{Action}
use Rattle.ledger.specs.Layout.{line_size}
use Rattle.ledger.specs.Header.{next_identifier}
use Rattle.ledger.proofs.LineLaws.{length_line}
use Rattle.submission.specs.Opening.{Limits}
use Rattle.submission.specs.Lent.{Lent}
use Rattle.submission.specs.Submission.{line_due_in, verdict_on, line_for, tape_for, Submitted, accepted, refused, submitted}
use Rattle.submission.proofs.Acceptance.{Accepted, as_accepted, accepted_answer, is_refused}

module _ (limits : Limits) (lent : Lent) (m : Bytes) where
  -- the first rule broken, and what the submission answers
  abbrev found : ℕ × ℕ
  found = verdict_on limits lent m

  abbrev answered : Submitted
  answered = submitted limits lent m

  same_verdict : (n : ℕ) → found.0 ≡ n → answered.verdict ≡ found.0
  same_verdict zero e = ap (λ s. s.verdict) (accepted_answer (as_accepted limits lent m e)) ∙ sym e
  same_verdict (suc n) e = ap (λ s. s.verdict) (is_refused limits lent m n e)

  -- the answer's verdict is that of the first rule broken
  pub verdict_is : answered.verdict ≡ found.0
  verdict_is = same_verdict found.0 refl

  pub when_accepted : answered.verdict ≡ 0 → Accepted limits lent m
  when_accepted v = as_accepted limits lent m (sym verdict_is ∙ v)

  pub when_refused : (n : ℕ) → answered.verdict ≡ suc n → answered ≡ refused found lent
  when_refused n v = is_refused limits lent m n (sym verdict_is ∙ v)

  -- what holds of an acceptance and of a refusal holds of the answer
  pub by_outcome : (P : Submitted → Type 0) → ((c : Accepted limits lent m) → P (accepted c.admitted.action lent m)) → ((v : ℕ × ℕ) → eqb v.0 0 ≡ false → P (refused v lent)) → P answered
  by_outcome P takes leaves = by answered.verdict refl
    where
      by : (n : ℕ) → answered.verdict ≡ n → P answered
      by zero v = let c : Accepted limits lent m = when_accepted v in rw (accepted_answer c) (takes c)
      by (suc n) v = rw (when_refused n v) (leaves found (ne_eqb found.0 0 (λ e. omega (arith, e, v, verdict_is))))

-- the line in the tape buffer
pub accepted_line : (a : Action) (l t m : Bytes) → line_size ≤ length t → choose (line_due_in a l m) (take line_size (tape_for a l t m)) [] ≡ choose (line_due_in a l m) (line_for a l m) []
unfolding line_for
accepted_line a l t m room = by (line_due_in a l m) _ (length_line a (next_identifier l) _ m _)
  where
    by : (b : Bool) (line : Bytes) → length line ≡ line_size → choose b (take line_size (choose b (splice t 0 line) t)) [] ≡ choose b line []
    by true line size = rw size at (part_at t line 0 (omega arith))
    by false line size = refl
