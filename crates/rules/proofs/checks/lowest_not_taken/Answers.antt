-- Each code is taken, or above the last one that is there.
use Rattle.std.proofs.Common.{ℕ, ◌≡◌, ◌≤◌, Bool, true, false, not, refl, sym, ap, arith}
use borrow.Author.Tests.{leb-true, leb-false}
use lib.Dec.{leb}
use Rattle.octets.specs.Bytes.{Bytes}
use Rattle.octets.proofs.ChoiceLaws.{both_none}
use Rattle.message.specs.Values.{is_there}
use Rattle.message.specs.Reading.{NoneAbove}
use Rattle.actions.specs.declared.Action.{Action}
use Rattle.elements.specs.Messages.{takes, TakenUpTo}
use Rattle.rules.specs.Rules.{Taken}
use Rattle.rules.specs.Findings.{passed, lowest}
use Rattle.rules.specs.Rules.{answer_of, at_fault}
use Rattle.rules.proofs.FindingLaws.{none_at_fault}
use Rattle.rules.proofs.checks.lowest_not_taken.Goals as goal

-- a code is taken, or above the last one that is there
none : (a : Action) (m : Bytes) (last n : ℕ) → NoneAbove m last → TakenUpTo a n → last ≤ n → lowest (at_fault Taken a m) ≡ passed
none a m last n above taken h = none_at_fault (at_fault Taken a m) (λ code l u. by code l (leb code n) refl)
  where
    by : (code : ℕ) → 1 ≤ code → (t : Bool) → leb code n ≡ t → at_fault Taken a m code ≡ false
    by code l true e = both_none (is_there code m) (not (takes a code)) (ap not (taken code l (leb-true code n e)))
    by code l false e = rw (above code (omega (arith, leb-false code n e)))

pub returns-then-last_code-taken_up_to : goal.returns-then-last_code-taken_up_to
returns-then-last_code-taken_up_to c =
    let a = c.args in
    sym (ap (answer_of a.action) (none a.action a.message.src.now _ _ c.last_code.ensures c.taken_up_to.ensures c.if-last_code-taken_up_to.true))
