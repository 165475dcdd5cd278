-- The tape of both histories is the text that was written by hand. Assumes nothing.
use mathlib.Core.Path.{◌≡◌, refl}
use Rattle.submission.specs.History.{tape}
use Rattle.submission.specs.Demand3.{start}
use Rattle.witness.specs.Histories.{limits, caps, left, left_ledger, right, right_ledger}
use Rattle.witness.specs.Lines.{tape_text}
use Rattle.witness.proofs.Computing.{computing}

pub tape_left : tape limits (start limits caps left_ledger) left ≡ tape_text
unfolding computing
tape_left = refl

pub tape_right : tape limits (start limits caps right_ledger) right ≡ tape_text
unfolding computing
tape_right = refl
