-- The premises of demand 3 are met by two histories that differ. Assumes nothing.
use Prim.Native.Nat.{ℕ, ◌^◌, ◌<◌}
use Prim.Native.String.{String}
use mathlib.Core.Path.{◌≡◌, refl}
use mathlib.Core.List.{List, [], ◌∷◌, map}
use native.Mathlib.Omega.{arith}
use Rattle.octets.specs.Bytes.{Bytes}
use Rattle.octets.specs.Text.{text}
use Rattle.message.specs.Values.{value}
use Rattle.actions.specs.Actions.{action_type}
use Rattle.ledger.specs.Layout.{u32}
use Rattle.submission.specs.Verdicts.{not_admitted}
use Rattle.submission.specs.Opening.{opened}
use Rattle.submission.specs.History.{Judgement, judgements, tape}
use Rattle.submission.specs.Demand3.{Alike, start}
use Rattle.submission.proofs.Demand3.{same_tapes}
use Rattle.witness.specs.Histories.{limits, caps, left, left_ledger, right, right_ledger}
use Rattle.witness.proofs.AlikeTest.{alike}
use Rattle.witness.proofs.Computing.{computing}

pub opened_left : (opened limits caps left_ledger).verdict ≡ 0
unfolding computing
opened_left = refl

pub opened_right : (opened limits caps right_ledger).verdict ≡ 0
unfolding computing
opened_right = refl

-- what is known of a history without its ledger
abbrev pub judged_left : List Judgement
judged_left = judgements limits (start limits caps left_ledger) left

abbrev pub judged_right : List Judgement
judged_right = judgements limits (start limits caps right_ledger) right

-- the action and the verdict of each message
abbrev pub actions_judged : List Judgement → List (Bytes × ℕ)
actions_judged js = map (λ j. (value action_type j.message, j.verdict)) js

-- each of the seven actions is accepted; the fourth message, with this action, is refused
abbrev pub all_actions : String → List (Bytes × ℕ)
all_actions fourth =
    (text "NEWT", 0)
    ∷ (text "MODI", 0)
    ∷ (text "MODI", 0)
    ∷ (text fourth, not_admitted)
    ∷ (text "NEWT", 0)
    ∷ (text "CORR", 0)
    ∷ (text "TERM", 0)
    ∷ (text "EROR", 0)
    ∷ (text "REVI", 0)
    ∷ (text "PRTO", 0)
    ∷ []

pub verdicts_left : actions_judged judged_left ≡ all_actions "NEWT"
unfolding computing
verdicts_left = refl

pub verdicts_right : actions_judged judged_right ≡ all_actions "TERM"
unfolding computing
verdicts_right = refl

pub premises_met : Alike caps judged_left judged_right
unfolding computing
premises_met = alike caps judged_left judged_right refl

-- so demand 3 speaks of these histories
limits_fit : limits.largest < 256 ^ u32
limits_fit = omega arith

pub demand_3_applies : tape limits (start limits caps left_ledger) left ≡ tape limits (start limits caps right_ledger) right
demand_3_applies = same_tapes limits limits_fit caps left_ledger right_ledger left right opened_left opened_right premises_met
