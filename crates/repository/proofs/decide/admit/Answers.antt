-- `repository::decide::admit` meets its contract. Assumes nothing.
use Rattle.std.proofs.Common.{refl, sym, ap, ◌∙◌}
use Rattle.std.proofs.lemmas.Result.{err_from_is_err_and}
use Rattle.ledger.specs.declared.search.Swap.{Swap}
use Rattle.ledger.proofs.SwapLaws.{known_fits}
use Rattle.submission.specs.Submission.{is_not_admitted}
use Rattle.repository.proofs.StatusLaws.{step_read, no_step_read, kept_number, status_most}
use Rattle.repository.proofs.DecisionLaws.{by_rules, rows_read}
use Rattle.repository.proofs.decide.admit.Goals as goal

pub find_swap-swap-requires : goal.find_swap-swap-requires
find_swap-swap-requires c = ((rows_read _ _ c.requires).0, c.requires.1)

pub returns-then-has_wrong_row : goal.returns-then-has_wrong_row
returns-then-has_wrong_row c =
    let left = by_rules c.args.action _ _ _ _ _ _ _ c.requires.0 c.element.ensures.0 c.find_swap-swap.ensures refl refl in
    rw (sym c.if-has_wrong_row.ensures) at left

pub returns-in_err-status : goal.returns-in_err-status
unfolding is_not_admitted
returns-in_err-status c =
    let p = err_from_is_err_and c.from_residual.result c.from_residual.ensures.1 in
    let none = no_step_read _ _ _ _ c.status_after.ensures c.ok_or.ensures.value c.in_err-status.was in
    let left = by_rules c.args.action _ _ _ _ _ _ _ c.requires.0 c.element.ensures.0 c.find_swap-swap.ensures refl refl in
    rw (p.1, p.2, none.1) (rw (sym c.if-has_wrong_row.ensures, none.0) at left)

pub time_of-requires : goal.time_of-requires
time_of-requires c known =
    let found = c.find_swap-swap.ensures in
    rw (ap (λ (x : Swap). x.place) found)
    (known_fits _ _ (rows_read _ _ c.requires).1 (ap (λ (x : Swap). x.known) (sym found) ∙ known))

pub returns-then-has_other_time : goal.returns-then-has_other_time
unfolding is_not_admitted
returns-then-has_other_time c =
    let step = step_read _ _ _ _ c.status_after.ensures c.ok_or.ensures.value c.in_ok-status.was in
    let left = by_rules c.args.action _ _ _ _ _ _ _ c.requires.0 c.element.ensures.0 c.find_swap-swap.ensures c.time_of.ensures refl in
    rw (sym c.if-has_wrong_row.ensures, step.0, sym c.if-has_other_time.ensures) at left

pub returns-then-finds_full : goal.returns-then-finds_full
unfolding is_not_admitted
returns-then-finds_full c =
    let step = step_read _ _ _ _ c.status_after.ensures c.ok_or.ensures.value c.in_ok-status.was in
    let left = by_rules c.args.action _ _ _ _ _ _ _ c.requires.0 c.element.ensures.0 c.find_swap-swap.ensures c.time_of.ensures refl in
    rw (sym c.if-has_wrong_row.ensures, step.0, sym c.if-has_other_time.ensures, sym c.if-finds_full.ensures) at left

pub returns : goal.returns
unfolding is_not_admitted
returns c =
    let step = step_read _ _ _ _ c.status_after.ensures c.ok_or.ensures.value c.in_ok-status.was in
    let left = by_rules c.args.action _ _ _ _ _ _ _ c.requires.0 c.element.ensures.0 c.find_swap-swap.ensures c.time_of.ensures c.cap_of.ensures in
    let before = kept_number _ _ c.try_from.ensures (status_most _ _ _ _ c.find_swap-swap.ensures (sym c.if-has_wrong_row.ensures)) in
    rw (step.1, c.ok.ensures.value, before) (rw (sym c.if-has_wrong_row.ensures, step.0, sym c.if-has_other_time.ensures, sym c.if-finds_full.ensures) at left)
