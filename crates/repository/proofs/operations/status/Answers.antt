-- `repository::operations::status` meets its contract. Assumes nothing.
use Rattle.std.proofs.Common.{sym}
use Rattle.std.proofs.lemmas.Result.{err_from_is_err_and}
use Rattle.rules.specs.Findings.{first_broken}
use Rattle.submission.specs.Status.{status_rules, asked}
use Rattle.repository.proofs.DecisionLaws.{right_header_read, wrong_header_read, rows_read, wrong_read}
use Rattle.repository.proofs.operations.status.Goals as goal

pub returns-in_err-header : goal.returns-in_err-header
unfolding asked status_rules first_broken
returns-in_err-header c longest =
    let p = err_from_is_err_and c.from_residual.result c.from_residual.ensures.1 in
    let wrong = wrong_header_read _ _ _ _ _ c.read_header.ensures c.ok_or.ensures.value c.in_err-header.was in
    rw (p.1, p.2, wrong.1, wrong.0)

pub returns-then-not-has_form : goal.returns-then-not-has_form
unfolding asked status_rules first_broken
returns-then-not-has_form c longest =
    let right = right_header_read _ _ _ _ _ c.read_header.ensures c.ok_or.ensures.value c.in_ok-header.was in
    rw (right.0, sym c.if-not-has_form.ensures)

pub find_swap-swap-requires : goal.find_swap-swap-requires
find_swap-swap-requires c =
    let right = right_header_read _ _ _ _ _ c.read_header.ensures c.ok_or.ensures.value c.in_ok-header.was in
    ((rows_read _ _ right.1).0, right.1.1)

pub returns-then-has_wrong_row : goal.returns-then-has_wrong_row
unfolding asked status_rules first_broken
returns-then-has_wrong_row c longest =
    let right = right_header_read _ _ _ _ _ c.read_header.ensures c.ok_or.ensures.value c.in_ok-header.was in
    rw (right.0, sym c.if-not-has_form.ensures, wrong_read _ _ _ _ _ right.1.0 c.find_swap-swap.ensures c.if-has_wrong_row.ensures)

pub returns : goal.returns
unfolding asked status_rules first_broken
returns c longest =
    let right = right_header_read _ _ _ _ _ c.read_header.ensures c.ok_or.ensures.value c.in_ok-header.was in
    rw (c.find_swap-swap.ensures, right.0, sym c.if-not-has_form.ensures, wrong_read _ _ _ _ _ right.1.0 c.find_swap-swap.ensures c.if-has_wrong_row.ensures)
