-- `repository::operations::totals` meets its contract. Assumes nothing.
use Rattle.std.proofs.Common.{ap, ◌∙◌}
use Rattle.std.proofs.lemmas.Result.{err_from_is_err_and}
use Rattle.rules.specs.Findings.{first_broken}
use Rattle.ledger.specs.declared.header.Header.{Header}
use Rattle.ledger.specs.Totals.{in_order}
use Rattle.ledger.specs.Header.{header_of}
use Rattle.submission.specs.Totals.{totals_rules, asked_totals}
use Rattle.repository.proofs.DecisionLaws.{right_header_read, wrong_header_read}
use Rattle.repository.proofs.operations.totals.Goals as goal

pub returns-in_err-header-clause-by_index : goal.returns-in_err-header-clause-by_index
unfolding asked_totals totals_rules first_broken
returns-in_err-header-clause-by_index c longest =
    let p = err_from_is_err_and c.from_residual.result c.from_residual.ensures.1 in
    let wrong = wrong_header_read _ _ _ _ _ c.read_header.ensures c.ok_or.ensures.value c.in_err-header.was in
    rw (p.1, p.2, wrong.1, wrong.0)

pub returns-in_err-header-clause-totals : goal.returns-in_err-header-clause-totals
unfolding asked_totals totals_rules first_broken
returns-in_err-header-clause-totals c longest =
    let p = err_from_is_err_and c.from_residual.result c.from_residual.ensures.1 in
    let wrong = wrong_header_read _ _ _ _ _ c.read_header.ensures c.ok_or.ensures.value c.in_err-header.was in
    rw (p.1, wrong.0)

pub returns-clause-by_index : goal.returns-clause-by_index
unfolding asked_totals totals_rules first_broken
returns-clause-by_index c longest =
    rw (right_header_read _ _ _ _ _ c.read_header.ensures c.ok_or.ensures.value c.in_ok-header.was).0

pub returns-clause-totals : goal.returns-clause-totals
unfolding asked_totals totals_rules first_broken header_of
returns-clause-totals c longest =
    let right = right_header_read _ _ _ _ _ c.read_header.ensures c.ok_or.ensures.value c.in_ok-header.was in
    rw right.0 (c.into.ensures ∙ ap (λ (h : Header). in_order h.totals) right.1.0)
