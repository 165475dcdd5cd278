-- `repository::conclude::conclude` meets its contract. Assumes nothing.
use Rattle.std.proofs.Common.{true, false, ◌∙◌}
use Rattle.repository.proofs.AdmissionLaws.{terms_are, next_is, due_by, finished_by, line_takes}
use Rattle.repository.proofs.conclude.conclude.Goals as goal

pub returns-then-finds_spent-clause-value : goal.returns-then-finds_spent-clause-value
returns-then-finds_spent-clause-value c =
    let due = due_by c.requires _ _ _ c.collect_terms.ensures c.terms_at.ensures c.is_line_due-due.ensures in
    rw (finished_by c.requires true _ due c.if-finds_spent.ensures)

pub returns-then-finds_spent-clause-tape_after : goal.returns-then-finds_spent-clause-tape_after
returns-then-finds_spent-clause-tape_after c =
    let due = due_by c.requires _ _ _ c.collect_terms.ensures c.terms_at.ensures c.is_line_due-due.ensures in
    rw (finished_by c.requires true _ due c.if-finds_spent.ensures)

pub apply-requires : goal.apply-requires
apply-requires c =
    let due = due_by c.requires _ _ _ c.collect_terms.ensures c.terms_at.ensures c.is_line_due-due.ensures in
    (c.requires, due, c.collect_terms.ensures ∙ terms_are c.requires)

pub returns-clause-value : goal.returns-clause-value
returns-clause-value c =
    let due = due_by c.requires _ _ _ c.collect_terms.ensures c.terms_at.ensures c.is_line_due-due.ensures in
    rw (finished_by c.requires false _ due c.if-finds_spent.ensures, c.then_some.ensures, due, next_is c.requires) (rw line_takes)

pub returns-clause-tape_after : goal.returns-clause-tape_after
returns-clause-tape_after c =
    let due = due_by c.requires _ _ _ c.collect_terms.ensures c.terms_at.ensures c.is_line_due-due.ensures in
    rw (finished_by c.requires false _ due c.if-finds_spent.ensures) c.apply.ensures
