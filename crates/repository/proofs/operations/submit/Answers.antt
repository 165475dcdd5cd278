-- `repository::operations::submit` meets its contract. Assumes nothing.
use Rattle.std.proofs.Common.{sym, ap, ◌∙◌, rules}
use Rattle.submission.specs.Submission.{Submitted}
use Rattle.submission.specs.Lent.{lent_of}
use Rattle.repository.specs.Answers.{limits_of, submission_answer}
use Rattle.repository.specs.Decision.{numbered, decision_answer}
use Rattle.repository.proofs.AdmissionLaws.{by_decision, writable}
use Rattle.repository.proofs.operations.submit.Goals as goal

pub returns-in_default-clause-value : goal.returns-in_default-clause-value
returns-in_default-clause-value c =
    let s = by_decision (limits_of c.args.longest c.args.largest) (lent_of c.args.l.now c.args.tape.now) c.args.m.now _ (sym c.decide-decision.ensures ∙ ap numbered c.in_default.is) in
    c.from.ensures ∙ ap (λ d. decision_answer (numbered d)) c.in_default.is ∙ sym (ap submission_answer s)

pub returns-in_default-clause-tape_after : goal.returns-in_default-clause-tape_after
returns-in_default-clause-tape_after c =
    let s = by_decision (limits_of c.args.longest c.args.largest) (lent_of c.args.l.now c.args.tape.now) c.args.m.now _ (sym c.decide-decision.ensures ∙ ap numbered c.in_default.is) in
    sym (ap (λ (x : Submitted). x.lent) s)

pub conclude-requires : goal.conclude-requires
conclude-requires c =
    writable (limits_of c.args.longest c.args.largest) (lent_of c.args.l.now c.args.tape.now) c.args.m.now _ (search rules) (sym c.decide-decision.ensures ∙ ap numbered c.in-Ok.is)

pub returns-clause-value : goal.returns-clause-value
returns-clause-value c =
    let s = by_decision (limits_of c.args.longest c.args.largest) (lent_of c.args.l.now c.args.tape.now) c.args.m.now _ (sym c.decide-decision.ensures ∙ ap numbered c.in-Ok.is) in
    c.from-2.ensures ∙ c.conclude.ensures.value ∙ sym (ap submission_answer s)

pub returns-clause-tape_after : goal.returns-clause-tape_after
returns-clause-tape_after c =
    let s = by_decision (limits_of c.args.longest c.args.largest) (lent_of c.args.l.now c.args.tape.now) c.args.m.now _ (sym c.decide-decision.ensures ∙ ap numbered c.in-Ok.is) in
    c.conclude.ensures.tape_after ∙ sym (ap (λ (x : Submitted). x.lent) s)
