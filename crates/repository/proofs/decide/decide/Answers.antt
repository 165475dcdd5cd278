-- `repository::decide::decide` meets its contract. Assumes nothing.
use Rattle.std.proofs.Common.{sym, ap, ◌∙◌}
use Rattle.std.proofs.lemmas.Result.{err_from_is_err_and}
use borrow.Author.Tests.{ltb-true, ltb-false}
use Rattle.rules.specs.Rules.{numbered}
use Rattle.submission.specs.Lent.{lent_of}
use Rattle.repository.specs.Answers.{limits_of}
use Rattle.repository.proofs.DecisionLaws.{ledger_refuses, tape_refuses, judged_left, right_header_read, wrong_header_read}
use Rattle.repository.proofs.decide.decide.Goals as goal

pub returns-in_err-header : goal.returns-in_err-header
returns-in_err-header c =
    let p = err_from_is_err_and c.from_residual.result c.from_residual.ensures.1 in
    let wrong = wrong_header_read _ _ _ _ _ c.read_header.ensures c.ok_or.ensures.value c.in_err-header.was in
    rw (p.1, p.2, wrong.1) (ledger_refuses (limits_of c.args.longest c.args.largest) (lent_of c.args.l.now c.args.tape.now) c.args.m.now wrong.0)

pub returns-then-is_tape_short : goal.returns-then-is_tape_short
returns-then-is_tape_short c =
    let right = right_header_read _ _ _ _ _ c.read_header.ensures c.ok_or.ensures.value c.in_ok-header.was in
    tape_refuses (limits_of c.args.longest c.args.largest) (lent_of c.args.l.now c.args.tape.now) c.args.m.now right.0 (ltb-true _ _ (sym c.if-is_tape_short.ensures))

pub returns-in_err-action : goal.returns-in_err-action
returns-in_err-action c =
    let p = err_from_is_err_and c.from_residual-in_err-action.result c.from_residual-in_err-action.ensures.1 in
    let right = right_header_read _ _ _ _ _ c.read_header.ensures c.ok_or.ensures.value c.in_ok-header.was in
    rw (p.1, p.2) (sym (judged_left (limits_of c.args.longest c.args.largest) (lent_of c.args.l.now c.args.tape.now) c.args.m.now right.0 (ltb-false _ _ (sym c.if-is_tape_short.ensures)) _ (sym c.judge.ensures.value ∙ ap numbered c.in_err-action.was)))

pub admit-requires : goal.admit-requires
admit-requires c =
    (right_header_read _ _ _ _ _ c.read_header.ensures c.ok_or.ensures.value c.in_ok-header.was).1

pub returns : goal.returns
returns c =
    let right = right_header_read _ _ _ _ _ c.read_header.ensures c.ok_or.ensures.value c.in_ok-header.was in
    c.admit.ensures ∙ sym (judged_left (limits_of c.args.longest c.args.largest) (lent_of c.args.l.now c.args.tape.now) c.args.m.now right.0 (ltb-false _ _ (sym c.if-is_tape_short.ensures)) _ (sym c.judge.ensures.value ∙ ap numbered c.in_ok-action.was))
