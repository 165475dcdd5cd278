-- `repository::apply::apply` meets its contract. Assumes nothing.
use Rattle.std.proofs.Common.{ap, ap₂, ◌∙◌, rules}
use Rattle.actions.specs.Actions.{number_of, step_number}
use Rattle.ledger.specs.Rows.{rows_after, header_after}
use Rattle.ledger.specs.Line.{line}
use Rattle.ledger.proofs.ReadBack.{rows_after_total}
use Rattle.submission.specs.Lent.{lent_of}
use Rattle.submission.specs.Submission.{swap_of, line_due_in, terms_for, tape_after}
use Rattle.repository.proofs.StatusLaws.{has_status}
use Rattle.repository.proofs.AdmissionLaws.{line_is, ledger_is}
use Rattle.repository.proofs.apply.apply.Goals as goal

pub update_header-requires : goal.update_header-requires
update_header-requires c =
    let f = c.requires in
    let s = c.args.s in
    let kept = rows_after_total s.action c.args.due c.into.result c.element.result.now s.next c.args.terms.now s.place c.args.l.now c.told-terms f.0.row (step_number s.before) f.0.before in
    (search rules, f.0.rows, f.0.next, λ h. rw (c.store_row.ensures, kept) (f.0.counted (has_status s.before h)))

pub returns : goal.returns
returns c =
    let f = c.requires in
    let s = c.args.s in
    let a = s.action in
    let l = c.args.l.now in
    let m = c.args.m.now in
    let due = line_due_in a l m in
    let terms = terms_for a l m in
    let row = c.store_row.ensures
    ∙ ap (λ n. rows_after a c.args.due n c.element.result.now s.next c.args.terms.now s.place l) c.into.ensures
    ∙ ap (λ u. rows_after a c.args.due (number_of s.status) u s.next c.args.terms.now s.place l) c.element.ensures.0
    ∙ ap₂ (λ d t. rows_after a d (number_of s.status) (swap_of m) s.next t s.place l) f.1 f.2 in
    let line = c.publish.ensures
    ∙ ap₂ (λ d t. tape_after d (line a s.next s.previous m t) c.args.tape.now) f.1 f.2
    ∙ ap (λ z. tape_after due z c.args.tape.now) (line_is f.0) in
    let ledger = c.update_header.ensures
    ∙ ap₂ (λ d z. header_after a d (step_number s.before) (number_of s.status) s.rows s.next z) f.1 row
    ∙ ledger_is f.0 in
    ap₂ lent_of ledger line
