-- The step at the front of what is left of the input, by the frame that was found there.
use Rattle.std.proofs.Common.{◌≡◌, ℕ, ◌-◌, length, take, drop, sym, ap, ◌∙◌, arith, length-drop}
use lib.Seq.{take_all}
use Rattle.octets.specs.Bytes.{Bytes}
use Rattle.octets.specs.Part.{part, splice}
use Rattle.octets.proofs.PartLaws.{splice_none}
use Rattle.submission.specs.Opening.{document_limits}
use Rattle.submission.specs.Lent.{Lent, lent_of}
use Rattle.submission.specs.Submission.{submitted}
use Rattle.day.specs.declared.frame.Frame.{Frame}
use Rattle.day.specs.declared.frame.Frame.TheVariants.{Message, Overlong, Partial}
use Rattle.day.specs.Frame.{length_size, frame_of}
use Rattle.dayrun.specs.declared.judging.Progress.{Progress}
use Rattle.dayrun.specs.Day.{Step, answered, step_on}
use Rattle.dayrun.specs.Progress.{day_of, step_at, progress_after}
use Rattle.dayrun.proofs.DayLaws.{step_on_lem}
use Rattle.dayrun.proofs.ProgressLaws.{progress_is, line_is, unmoved}
use Rattle.dayrun.proofs.judging.judge_next.Goals as goal

module _ (lent : Lent) (input : Bytes) (p : Progress) where
  -- the slice that is lent of the input is all that is left of it
  abbrev left : Bytes
  left = take (length input - p.at) (drop p.at input)

  all_left : left ≡ drop p.at input
  all_left = take_all (length input - p.at) (drop p.at input) (omega (arith, length-drop p.at input))

  stepped : (f : Frame) → f ≡ frame_of document_limits.longest left → step_at lent input p ≡ step_on (day_of lent p) (drop p.at input) f
  stepped f e =
      step_on_lem (day_of lent p) (drop p.at input) f (sym (e ∙ ap (frame_of document_limits.longest) all_left))

  message : (n : ℕ) (m : Bytes) → Message n ≡ frame_of document_limits.longest left → m ≡ part left length_size n → step_at lent input p ≡ answered (day_of lent p) n (submitted document_limits lent m)
  message n m e k =
      stepped (Message n) e
      ∙ ap (λ (x : Bytes). answered (day_of lent p) n (submitted document_limits lent x)) (sym (k ∙ ap (λ (xs : Bytes). part xs length_size n) all_left))

pub returns-in-Message-clause-value : goal.returns-in-Message-clause-value
returns-in-Message-clause-value c =
    let a = c.args in
    let one = message (lent_of a.ledger.now a.tape.now) a.input.now a.p c.in-Message.n _ c.in-Message.ensures.value c.part_of-m.ensures.0 in
    c.report.ensures.value ∙ progress_is _ (drop a.p.at a.input.now) a.p c.in-Message.n _ one _ c.submit-a.ensures.value

pub returns-in-Message-clause-out_after : goal.returns-in-Message-clause-out_after
returns-in-Message-clause-out_after c =
    let a = c.args in
    let one = message (lent_of a.ledger.now a.tape.now) a.input.now a.p c.in-Message.n _ c.in-Message.ensures.value c.part_of-m.ensures.0 in
    c.report.ensures.out_after ∙ ap (splice a.out.now a.p.used) (line_is _ (drop a.p.at a.input.now) a.p c.in-Message.n _ one _ c.submit-a.ensures.value)

pub returns-in-Message-clause-tape_after : goal.returns-in-Message-clause-tape_after
returns-in-Message-clause-tape_after c =
    let a = c.args in
    let one = message (lent_of a.ledger.now a.tape.now) a.input.now a.p c.in-Message.n _ c.in-Message.ensures.value c.part_of-m.ensures.0 in
    c.submit-a.ensures.tape_after ∙ ap (λ (x : Step). x.after.lent) (sym one)

pub returns-in-Overlong-clause-value : goal.returns-in-Overlong-clause-value
returns-in-Overlong-clause-value c =
    let a = c.args in
    let one = stepped (lent_of a.ledger.now a.tape.now) a.input.now a.p (Overlong c.in-Overlong.n) c.in-Overlong.ensures.value in
    c.report-in-Overlong.ensures.value ∙ progress_is _ (drop a.p.at a.input.now) a.p c.in-Overlong.n _ one _ c.from.ensures

pub returns-in-Overlong-clause-out_after : goal.returns-in-Overlong-clause-out_after
returns-in-Overlong-clause-out_after c =
    let a = c.args in
    let one = stepped (lent_of a.ledger.now a.tape.now) a.input.now a.p (Overlong c.in-Overlong.n) c.in-Overlong.ensures.value in
    c.report-in-Overlong.ensures.out_after ∙ ap (splice a.out.now a.p.used) (line_is _ (drop a.p.at a.input.now) a.p c.in-Overlong.n _ one _ c.from.ensures)

pub returns-in-Overlong-clause-tape_after : goal.returns-in-Overlong-clause-tape_after
returns-in-Overlong-clause-tape_after c =
    let a = c.args in
    ap (λ (x : Step). x.after.lent) (sym (stepped (lent_of a.ledger.now a.tape.now) a.input.now a.p (Overlong c.in-Overlong.n) c.in-Overlong.ensures.value))

pub returns-in-Partial-clause-value : goal.returns-in-Partial-clause-value
returns-in-Partial-clause-value c =
    let a = c.args in
    let none = stepped (lent_of a.ledger.now a.tape.now) a.input.now a.p Partial c.in-Partial.ensures.value in
    unmoved (lent_of a.ledger.now a.tape.now) (drop a.p.at a.input.now) a.p ∙ ap (progress_after a.p) (sym none)

pub returns-in-Partial-clause-out_after : goal.returns-in-Partial-clause-out_after
returns-in-Partial-clause-out_after c =
    let a = c.args in
    let none = stepped (lent_of a.ledger.now a.tape.now) a.input.now a.p Partial c.in-Partial.ensures.value in
    sym (splice_none a.out.now a.p.used) ∙ ap (λ (x : Step). splice a.out.now a.p.used x.line) (sym none)

pub returns-in-Partial-clause-tape_after : goal.returns-in-Partial-clause-tape_after
returns-in-Partial-clause-tape_after c =
    let a = c.args in
    ap (λ (x : Step). x.after.lent) (sym (stepped (lent_of a.ledger.now a.tape.now) a.input.now a.p Partial c.in-Partial.ensures.value))
