-- A rest opens with the point.
use Rattle.std.proofs.Common.{refl, sym, ◌∙◌, arith}
use mathlib.Core.Bool.{false≢true}
use Rattle.numbers.proofs.NumbersLaws.{bare_form, rest_form}
use Rattle.numbers.proofs.is_number.Goals as goal
use Rattle.numbers.proofs.is_number.Goals.{then-run_of, else-run_of}

pub returns-in-empty : goal.returns-in-empty
returns-in-empty c =
    let a = c.args in
    c.run_of.ensures ∙ sym (bare_form a.digits a.decimals a.v.now _ _ c.whole_of-whole.ensures refl (omega (arith, c.in-empty.len_below)))

pub returns-then-run_of-2 : goal.returns-then-run_of-2
returns-then-run_of-2 c =
    let a = c.args in
    let e = rest_form a.digits a.decimals a.v.now _ _ c.whole_of-whole.ensures refl _ c.decimals_of-tail.ensures c.in_default.len_at_least in
    elim c.if-run_of.branch [
      | then-run_of x ↦ sym (rw (sym c.run_of-in_default.ensures ∙ x.if-run_of.true, sym x.run_of-then-run_of.ensures ∙ sym x.value-is ∙ c.if-run_of-2.true) at e)
      | else-run_of x ↦ absurd (false≢true (sym x.if-run_of.false ∙ sym x.value-is ∙ c.if-run_of-2.true))
    ]

pub returns-else-run_of-2 : goal.returns-else-run_of-2
returns-else-run_of-2 c =
    let a = c.args in
    let e = rest_form a.digits a.decimals a.v.now _ _ c.whole_of-whole.ensures refl _ c.decimals_of-tail.ensures c.in_default.len_at_least in
    c.if-run_of-2.false
    ∙ elim c.if-run_of.branch [
      | then-run_of x ↦ sym (rw (sym c.run_of-in_default.ensures ∙ x.if-run_of.true, sym x.run_of-then-run_of.ensures ∙ sym x.value-is ∙ c.if-run_of-2.false) at e)
      | else-run_of x ↦ sym (rw (sym c.run_of-in_default.ensures ∙ x.if-run_of.false) at e)
    ]
