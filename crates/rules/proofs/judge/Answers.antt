-- The layout is the first rule; the others are judged of a message that is laid out right. Assumes nothing.
use mathlib.Core.Path.{◌≡◌, refl, sym, ap, ◌∙◌}
use Rattle.elements.specs.Messages.{known, most_entries, has_layout}
use Rattle.rules.specs.Findings.{first_broken, from_rule}
use Rattle.rules.specs.Rules.{rules_for, verdict, judged, judged_from, verdict_of, numbered}
use Rattle.rules.proofs.VerdictLaws.{judged_verdict}
use Rattle.rules.proofs.judge.Goals as goal

pub new-requires : goal.new-requires
unfolding has_layout known
new-requires c =
    record {
      longest = c.args.longest;
      most = most_entries;
      known = known;
      right = sym c.has_layout.ensures ∙ c.if-not-has_layout.false;
      none = refl;
    }

pub returns : goal.returns
unfolding judged verdict rules_for judged_from from_rule first_broken
returns c =
    let laid = rw c.new.ensures at c.judge_laid.ensures in
    let value : numbered c.judge_laid.result ≡ judged c.args.longest c.args.m.now = rw (sym c.has_layout.ensures ∙ c.if-not-has_layout.false) laid in
    record { result_value = ap verdict_of value ∙ judged_verdict c.args.longest c.args.m.now; value = value }
