-- Group by group, the terms are written. Assumes nothing.
use Rattle.std.proofs.Common.{ap, ◌∙◌, ℕ, List, Bor, length}
use Rattle.std.proofs.lemmas.Option.{MatchOption-at_some}
use Rattle.octets.proofs.FieldRun.{then_group}
use Rattle.terms.specs.Terms.{terms_of}
use Rattle.terms.proofs.TermLaws.{terms_written}
use Rattle.terms.proofs.write_terms.Goals as goal

pub returns-clause-dst_after : goal.returns-clause-dst_after
returns-clause-dst_after c =
    terms_written _ _ _ (ap length (MatchOption-at_some _ _ _ c.unwrap-dst.ensures c.as_mut_array.ensures.cases).same ∙ c.requires.0)
    (then_group _ _ _ _ c.write_dates.ensures
    (then_group _ _ _ _ c.write_truths.ensures
    (then_group _ _ _ _ c.write_quote.ensures
    (then_group _ _ _ _ c.write_notional.ensures
    c.write_quote-2.ensures))))
    ∙ ap (λ (m : Bor (List ℕ)). terms_of c.args.cap m.now) c.of-m.ensures
