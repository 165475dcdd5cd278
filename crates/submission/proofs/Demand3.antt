-- Demand 3 (specification, clause 12.3): the premises on messages and caps imply equal tapes. Assumes nothing.
use mathlib.Core.Path.{sym, ◌∙◌}
use mathlib.Core.List.{[]}
use Rattle.terms.proofs.PublicLaws.{terms_public}
use Rattle.submission.specs.Submission.{cap_on, masked_terms}
use Rattle.submission.specs.Demand3.{start, SameTapes, MaskedTermsPublic}
use Rattle.submission.specs.Published.{TapePublished}
use Rattle.submission.proofs.Opened.{start_agrees}
use Rattle.submission.proofs.PublishedTape.{published_from}
use Rattle.submission.proofs.Pairs.{same_published}

-- the tape says what the published messages and the caps say
pub tape_published : TapePublished
tape_published limits small caps l h v = published_from limits small h (start limits caps l) [] (start_agrees limits caps l v)

-- two histories that agree in what demand 3 names have equal tapes, byte for byte
pub same_tapes : SameTapes
same_tapes limits small caps l₁ l₂ h₁ h₂ v₁ v₂ alike =
    tape_published limits small caps l₁ h₁ v₁
    ∙ same_published caps limits small h₁ h₂ (start limits caps l₁) (start limits caps l₂) (start_agrees limits caps l₁ v₁) (start_agrees limits caps l₂ v₂) alike
    ∙ sym (tape_published limits small caps l₂ h₂ v₂)

pub masked_terms_public : MaskedTermsPublic
unfolding masked_terms
masked_terms_public caps m₁ m₂ same amount = terms_public (cap_on caps m₁) (cap_on caps m₂) m₁ m₂ same amount
