-- `repository::answer::pack` meets its contract. Assumes nothing.
use Rattle.std.proofs.Common.{refl, rules}
use Rattle.repository.specs.Answers.{packed}
use Rattle.repository.proofs.AnswerLaws.{recovered}
use Rattle.repository.proofs.answer.pack.Goals as goal

pub returns : goal.returns
unfolding packed
returns c = rw (c.from.ensures, c.from-2.ensures, c.from-3.ensures) (refl, recovered _ _ _ _ (search rules) (search rules) (search rules))
