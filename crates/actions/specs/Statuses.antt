-- Specification, clause 5.1: the numbers of the statuses.
use Rattle.std.specs.Prelude.{ℕ, List, [], ◌∷◌}

abbrev pub unknown : ℕ
unknown = 0

abbrev pub live : ℕ
live = 1

abbrev pub closed : ℕ
closed = 2

abbrev pub errored : ℕ
errored = 3

abbrev pub ported : ℕ
ported = 4

abbrev pub statuses : List ℕ
statuses = unknown ∷ live ∷ closed ∷ errored ∷ ported ∷ []

-- no step leads to unknown, so its number says that no such step exists
abbrev pub no_step : ℕ
no_step = 0
