-- Bytes are lists of numbers; whatever the numbers, the definitions give an answer.
use Rattle.std.specs.Prelude.{ℕ, List}

abbrev pub Bytes : Type 0
Bytes = List ℕ
