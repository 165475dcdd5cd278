-- Specification, section 10: what the operations are given and answer, and the one number that carries an answer to a C host.
use Rattle.std.specs.Prelude.{ℕ, ◌+◌, ◌*◌, ◌/◌, ◌%◌, ◌^◌, ◌<◌, ◌≡◌}
use Rattle.ledger.specs.declared.header.Caps.{Caps}
use Rattle.submission.specs.Opening.{Limits}
use Rattle.submission.specs.Submission.{Submitted}
use Rattle.submission.specs.Status.{Asked}
use Rattle.repository.specs.declared.answer.Answer.{Answer}

-- limits are parameters of the inner functions
abbrev pub limits_of : ℕ → ℕ → Limits
limits_of longest largest = record { longest = longest; largest = largest }

-- opening takes the caps of CR, IR, FX, EQ and CO
abbrev pub caps_of : ℕ → ℕ → ℕ → ℕ → ℕ → Caps
caps_of cr ir fx eq co = record { cr = cr; ir = ir; fx = fx; eq = eq; co = co }

abbrev pub answer_with : ℕ → ℕ → ℕ → ℕ → Answer
answer_with verdict element status identifier = record { verdict = verdict; element = element; status = status; identifier = identifier }

-- a refusal: beside it, status and identifier are 0
abbrev pub refusal_answer : ℕ → ℕ → Answer
refusal_answer verdict element = answer_with verdict element 0 0

-- a submission answers verdict, element and the identifier its line took
abbrev pub submission_answer : Submitted → Answer
submission_answer s = answer_with s.verdict s.element 0 s.identifier

-- the status question answers verdict and element, the status and the last identifier
abbrev pub question_answer : Asked → Answer
question_answer a = answer_with a.verdict a.element a.status a.identifier

-- ---- the number: bits 0 to 7 the verdict, 8 to 15 the element, 16 to 23 the status, 24 to 63 the identifier

-- what one byte holds
abbrev pub byte : ℕ
byte = 256

abbrev pub element_unit : ℕ
element_unit = 2 ^ 8

abbrev pub status_unit : ℕ
status_unit = 2 ^ 16

abbrev pub identifier_unit : ℕ
identifier_unit = 2 ^ 24

-- the number carries identifiers below this
abbrev pub carried_limit : ℕ
carried_limit = 2 ^ 40

unfoldable pub packed : Answer → ℕ
packed a = a.verdict + a.element * element_unit + a.status * status_unit + a.identifier * identifier_unit

-- the fields of a number, as the accessors of include/sdr.h read them
unfoldable pub answer_in : ℕ → Answer
answer_in n = answer_with (n % byte) (n / element_unit % byte) (n / status_unit % byte) (n / identifier_unit)

-- each field of an answer is recovered from its number, and no other number has these fields
abbrev pub NumberCarries : Type 0
NumberCarries =
    ((v e s i : ℕ) → v < byte → e < byte → s < byte → answer_in (packed (answer_with v e s i)) ≡ answer_with v e s i)
    × ((n : ℕ) → packed (answer_in n) ≡ n)
