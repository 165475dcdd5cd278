-- Specification, clauses 7.8 and 12.3: histories, which are lists of calls on one ledger, and the tape.
use Rattle.std.specs.Prelude.{ℕ, Bool, false, List, [], ◌∷◌, ◌++◌, take, eqb, Err, Ok, Result}
use Rattle.octets.specs.Bytes.{Bytes}
use Rattle.octets.specs.Choice.{choose, both}
use Rattle.actions.specs.declared.Action.{Action}
use Rattle.ledger.specs.Layout.{line_size}
use Rattle.submission.specs.Opening.{Limits}
use Rattle.submission.specs.Lent.{Buffers}
use Rattle.submission.specs.Submission.{Submitted, submitted, action_in, line_due_in}

-- a call, with the buffers that are lent for it beside the ledger: a message is submitted
pub data Call : Type 0 where
  submit : (message : Bytes) (buffers : Buffers) → Call

abbrev pub answer_to : Limits → Bytes → Call → Submitted
answer_to limits l (submit m b) = submitted limits (record { ledger = l; buffers = b }) m

abbrev pub message_of : Call → Bytes
message_of (submit m b) = m

-- each call finds the ledger as the one before left it
abbrev pub ledger_after : Limits → Bytes → Call → Bytes
ledger_after limits l c = (answer_to limits l c).lent.ledger

unfoldable pub ledger_after_all : Limits → Bytes → List Call → Bytes
ledger_after_all limits l [] = l
ledger_after_all limits l (c ∷ cs) = ledger_after_all limits (ledger_after limits l c) cs

-- ---- the tape

-- the message has an action, and one of a kind
abbrev pub of_kind : (Action → Bool) → Result Action ℕ → Bool
of_kind kind (Err code) = false
of_kind kind (Ok a) = kind a

abbrev pub has_action : (Action → Bool) → Bytes → Bool
has_action kind m = of_kind kind (action_in m)

-- an accepted message for which a line is due writes it
unfoldable pub publishes : Limits → Bytes → Call → Bool
publishes limits l c = both (eqb (answer_to limits l c).verdict 0) (has_action (λ a. line_due_in a l (message_of c)) (message_of c))

-- the line in the tape buffer, as the submission left it
unfoldable pub line_of : Limits → Bytes → Call → Bytes
line_of limits l c = choose (publishes limits l c) (take line_size (answer_to limits l c).lent.buffers.tape) []

-- the tape is all lines since opening in order, each as its submission left it
unfoldable pub tape : Limits → Bytes → List Call → Bytes
tape limits l [] = []
tape limits l (c ∷ cs) = line_of limits l c ++ tape limits (ledger_after limits l c) cs

-- ---- what is known of a history without its ledger: each message and its verdict number

pub record Judgement : Type 0 where
  pub message : Bytes
  pub verdict : ℕ

unfoldable pub judgements : Limits → Bytes → List Call → List Judgement
judgements limits l [] = []
judgements limits l (c ∷ cs) =
    record { message = message_of c; verdict = (answer_to limits l c).verdict }
    ∷ judgements limits (ledger_after limits l c) cs
