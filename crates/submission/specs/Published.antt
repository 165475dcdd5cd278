-- Specification, clause 12.3: the tape as a function of the published messages, those that were accepted and wrote a line, and of the caps alone.
use Rattle.std.specs.Prelude.{ℕ, suc, ◌^◌, ◌<◌, ◌≡◌, List, [], ◌∷◌, ◌++◌, length, Err, Ok, Result}
use Rattle.octets.specs.Bytes.{Bytes}
use Rattle.octets.specs.Choice.{choose, both}
use Rattle.octets.specs.Same.{same_bytes}
use Rattle.actions.specs.declared.Action.{Action}
use Rattle.actions.specs.Actions.{is_full}
use Rattle.ledger.specs.declared.header.Caps.{Caps}
use Rattle.ledger.specs.Layout.{u32}
use Rattle.ledger.specs.Line.{line}
use Rattle.submission.specs.Opening.{Limits, opened}
use Rattle.submission.specs.Submission.{swap_of, action_in, masked_terms}
use Rattle.submission.specs.History.{Call, message_of, ledger_after, has_action, publishes, tape}
use Rattle.submission.specs.Demand3.{start}

-- the messages of a history that wrote a line
unfoldable pub published : Limits → Bytes → List Call → List Bytes
published limits l [] = []
published limits l (c ∷ cs) =
    choose (publishes limits l c) (message_of c ∷ published limits (ledger_after limits l c) cs) (published limits (ledger_after limits l c) cs)

-- ---- `earlier` are published messages, the latest first

-- the identifier of the swap's last line, 0 where it has none: the first line took 1, the second 2
unfoldable pub last_identifier : Bytes → List Bytes → ℕ
last_identifier u [] = 0
last_identifier u (e ∷ earlier) = choose (same_bytes (swap_of e) u) (suc (length earlier)) (last_identifier u earlier)

-- the masked terms of the swap's last full message
unfoldable pub last_masked : Caps → Bytes → List Bytes → Bytes
last_masked caps u [] = []
last_masked caps u (e ∷ earlier) =
    choose (both (same_bytes (swap_of e) u) (has_action is_full e)) (masked_terms caps e) (last_masked caps u earlier)

unfoldable pub published_terms : Caps → List Bytes → Bytes → Bytes
published_terms caps earlier m = choose (has_action is_full m) (masked_terms caps m) (last_masked caps (swap_of m) earlier)

abbrev pub line_by : Result Action ℕ → ℕ → ℕ → Bytes → Bytes → Bytes
line_by (Err code) identifier previous m terms = []
line_by (Ok a) identifier previous m terms = line a identifier previous m terms

-- the line of a message that is published after the earlier ones
unfoldable pub published_line : Caps → List Bytes → Bytes → Bytes
published_line caps earlier m = line_by (action_in m) (suc (length earlier)) (last_identifier (swap_of m) earlier) m (published_terms caps earlier m)

unfoldable pub published_tape : Caps → List Bytes → List Bytes → Bytes
published_tape caps earlier [] = []
published_tape caps earlier (m ∷ ms) = published_line caps earlier m ++ published_tape caps (m ∷ earlier) ms

-- the tape says what the published messages and the caps say, and nothing else
abbrev pub TapePublishedUnder : Limits → Type 0
TapePublishedUnder limits =
    (caps : Caps) (l : Bytes) (h : List Call)
    → (opened limits caps l).verdict ≡ 0
    → tape limits (start limits caps l) h ≡ published_tape caps [] (published limits (start limits caps l) h)

-- under any limits whose largest capacity the header's field can hold
abbrev pub TapePublished : Type 0
TapePublished = (limits : Limits) → limits.largest < 256 ^ u32 → TapePublishedUnder limits
