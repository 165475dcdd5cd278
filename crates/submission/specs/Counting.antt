-- Specification, clauses 8.7 and 10.5: which calls answer an identifier and which one, by the number of lines published since opening; calls that write nothing.
use Rattle.std.specs.Prelude.{suc, ◌^◌, ◌<◌, true, false, ◌≡◌, ◌↔◌, List, ◌∷◌, ◌++◌, length}
use Rattle.octets.specs.Bytes.{Bytes}
use Rattle.octets.specs.Choice.{choose}
use Rattle.ledger.specs.declared.header.Caps.{Caps}
use Rattle.ledger.specs.Layout.{u32}
use Rattle.submission.specs.Opening.{Limits, opened}
use Rattle.submission.specs.History.{Call, answer_to, ledger_after, ledger_after_all, publishes, tape}
use Rattle.submission.specs.Demand3.{start}
use Rattle.submission.specs.Published.{published}

-- on any ledger, a call answers an identifier other than 0 exactly where it writes a line
abbrev pub IdentifierWithLine : Type 0
IdentifierWithLine = (limits : Limits) (l : Bytes) (c : Call) → ((answer_to limits l c).identifier ≡ 0 → ⊥) ↔ (publishes limits l c ≡ true)

-- after any calls since opening, the identifier that a line takes is one more than the number of lines published since opening
abbrev pub IdentifierCountsUnder : Limits → Type 0
IdentifierCountsUnder limits =
    (caps : Caps) (l : Bytes) (before : List Call) (c : Call)
    → (opened limits caps l).verdict ≡ 0
    → (answer_to limits (ledger_after_all limits (start limits caps l) before) c).identifier
    ≡ choose (publishes limits (ledger_after_all limits (start limits caps l) before) c) (suc (length (published limits (start limits caps l) before))) 0

-- under any limits whose largest capacity the header's field can hold
abbrev pub IdentifierCounts : Type 0
IdentifierCounts = (limits : Limits) → limits.largest < 256 ^ u32 → IdentifierCountsUnder limits

-- what holds of a ledger and is kept by each call holds of every ledger that calls lead to
abbrev pub KeptByCalls : Type 1
KeptByCalls =
    (limits : Limits) (P : Bytes → Type 0)
    → ((l : Bytes) (c : Call) → P l → P (ledger_after limits l c))
    → (l : Bytes) (cs : List Call) → P l → P (ledger_after_all limits l cs)

-- on any ledger, a call that writes neither ledger nor line leaves the rest of the tape as it would have been
abbrev pub QuietCall : Type 0
QuietCall =
    (limits : Limits) (l : Bytes) (before : List Call) (c : Call) (after : List Call)
    → ledger_after limits (ledger_after_all limits l before) c ≡ ledger_after_all limits l before
    → publishes limits (ledger_after_all limits l before) c ≡ false
    → tape limits l (before ++ (c ∷ after)) ≡ tape limits l (before ++ after)
