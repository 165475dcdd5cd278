-- Specification, clause 8.8: since opening the totals are a full count of the rows, they add up to the NEWT messages accepted, and no two rows hold the same UTI.
use Rattle.std.specs.Prelude.{ℕ, ◌+◌, ◌^◌, ◌<◌, ◌≤◌, Bool, true, ◌≡◌, List, [], ◌∷◌, length, eqb}
use Rattle.octets.specs.Bytes.{Bytes}
use Rattle.octets.specs.Choice.{choose, both}
use Rattle.actions.specs.Actions.{is_new}
use Rattle.actions.specs.Statuses.{live, closed, errored, ported}
use Rattle.ledger.specs.declared.header.Caps.{Caps}
use Rattle.ledger.specs.Layout.{u32, uti_size}
use Rattle.ledger.specs.Totals.{totals_in, sum_of}
use Rattle.ledger.specs.Header.{rows_in_use}
use Rattle.ledger.specs.Rows.{row_at, holds_uti}
use Rattle.ledger.specs.RowList.{rows_of, count_of}
use Rattle.submission.specs.Opening.{Limits, opened}
use Rattle.submission.specs.History.{Call, message_of, answer_to, ledger_after, ledger_after_all, has_action}
use Rattle.submission.specs.Demand3.{start}
use Rattle.submission.specs.Totals.{asked_totals}

-- the message is a NEWT and accepted
abbrev pub opens_swap : Limits → Bytes → Call → Bool
opens_swap limits l c = both (eqb (answer_to limits l c).verdict 0) (has_action is_new (message_of c))

-- how many NEWT messages of a history were accepted
unfoldable pub new_swaps : Limits → Bytes → List Call → ℕ
new_swaps limits l [] = 0
new_swaps limits l (c ∷ cs) = choose (opens_swap limits l c) 1 0 + new_swaps limits (ledger_after limits l c) cs

-- a full count of the rows in use, by status from live to ported
abbrev pub full_count : Bytes → List ℕ
full_count l = count_of live (rows_of l) ∷ count_of closed (rows_of l) ∷ count_of errored (rows_of l) ∷ count_of ported (rows_of l) ∷ []

-- after any calls since opening, the totals question answers 0 and a full count
abbrev pub TotalsCountUnder : Limits → Type 0
TotalsCountUnder limits =
    (caps : Caps) (l : Bytes) (cs : List Call)
    → (opened limits caps l).verdict ≡ 0
    → asked_totals limits (ledger_after_all limits (start limits caps l) cs)
    ≡ record { verdict = 0; totals = full_count (ledger_after_all limits (start limits caps l) cs) }

-- under any limits whose largest capacity the header's field can hold
abbrev pub TotalsCount : Type 0
TotalsCount = (limits : Limits) → limits.largest < 256 ^ u32 → TotalsCountUnder limits

-- and the totals add up to the number of NEWT messages accepted
abbrev pub TotalsSumUnder : Limits → Type 0
TotalsSumUnder limits =
    (caps : Caps) (l : Bytes) (cs : List Call)
    → (opened limits caps l).verdict ≡ 0
    → sum_of (totals_in (ledger_after_all limits (start limits caps l) cs)) ≡ new_swaps limits (start limits caps l) cs

abbrev pub TotalsSum : Type 0
TotalsSum = (limits : Limits) → limits.largest < 256 ^ u32 → TotalsSumUnder limits

-- after any calls since opening, no two rows in use hold the same UTI
abbrev pub RowsDifferUnder : Limits → Type 0
RowsDifferUnder limits =
    (caps : Caps) (l : Bytes) (cs : List Call) (u : Bytes) (i j : ℕ)
    → (opened limits caps l).verdict ≡ 0
    → length u ≤ uti_size
    → i < j
    → j < rows_in_use (ledger_after_all limits (start limits caps l) cs)
    → holds_uti u (row_at (ledger_after_all limits (start limits caps l) cs) i) ≡ true
    → holds_uti u (row_at (ledger_after_all limits (start limits caps l) cs) j) ≡ true
    → ⊥

abbrev pub RowsDiffer : Type 0
RowsDiffer = (limits : Limits) → limits.largest < 256 ^ u32 → RowsDifferUnder limits
