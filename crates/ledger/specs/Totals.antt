-- Specification, clauses 8.1 and 8.8: how many swaps have each status, what a header says of it, and what a message writes of it.
use Rattle.std.specs.Prelude.{ℕ, ◌+◌, ◌-◌, List, [], ◌∷◌, eqb}
use Rattle.octets.specs.Bytes.{Bytes}
use Rattle.octets.specs.Choice.{choose}
use Rattle.octets.specs.Part.{part, splice}
use Rattle.octets.specs.Number.{from_le, to_le}
use Rattle.actions.specs.Statuses.{unknown, live, closed, errored, ported}
use Rattle.ledger.specs.Layout.{u32, total_at}
use Rattle.ledger.specs.declared.totals.Totals.{Totals}

-- ---- what a header says, whatever its bytes

-- the total of a status
unfoldable pub total_in : ℕ → Bytes → ℕ
total_in s l = from_le (part l (total_at s) u32)

unfoldable pub totals_in : Bytes → Totals
totals_in l = record { live = total_in live l; closed = total_in closed l; errored = total_in errored l; ported = total_in ported l }

-- by status from live to ported
abbrev pub in_order : Totals → List ℕ
in_order t = t.live ∷ t.closed ∷ t.errored ∷ t.ported ∷ []

-- the total of a status; no other number has one
unfoldable pub total_of : Totals → ℕ → ℕ
total_of t s =
    choose (eqb s live) t.live (choose (eqb s closed) t.closed (choose (eqb s errored) t.errored (choose (eqb s ported) t.ported 0)))

-- what a swap of status t adds to the total of s
abbrev pub adds : ℕ → ℕ → ℕ
adds t s = choose (eqb t s) 1 0

-- the sum is exact
unfoldable pub sum_of : Totals → ℕ
sum_of t = t.live + t.closed + t.errored + t.ported

-- ---- what is written of the totals

unfoldable pub with_total : ℕ → ℕ → Bytes → Bytes
with_total s n l = splice l (total_at s) (to_le u32 n)

-- the total of the old status falls by one; an unknown swap is in none
unfoldable pub lowered : ℕ → Bytes → Bytes
lowered before l = choose (eqb before unknown) l (with_total before (total_in before l - 1) l)

-- a change of status lowers the old status's total and raises the new one's by one; where the status stays, no total moves
unfoldable pub totals_after : ℕ → ℕ → Bytes → Bytes
totals_after before after l = choose (eqb before after) l (with_total after (total_in after l + 1) (lowered before l))
