-- What the table of actions says: how an action is read, the kinds of actions, and the steps of a swap's status.
use Rattle.std.specs.Prelude.{ℕ, ◌<◌, Bool, true, false, ◌≡◌, List, [], ◌∷◌, map, length, eqb, Err, Ok, Result, MatchResult, None, Some, Option}
use Prim.Native.String.{String}
use Rattle.octets.specs.Bytes.{Bytes}
use Rattle.octets.specs.Choice.{choose}
use Rattle.octets.specs.Same.{look_up}
use Rattle.actions.specs.declared.Action.{Action}
use Rattle.actions.specs.declared.table.Kind.{Kind}
use Rattle.actions.specs.declared.table.Kind.TheVariants.{Full, Short}
use Rattle.actions.specs.declared.table.Columns.{Columns}
use Rattle.actions.specs.declared.statuses.Status.{Status}
use Rattle.actions.specs.declared.statuses.Status.TheVariants.{Live, Closed, Errored, Ported}
use Rattle.actions.specs.declared.statuses.NoStatus.{NoStatus}
use Rattle.actions.specs.Statuses.{live, closed, errored, ported, no_step, statuses}
use Rattle.actions.specs.Table.{action_row, all_actions, action_at}

-- the element that holds the action
abbrev pub action_type : ℕ
action_type = 2

-- codes are matched byte for byte; TERM is not term
abbrev pub action_codes : List (String × Result Action ℕ)
action_codes = map (λ a. ((action_row a).text, Ok a)) all_actions

-- what the value of the element says: one of the seven, or the element is at fault
unfoldable pub action_of : Bytes → Result Action ℕ
action_of v = look_up action_codes (Err action_type) v

-- "full" means messages whose action is NEWT, MODI, CORR or REVI
abbrev pub is_full_kind : Kind → Bool
is_full_kind Full = true
is_full_kind Short = false

abbrev pub is_full : Action → Bool
is_full a = is_full_kind (action_row a).kind

-- an accepted message of the action writes a line
abbrev pub writes_line : Action → Bool
writes_line a = (action_row a).line

-- but only where its masked terms are not the stored ones
abbrev pub needs_change : Action → Bool
needs_change a = (action_row a).change

-- the action is a new swap's; any other is for a swap that has a row
abbrev pub is_new : Action → Bool
is_new a = (action_row a).new

-- a message of the action repeats the stored execution timestamp
abbrev pub repeats_time : Action → Bool
repeats_time a = (action_row a).repeats

-- the status after the step from s, where there is one
abbrev pub step_from : List (ℕ × ℕ) → ℕ → ℕ
step_from [] s = no_step
step_from (step ∷ steps) s = choose (eqb s step.0) step.1 (step_from steps s)

abbrev pub next_status : Action → ℕ → ℕ
next_status a s = step_from (action_row a).steps s

-- the number of a status
abbrev pub number_of : Status → ℕ
number_of Live = live
number_of Closed = closed
number_of Errored = errored
number_of Ported = ported

-- the result is the status with this number, or an error where no status has it
abbrev pub Decodes : ℕ → Result Status NoStatus → Type 0
Decodes number r = MatchResult r (λ s. number_of s ≡ number) (λ e. (e.0 ≡ number) × ((s : Status) → number_of s ≡ number → ⊥))

-- the number of the status that a step leads to, where there is a step
abbrev pub step_number : Option Status → ℕ
step_number None = no_step
step_number (Some s) = number_of s

-- the columns that the code has by action are those of its row
abbrev pub IsRow : Action → Columns → Type 0
IsRow a c =
    (c.place < length all_actions)
    × (action_at c.place ≡ a)
    × (c.kind ≡ (action_row a).kind)
    × (c.new ≡ (action_row a).new)
    × (c.line ≡ (action_row a).line)
    × (c.change ≡ (action_row a).change)
    × (c.repeats ≡ (action_row a).repeats)
    × (map step_number c.steps ≡ map (next_status a) statuses)
