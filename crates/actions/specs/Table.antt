-- Specification, section 5: the table of actions, a row for each.
use Rattle.std.specs.Prelude.{ℕ, Bool, true, false, List, [], ◌∷◌, get_or}
use Prim.Native.String.{String}
use Rattle.actions.specs.declared.Action.{Action}
use Rattle.actions.specs.declared.Action.TheVariants.{Newt, Modi, Corr, Term, Eror, Revi, Prto}
use Rattle.actions.specs.declared.table.Kind.{Kind}
use Rattle.actions.specs.declared.table.Kind.TheVariants.{Full, Short}
use Rattle.actions.specs.Statuses.{unknown, live, closed, errored, ported}

-- a step of the status, from one to another
infix 90 ◌to◌
abbrev pub ◌to◌ : ℕ → ℕ → ℕ × ℕ
from to after = (from, after)

-- the columns of Appendix F's matrix; behind them stands that of no event
abbrev pub events : List String
events = "TRAD" ∷ "NOVA" ∷ "COMP" ∷ "ETRM" ∷ "CLRG" ∷ "EXER" ∷ "ALOC" ∷ "CLAL" ∷ "CREV" ∷ "PTNG" ∷ "CORP" ∷ "UPDT" ∷ []

-- what the table says of an action
pub record ActionRow : Type 0 where
  pub text : String
  -- which elements its messages take and need
  pub kind : Kind
  -- it is a new swap's; any other is for a swap that has a row
  pub new : Bool
  -- every accepted message but PRTO writes a tape line
  pub line : Bool
  -- but MODI only where its masked terms are not the stored ones
  pub change : Bool
  -- MODI and REVI repeat the stored execution timestamp; CORR may mend it
  pub repeats : Bool
  -- from which status to which; no other step exists
  pub steps : List (ℕ × ℕ)
  -- the row of the matrix, Y where Appendix F has a tick
  pub events : String

abbrev pub row : String → Kind → Bool → Bool → Bool → Bool → List (ℕ × ℕ) → String → ActionRow
row text kind new line change repeats steps events =
    record { text = text; kind = kind; new = new; line = line; change = change; repeats = repeats; steps = steps; events = events }

abbrev pub action_row : Action → ActionRow
action_row Newt = row "NEWT" Full true true false false (unknown to live ∷ []) "YYY-YYYY-YYY-"
action_row Modi = row "MODI" Full false true true true (live to live ∷ []) "YYY--YY-Y-YY-"
action_row Corr = row "CORR" Full false true false false (live to live ∷ closed to closed ∷ []) "------------Y"
action_row Term = row "TERM" Short false true false false (live to closed ∷ []) "-YYYYYYYY-Y--"
action_row Eror = row "EROR" Short false true false false (live to errored ∷ closed to errored ∷ []) "------------Y"
action_row Revi = row "REVI" Full false true false true (errored to live ∷ closed to live ∷ []) "------------Y"
action_row Prto = row "PRTO" Short false false false false (live to ported ∷ []) "---------Y---"

abbrev pub all_actions : List Action
all_actions = Newt ∷ Modi ∷ Corr ∷ Term ∷ Eror ∷ Revi ∷ Prto ∷ []

abbrev pub action_at : ℕ → Action
action_at k = get_or all_actions k Newt
