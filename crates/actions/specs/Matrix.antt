-- Specification, clause 5.3: which events go with which action (verdict 10).
use Rattle.std.specs.Prelude.{ℕ, Bool, true, false, ◌≡◌, length, get_or, eqb}
use Prim.Native.Char.{code}
use Rattle.octets.specs.Bytes.{Bytes}
use Rattle.octets.specs.Choice.{choose, both}
use Rattle.octets.specs.Text.{text}
use Rattle.octets.specs.Same.{place, one_of}
use Rattle.actions.specs.declared.Action.{Action}
use Rattle.actions.specs.declared.Action.TheVariants.{Newt, Modi, Term, Prto}
use Rattle.actions.specs.Table.{events, action_row}

-- the column of no event
abbrev pub no_event : ℕ
no_event = length events

unfoldable pub tick : Action → ℕ → Bool
tick a column = eqb (get_or (text (action_row a).events) column 0) (code "Y")

-- the action and the event, or its absence, are a pair of the matrix
unfoldable pub pair_allowed : Action → Bytes → Bool
pair_allowed a event = choose (eqb (length event) 0) (tick a no_event) (both (one_of events event) (tick a (place events event)))

-- five cells of the matrix by name: four pairs that it allows, one that it does not
abbrev pub NamedPairs : Type 0
NamedPairs =
    (pair_allowed Newt (text "TRAD") ≡ true)
    × (pair_allowed Modi (text "TRAD") ≡ true)
    × (pair_allowed Term (text "ETRM") ≡ true)
    × (pair_allowed Prto (text "PTNG") ≡ true)
    × (pair_allowed Newt (text "ETRM") ≡ false)
