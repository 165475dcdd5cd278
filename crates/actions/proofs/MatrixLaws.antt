-- The named pairs, computed from the matrix, and the column of an event. Assumes nothing.
use mathlib.Core.Bool.{Bool, true, false}
use mathlib.Core.List.{map}
use mathlib.Core.Path.{◌≡◌, refl, ◌∙◌}
use Prim.Native.Nat.{ℕ}
use Rattle.std.specs.Prelude.{Option, Some, None, length, eqb}
use Rattle.std.specs.List.{position}
use Rattle.std.specs.Option.{option_map_or}
use Rattle.octets.specs.Bytes.{Bytes}
use Rattle.octets.specs.Choice.{choose, both}
use Rattle.octets.specs.Text.{text}
use Rattle.octets.specs.Same.{same_bytes, place, one_of}
use Rattle.octets.proofs.SameLaws.{place_listed}
use Rattle.actions.specs.declared.Action.{Action}
use Rattle.actions.specs.Table.{events}
use Rattle.actions.specs.Matrix.{tick, pair_allowed, NamedPairs}

pub named_pairs : NamedPairs
unfolding pair_allowed tick one_of place same_bytes text
named_pairs = (refl, refl, refl, refl, refl)

-- a pair with an event is a tick in the event's column, where it has one
pub pair_column : (a : Action) (v : Bytes) (column : Option ℕ) → eqb (length v) 0 ≡ false → column ≡ position (same_bytes v) (map text events) → option_map_or (tick a) column false ≡ pair_allowed a v
unfolding pair_allowed
pair_column a v column e p = rw (p ∙ place_listed v events, e) (by (one_of events v))
  where
    by : (t : Bool) → option_map_or (tick a) (choose t (Some (place events v)) None) false ≡ both t (tick a (place events v))
    by true = refl
    by false = refl
