-- Laws of specs/Line.antt. Assumes nothing.
use Prim.Native.Nat.{ℕ}
use mathlib.Core.Path.{◌≡◌, refl}
use lib.ListN.{length}
use Rattle.octets.specs.Bytes.{Bytes}
use Rattle.octets.specs.Fields.{size_of, written}
use Rattle.octets.proofs.FieldRun.{length_bytes, all_written}
use Rattle.actions.specs.declared.Action.{Action}
use Rattle.ledger.specs.Layout.{line_size}
use Rattle.ledger.specs.Line.{line_fields, line}

module _ (a : Action) (identifier previous : ℕ) (m terms : Bytes) where
  -- a line has one length, whatever is in it
  pub line_in_place : size_of (line_fields a identifier previous m terms) ≡ line_size
  line_in_place = refl

  pub length_line : length (line a identifier previous m terms) ≡ line_size
  unfolding line
  length_line = length_bytes (line_fields a identifier previous m terms)

  -- its fields, written one after the other
  pub line_written : (d : Bytes) {last : Bytes} → length d ≡ line_size → last ≡ written 0 (line_fields a identifier previous m terms) d → last ≡ line a identifier previous m terms
  unfolding line
  line_written d size run = all_written (line_fields a identifier previous m terms) d size run
