-- Laws for a loop that writes every byte of a slice, or reads it from one end to the other. Assumes nothing.
use mathlib.Core.Path.{◌≡◌, sym, ◌∙◌}
use mathlib.Core.List.{[], ◌∷◌, ◌++◌, append-nil}
use Prim.Native.Nat.{ℕ, suc, ◌+◌, ◌-◌, ◌≤◌, ◌<◌}
use native.Mathlib.Numerals.{add-one}
use native.Mathlib.Omega.{arith}
use lib.ListN.{length, take, drop, get_or, set}
use lib.Seq.{take-suc-set, append_snoc, take_all, drop-cons}
use Rattle.octets.specs.Bytes.{Bytes}

-- the rest of the count, one turn on
pub left_one : (n i : ℕ) → i < n → n - i ≡ suc (n - (i + 1))
left_one n i h = omega arith

-- a turn's store takes one byte from what is still to be written
pub turn : (d : Bytes) (i v : ℕ) (r whole : Bytes) → i < length d → take i d ++ (v ∷ r) ≡ whole → take (i + 1) (set d i v) ++ r ≡ whole
turn d i v r whole h e = rw (add-one, take-suc-set, append_snoc) e

-- after the last turn nothing is left to write
pub finish : (d r whole : Bytes) (i : ℕ) → length d ≤ i → r ≡ [] → take i d ++ r ≡ whole → d ≡ whole
finish d r whole i h e f = sym (take_all i d h) ∙ sym (append-nil (take i d)) ∙ rw e at f

pub drop_next : (s : Bytes) (i : ℕ) → i < length s → drop i s ≡ get_or s i 0 ∷ drop (i + 1) s
drop_next s i h = rw add-one (drop-cons s i 0 h)
