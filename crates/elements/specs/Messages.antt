-- Specification, sections 2 and 3: which codes are known, and which elements a message of an action takes and needs (verdicts 5, 7 and 8).
use Rattle.std.specs.Prelude.{ℕ, zero, suc, ◌≤◌, Bool, true, false, ◌≡◌, List, [], ◌∷◌, map}
use Rattle.octets.specs.Bytes.{Bytes}
use Rattle.octets.specs.Choice.{choose}
use Rattle.message.specs.Layout.{layout_right}
use Rattle.actions.specs.declared.Action.{Action}
use Rattle.actions.specs.Actions.{is_full}
use Rattle.elements.specs.declared.table.Kinds.{Kinds}
use Rattle.elements.specs.declared.table.Kinds.TheVariants.{None, All, Full}
use Rattle.elements.specs.declared.table.Element.{Element}
use Rattle.elements.specs.Table.{elements, element_of}

-- a code is known where some message takes its element
abbrev pub is_taken : Kinds → Bool
is_taken None = false
is_taken All = true
is_taken Full = true

unfoldable pub known : List Bool
known = map (λ (e : Element). is_taken e.taken) elements

-- a message has at most an entry for each known code
unfoldable pub how_many : List Bool → ℕ
how_many [] = zero
how_many (b ∷ bs) = choose b (suc (how_many bs)) (how_many bs)

unfoldable pub most_entries : ℕ
most_entries = how_many known

-- the layout of a message (verdict 5)
unfoldable pub has_layout : ℕ → Bytes → Bool
has_layout longest m = layout_right longest most_entries known m

-- a message of the action is of the kinds
abbrev pub is_among : Kinds → Action → Bool
is_among None a = false
is_among All a = true
is_among Full a = is_full a

-- a message of the action may have the element
unfoldable pub takes : Action → ℕ → Bool
takes a code = is_among (element_of code).taken a

-- a message of the action needs the element, whatever else it has
unfoldable pub needs : Action → ℕ → Bool
needs a code = is_among (element_of code).needed a

-- the action takes each code from 1 to n
abbrev pub TakenUpTo : Action → ℕ → Type 0
TakenUpTo a n = (code : ℕ) → 1 ≤ code → code ≤ n → takes a code ≡ true
