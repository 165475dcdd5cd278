-- Specification, section 7: the tape line.
use Rattle.std.specs.Prelude.{ℕ, List, [], ◌∷◌}
use Rattle.octets.specs.Bytes.{Bytes}
use Rattle.octets.specs.Choice.{choose}
use Rattle.octets.specs.Number.{digits}
use Rattle.octets.specs.Fields.{FieldText, bytes_of}
use Rattle.values.specs.Limits.{event_size}
use Rattle.message.specs.Values.{value}
use Rattle.actions.specs.declared.Action.{Action}
use Rattle.actions.specs.Actions.{action_type, is_new}
use Rattle.elements.specs.Codes.{event_type, event_timestamp}
use Rattle.terms.specs.Terms.{time_size, terms_size}

-- the decimal digits of an identifier
abbrev pub identifier_digits : ℕ
identifier_digits = 12

abbrev pub action_size : ℕ
action_size = 4

-- a line ends with the newline
abbrev pub newline : ℕ
newline = 10

-- the previous identifier of this swap, blank for NEWT
abbrev pub previous_text : Action → ℕ → Bytes
previous_text a previous = choose (is_new a) [] (digits identifier_digits previous)

-- dissemination identifier, the previous one, action, event, event time, masked terms, newline
abbrev pub line_fields : Action → ℕ → ℕ → Bytes → Bytes → List FieldText
line_fields a identifier previous m terms =
    (identifier_digits, digits identifier_digits identifier)
    ∷ (identifier_digits, previous_text a previous)
    ∷ (action_size, value action_type m)
    ∷ (event_size, value event_type m)
    ∷ (time_size, value event_timestamp m)
    ∷ (terms_size, terms)
    ∷ (1, newline ∷ [])
    ∷ []

unfoldable pub line : Action → ℕ → ℕ → Bytes → Bytes → Bytes
line a identifier previous m terms = bytes_of (line_fields a identifier previous m terms)
