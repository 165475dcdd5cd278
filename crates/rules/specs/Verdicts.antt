-- Specification, section 9: those of a message alone, in checking order.
use Rattle.std.specs.Prelude.{ℕ}

-- The message's layout is wrong.
abbrev pub layout_wrong : ℕ
layout_wrong = 5

-- The action is missing or not one of the seven.
abbrev pub action_wrong : ℕ
action_wrong = 6

-- An element needed by all, or by a full action, is missing.
abbrev pub element_missing : ℕ
element_missing = 7

-- TERM, EROR or PRTO has an element above 5.
abbrev pub element_not_taken : ℕ
element_not_taken = 8

-- A value breaks its form.
abbrev pub form_broken : ℕ
form_broken = 9

-- Action and event, or its absence, are not a pair of the matrix.
abbrev pub not_a_pair : ℕ
not_a_pair = 10

-- A conditional element is missing.
abbrev pub conditional_missing : ℕ
conditional_missing = 11

-- A package has both price and spread.
abbrev pub price_and_spread : ℕ
price_and_spread = 19

-- The price or the spread of a package has more digits than its notation allows.
abbrev pub price_too_long : ℕ
price_too_long = 12

-- In a full message expiration is before effective, settlement before expiration, or reporting before execution.
abbrev pub dates_disordered : ℕ
dates_disordered = 13
