-- Specification, section 9: those of opening, and those of a submission that the rules of a message alone (crate rules) have not.
use Rattle.std.specs.Prelude.{ℕ, List, [], ◌∷◌}

-- The ledger buffer is shorter than the shortest ledger.
abbrev pub ledger_short : ℕ
ledger_short = 1

-- A cap is outside its range or is not its own rounded amount.
abbrev pub cap_wrong : ℕ
cap_wrong = 2

-- The ledger is shorter than the shortest, or its header breaks the layout, has more rows than capacity, a cap that 2 refuses or totals whose sum is not the
-- rows in use.
abbrev pub ledger_wrong : ℕ
ledger_wrong = 3

-- The tape buffer is shorter than a line, even for PRTO.
abbrev pub tape_short : ℕ
tape_short = 4

-- The swap's row has a status outside 1 to 4, an identifier outside 1 to next less 1, or a status whose total is 0.
abbrev pub row_wrong : ℕ
row_wrong = 14

-- The swap's status does not admit the action.
abbrev pub not_admitted : ℕ
not_admitted = 15

-- MODI or REVI has another execution timestamp than the row.
abbrev pub other_time : ℕ
other_time = 16

-- NEWT finds rows in use equal to capacity.
abbrev pub ledger_full : ℕ
ledger_full = 17

-- A line is due and the next identifier is 1,000,000,000,000.
abbrev pub identifiers_spent : ℕ
identifiers_spent = 18

-- ---- the numbers that each operation answers beside 0, in checking order

abbrev pub opening_numbers : List ℕ
opening_numbers = 1 ∷ 2 ∷ []

abbrev pub submission_numbers : List ℕ
submission_numbers = 3 ∷ 4 ∷ 5 ∷ 6 ∷ 7 ∷ 8 ∷ 9 ∷ 10 ∷ 11 ∷ 19 ∷ 12 ∷ 13 ∷ 14 ∷ 15 ∷ 16 ∷ 17 ∷ 18 ∷ []

abbrev pub question_numbers : List ℕ
question_numbers = 3 ∷ 9 ∷ 14 ∷ []

abbrev pub totals_numbers : List ℕ
totals_numbers = 3 ∷ []
