-- Specification, section 11: the report does not depend on the pieces in which the input comes; examples of it.
use Rattle.std.specs.Prelude.{ℕ, suc, ◌+◌, true, ◌≡◌, [], ◌∷◌, ◌++◌, drop}
use Prim.Native.String.{String}
use Rattle.octets.specs.Bytes.{Bytes}
use Rattle.octets.specs.Text.{text}
use Rattle.day.specs.Frame.{is_whole}
use Rattle.dayrun.specs.Day.{Day, step, after_messages, rest_after, report_from, day_report}
use Rattle.dayrun.specs.Progress.{waiting_after, written_after}

-- a message that has come whole can be judged at once: its line is the next of the report, whatever comes behind it
abbrev pub JudgedAtOnce : Type 0
JudgedAtOnce =
    (k : ℕ) (d : Day) (xs ys : Bytes)
    → is_whole xs ≡ true
    → report_from (suc k) d (xs ++ ys) ≡ (step d xs).line ++ report_from k (step d xs).after (drop (step d xs).taken xs ++ ys)

-- no line is lost and none is there twice, whatever comes behind this input: where k messages were judged, what was written out with them,
-- what waits then and the report from there on are what waited before and the report from before
abbrev pub NothingLost : Type 0
NothingLost =
    (k j : ℕ) (d : Day) (xs ys waiting : Bytes)
    → (after_messages k d xs).judged ≡ d.judged + k
    → waiting ++ report_from (k + j) d (xs ++ ys)
    ≡ written_after k d xs waiting ++ (waiting_after k d xs waiting ++ report_from j (after_messages k d xs) (rest_after k d xs ++ ys))

-- the whole output for a few inputs
abbrev pub Example : Bytes → String → Type 0
Example xs lines = day_report xs ≡ text "message verdict element record\n" ++ text lines

-- for the bytes 02 00 00 00 it is that of clause 11.9; no input; a lone byte; a length without its message; a length of 0
abbrev pub Examples : Type 0
Examples =
    Example (2 ∷ 0 ∷ 0 ∷ 0 ∷ []) "1 6 2 0\nend 1 0\n"
    × Example [] "end 0 0\n"
    × Example (2 ∷ []) "cut 0 0\n"
    × Example (1 ∷ 0 ∷ []) "cut 0 0\n"
    × Example (0 ∷ 0 ∷ []) "1 5 0 0\nend 1 0\n"
