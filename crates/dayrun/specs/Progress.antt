-- The program's own state: how far the day has come, and what waits to be written. No clause of the specification.
use Rattle.std.specs.Prelude.{ℕ, zero, suc, ◌+◌, ◌-◌, ◌<◌, ◌≤◌, Bool, true, false, ◌≡◌, [], ◌++◌, length, drop, leb}
use Rattle.octets.specs.Bytes.{Bytes}
use Rattle.octets.specs.Choice.{choose}
use Rattle.octets.specs.Part.{part}
use Rattle.dayrun.specs.declared.judging.Progress.{Progress}
use Rattle.submission.specs.Lent.{Lent}
use Rattle.day.specs.Frame.{longest_frame, is_whole}
use Rattle.day.specs.Report.{heading, longest_line}
use Rattle.dayrun.specs.Day.{Day, Step, most_messages, lines_of, step, after_messages, rest_after}

-- after a message that takes so many bytes of the input and has such a line and identifier
abbrev pub counted : Progress → ℕ → Bytes → ℕ → Progress
counted p taken line identifier =
    record { at = p.at + taken; used = p.used + length line; judged = p.judged + 1; published = p.published + lines_of identifier; is_open = p.is_open }

-- the day that it counts, with ledger and tape buffer
abbrev pub day_of : Lent → Progress → Day
day_of lent p = record { lent = lent; judged = p.judged; published = p.published }

-- the step at the front of what is left of the input
abbrev pub step_at : Lent → Bytes → Progress → Step
step_at lent input p = step (day_of lent p) (drop p.at input)

abbrev pub progress_after : Progress → Step → Progress
progress_after p s =
    record { at = p.at + s.taken; used = p.used + length s.line; judged = s.after.judged; published = s.after.published; is_open = p.is_open }

-- as many bytes are written at a time
abbrev pub write_size : ℕ
write_size = 32_768

-- one line more: where that is enough, all is written out and nothing waits
abbrev pub waiting_with : Bytes → Bytes → Bytes
waiting_with waiting line = choose (leb write_size (length (waiting ++ line))) [] (waiting ++ line)

abbrev pub written_with : Bytes → Bytes → Bytes
written_with waiting line = choose (leb write_size (length (waiting ++ line))) (waiting ++ line) []

-- what waits after k messages of the input, and what was written out with them
unfoldable pub waiting_after : ℕ → Day → Bytes → Bytes → Bytes
waiting_after zero d xs waiting = waiting
waiting_after (suc k) d xs waiting = waiting_after k (step d xs).after (drop (step d xs).taken xs) (waiting_with waiting (step d xs).line)

unfoldable pub written_after : ℕ → Day → Bytes → Bytes → Bytes
written_after zero d xs waiting = []
written_after (suc k) d xs waiting =
    written_with waiting (step d xs).line ++ written_after k (step d xs).after (drop (step d xs).taken xs) (waiting_with waiting (step d xs).line)

-- from p₀ to p the messages of the input were judged, one after the other: so many as were counted, and none was left out; their
-- lines stand behind what waited
pub record JudgedUpTo (lent₀ : Lent) (input out₀ : Bytes) (p₀ : Progress) (lent : Lent) (out : Bytes) (p : Progress) : Type 0 where
  pub counted : p₀.judged ≤ p.judged
  pub day : day_of lent p ≡ after_messages (p.judged - p₀.judged) (day_of lent₀ p₀) (drop p₀.at input)
  pub rest : drop p.at input ≡ rest_after (p.judged - p₀.judged) (day_of lent₀ p₀) (drop p₀.at input)
  pub waiting : part out 0 p.used ≡ waiting_after (p.judged - p₀.judged) (day_of lent₀ p₀) (drop p₀.at input) (part out₀ 0 p₀.used)

-- before the first message: the first line waits
abbrev pub at_start : Progress
at_start = record { at = 0; used = length heading; judged = 0; published = 0; is_open = true }

-- what is left of the input stands at the front
abbrev pub at_front : Progress → Progress
at_front p = record { at = 0; used = p.used; judged = p.judged; published = p.published; is_open = p.is_open }

-- where the program writes, nothing waits any more, and whether more can be written is what that write answered; else all stays
abbrev pub written : Bool → Bool → Progress → Progress
written writes answer p =
    record { at = p.at; used = choose writes 0 p.used; judged = p.judged; published = p.published; is_open = choose writes answer p.is_open }

-- ---- bounds

-- as many bytes are read at a time
abbrev pub block_size : ℕ
block_size = 65_536

-- the progress is within n bytes of input, and fewer than `most` bytes wait to be written
pub record Within (n most : ℕ) (p : Progress) : Type 0 where
  pub passed : p.at ≤ n
  pub waiting : p.used < most
  pub lines : p.published ≤ p.judged
  pub messages : p.judged ≤ most_messages

-- from p to r within n bytes of input: one message further, or no message is whole
pub record Steps (n : ℕ) (p r : Progress) : Type 0 where
  pub within : Within n (p.used + longest_line + 1) r
  pub forward : p.at ≤ r.at
  pub counts : p.at < r.at → p.judged < r.judged
  pub stays : r.at ≡ p.at → (n - p.at < longest_frame) × (r.used ≡ p.used)

-- no message that is whole is left of the input, and less than the longest message
abbrev pub Leaves : Bytes → Progress → Type 0
Leaves input p =
    p.is_open ≡ true → p.judged < most_messages → (is_whole (drop p.at input) ≡ false) × (length input - p.at < longest_frame)
