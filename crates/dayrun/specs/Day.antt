-- Specification, section 11: the whole output for a day's input.
use Rattle.std.specs.Prelude.{ℕ, zero, suc, ◌+◌, [], ◌++◌, length, drop, replicate, eqb, ltb}
use Rattle.octets.specs.Bytes.{Bytes}
use Rattle.octets.specs.Choice.{choose}
use Rattle.octets.specs.Part.{part}
use Rattle.rules.specs.Verdicts.{layout_wrong}
use Rattle.ledger.specs.declared.header.Caps.{Caps}
use Rattle.ledger.specs.Layout.{row_start, line_size}
use Rattle.submission.specs.Opening.{document_limits, opened}
use Rattle.submission.specs.Lent.{Lent, lent_of}
use Rattle.submission.specs.Submission.{Submitted, submitted, refused}
use Rattle.day.specs.declared.frame.Frame.{Frame}
use Rattle.day.specs.declared.frame.Frame.TheVariants.{Message, Overlong, Partial}
use Rattle.day.specs.Frame.{length_size, frame_of}
use Rattle.day.specs.Report.{heading, report_line, last_line}

-- the program opens 340 rows with all caps at 250,000,000
abbrev pub rows : ℕ
rows = 340

abbrev pub cap : ℕ
cap = 250_000_000

abbrev pub caps : Caps
caps = record { cr = cap; ir = cap; fx = cap; eq = cap; co = cap }

-- the messages that are judged at most; no input reaches it
abbrev pub most_messages : ℕ
most_messages = 1_000_000_000_000_000_000

-- a day so far: ledger and tape buffer, messages judged, lines published
pub record Day : Type 0 where
  pub lent : Lent
  pub judged : ℕ
  pub published : ℕ

-- the lines that an answer publishes: one where it gives an identifier
unfoldable pub lines_of : ℕ → ℕ
lines_of identifier = choose (eqb identifier 0) 0 1

-- one step at the front of the input: the bytes it takes (none where no message is whole), its line, and the day after it
pub record Step : Type 0 where
  pub taken : ℕ
  pub line : Bytes
  pub after : Day

-- a message that is answered counts as judged; its position is counted from 1
abbrev pub answered : Day → ℕ → Submitted → Step
answered d n s =
    record {
      taken = length_size + n;
      line = report_line (d.judged + 1) s.verdict s.element s.identifier;
      after = record { lent = s.lent; judged = d.judged + 1; published = d.published + lines_of s.identifier };
    }

-- one longer than the longest is passed over, and 5 is reported
abbrev pub step_on : Day → Bytes → Frame → Step
step_on d xs (Message n) = answered d n (submitted document_limits d.lent (part xs length_size n))
step_on d xs (Overlong n) = answered d n (refused (layout_wrong, 0) d.lent)
step_on d xs Partial = record { taken = 0; line = []; after = d }

unfoldable pub step : Day → Bytes → Step
step d xs = step_on d xs (frame_of document_limits.longest xs)

-- the day after k messages of the input, and what is left of the input then
unfoldable pub after_messages : ℕ → Day → Bytes → Day
after_messages zero d xs = d
after_messages (suc k) d xs = after_messages k (step d xs).after (drop (step d xs).taken xs)

unfoldable pub rest_after : ℕ → Day → Bytes → Bytes
rest_after zero d xs = xs
rest_after (suc k) d xs = rest_after k (step d xs).after (drop (step d xs).taken xs)

-- the lines of the messages from here on, k at most, and the last line: "cut" where bytes are left over
unfoldable pub report_from : ℕ → Day → Bytes → Bytes
report_from zero d xs = last_line (ltb 0 (length xs)) d.judged d.published
report_from (suc k) d xs =
    choose (eqb (step d xs).taken 0)
    (last_line (ltb 0 (length xs)) d.judged d.published)
    ((step d xs).line ++ report_from k (step d xs).after (drop (step d xs).taken xs))

-- the day before its first message, on buffers of zeros
abbrev pub new_day : Day
new_day =
    record {
      lent = lent_of (opened document_limits caps (replicate (row_start rows) 0)).ledger (replicate line_size 0);
      judged = 0;
      published = 0;
    }

-- the whole output; a message takes two bytes at least, so there are fewer messages than bytes
unfoldable pub day_report : Bytes → Bytes
day_report xs = heading ++ report_from (length xs) new_day xs
