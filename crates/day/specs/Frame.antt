-- Specification, section 11: messages each led by a u16 length.
use Rattle.std.specs.Prelude.{ℕ, ◌+◌, ◌<◌, ◌≤◌, Bool, length, ltb, leb}
use Rattle.octets.specs.Bytes.{Bytes}
use Rattle.octets.specs.Choice.{choose, both}
use Rattle.octets.specs.Part.{part}
use Rattle.octets.specs.Number.{from_le}
use Rattle.day.specs.declared.frame.Frame.{Frame}
use Rattle.day.specs.declared.frame.Frame.TheVariants.{Message, Overlong, Partial}

-- the bytes of a length
abbrev pub length_size : ℕ
length_size = 2

-- the most bytes of a message with its length
abbrev pub longest_frame : ℕ
longest_frame = length_size + 65_535

-- the length of the message at the front of the input
abbrev pub length_of : Bytes → ℕ
length_of xs = from_le (part xs 0 length_size)

-- the message at the front of the input has come whole
abbrev pub is_whole : Bytes → Bool
is_whole xs = both (leb length_size (length xs)) (leb (length_size + length_of xs) (length xs))

-- a message, one longer than the longest, or none that is whole
unfoldable pub frame_of : ℕ → Bytes → Frame
frame_of longest xs =
    choose (is_whole xs)
    (choose (ltb longest (length_of xs)) (Overlong (length_of xs)) (Message (length_of xs)))
    Partial

-- a message lies within the input; what is not whole is shorter than the longest
abbrev pub WithinInput : Bytes → Frame → Type 0
WithinInput xs (Message n) = length_size + n ≤ length xs
WithinInput xs (Overlong n) = length_size + n ≤ length xs
WithinInput xs Partial = length xs < longest_frame
