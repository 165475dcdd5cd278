-- Laws of specs/Day.antt. Assumes nothing.
use Prim.Native.Nat.{ℕ, zero, suc, ◌+◌, ◌<◌, ◌≤◌}
use mathlib.Core.Bool.{Bool, true, false}
use mathlib.Core.Path.{◌≡◌, refl, sym, ap, ◌∙◌}
use mathlib.Core.Logic.{⊎_elim}
use mathlib.Core.List.{[], ◌++◌, append_assoc}
use native.Mathlib.Nat.{zero-add}
use native.Mathlib.Decide.{dec_lt}
use native.Mathlib.Omega.{arith}
use borrow.Author.Tests.{ne_eqb}
use lib.ListN.{length, take, drop, length-drop}
use lib.Seq.{take-append-le, drop-append-le}
use lib.Dec.{eqb, leb}
use Rattle.octets.specs.Bytes.{Bytes}
use Rattle.octets.specs.Choice.{choose}
use Rattle.octets.specs.Part.{part}
use Rattle.octets.proofs.ChoiceLaws.{not_true_false}
use Rattle.submission.specs.Opening.{document_limits}
use Rattle.submission.specs.Submission.{submitted}
use Rattle.day.specs.declared.frame.Frame.{Frame}
use Rattle.day.specs.declared.frame.Frame.TheVariants.{Message, Overlong, Partial}
use Rattle.day.specs.Frame.{length_size, length_of, is_whole, frame_of}
use Rattle.day.proofs.FrameLaws.{whole_length, whole_frame, frame_more}
use Rattle.dayrun.specs.Day.{Day, Step, answered, step_on, step, after_messages, rest_after, report_from}
use Rattle.dayrun.specs.Progress.{write_size, waiting_with, written_with, waiting_after, written_after}
use Rattle.dayrun.specs.Blocks.{JudgedAtOnce, NothingLost}

-- ---- a step, by what stands at the front

pub step_on_lem : (d : Day) (xs : Bytes) (f : Frame) → frame_of document_limits.longest xs ≡ f → step d xs ≡ step_on d xs f
unfolding step
step_on_lem d xs f e = ap (step_on d xs) e

-- a step that takes nothing changes nothing, any other counts one message
none_taken : (d : Day) (xs : Bytes) (f : Frame) → (step_on d xs f).taken ≡ 0 → step_on d xs f ≡ step_on d xs Partial
none_taken d xs (Message n) e = absurd (omega (arith, e))
none_taken d xs (Overlong n) e = absurd (omega (arith, e))
none_taken d xs Partial e = refl

some_taken : (d : Day) (xs : Bytes) (f : Frame) → 0 < (step_on d xs f).taken → (step_on d xs f).after.judged ≡ d.judged + 1
some_taken d xs (Message n) h = refl
some_taken d xs (Overlong n) h = refl
some_taken d xs Partial h = absurd (omega (arith, h))

pub step_none : (d : Day) (xs : Bytes) → (step d xs).taken ≡ 0 → step d xs ≡ step_on d xs Partial
unfolding step
step_none d xs e = none_taken d xs (frame_of document_limits.longest xs) e

pub step_one : (d : Day) (xs : Bytes) → 0 < (step d xs).taken → (step d xs).after.judged ≡ d.judged + 1
unfolding step
step_one d xs h = some_taken d xs (frame_of document_limits.longest xs) h

-- ---- after one message more

pub after_more : (k : ℕ) (d : Day) (xs : Bytes) → after_messages (suc k) d xs ≡ (step (after_messages k d xs) (rest_after k d xs)).after
unfolding after_messages rest_after
after_more zero d xs = refl
after_more (suc k) d xs = after_more k (step d xs).after (drop (step d xs).taken xs)

pub rest_more : (k : ℕ) (d : Day) (xs : Bytes) → rest_after (suc k) d xs ≡ drop (step (after_messages k d xs) (rest_after k d xs)).taken (rest_after k d xs)
unfolding after_messages rest_after
rest_more zero d xs = refl
rest_more (suc k) d xs = rest_more k (step d xs).after (drop (step d xs).taken xs)

-- ---- reading in pieces

-- the part of the message is there
part_more : (xs ys : Bytes) (at n : ℕ) → at + n ≤ length xs → part (xs ++ ys) at n ≡ part xs at n
part_more xs ys at n h =
    ap (take n) (drop-append-le at xs ys (omega arith)) ∙ take-append-le n (drop at xs) ys (omega (arith, length-drop at xs))

-- a message that is there whole has the same step
step_more : (d : Day) (xs ys : Bytes) → is_whole xs ≡ true → step d (xs ++ ys) ≡ step d xs
step_more d xs ys e =
    let more = frame_more document_limits.longest xs ys e in
    let sent = part_more xs ys length_size (length_of xs) (whole_length xs e).1 in
    ⊎_elim
    (λ f. step_on_lem d (xs ++ ys) (Overlong (length_of xs)) (more ∙ f) ∙ sym (step_on_lem d xs (Overlong (length_of xs)) f))
    (λ f.
    step_on_lem d (xs ++ ys) (Message (length_of xs)) (more ∙ f)
    ∙ ap (λ (m : Bytes). answered d (length_of xs) (submitted document_limits d.lent m)) sent
    ∙ sym (step_on_lem d xs (Message (length_of xs)) f))
    (whole_frame document_limits.longest xs e)

-- and takes its length and its bytes
step_takes : (d : Day) (xs : Bytes) → is_whole xs ≡ true → (step d xs).taken ≡ length_size + length_of xs
step_takes d xs e =
    ⊎_elim
    (λ f. ap (λ (s : Step). s.taken) (step_on_lem d xs (Overlong (length_of xs)) f))
    (λ f. ap (λ (s : Step). s.taken) (step_on_lem d xs (Message (length_of xs)) f))
    (whole_frame document_limits.longest xs e)

-- where a step takes nothing no message is whole
pub not_whole_left : (d : Day) (xs : Bytes) → (step d xs).taken ≡ 0 → is_whole xs ≡ false
not_whole_left d xs z = not_true_false (is_whole xs) (λ e. omega (arith, z, step_takes d xs e))

-- and a message is whole where a step takes something
some_whole : (d : Day) (xs : Bytes) (b : Bool) → is_whole xs ≡ b → 0 < (step d xs).taken → is_whole xs ≡ true
unfolding frame_of
some_whole d xs true e h = e
some_whole d xs false e h = absurd (omega (arith, h, ap (λ (s : Step). s.taken) (step_on_lem d xs Partial (rw e))))

pub judged_at_once : JudgedAtOnce
unfolding report_from
judged_at_once k d xs ys e =
    let h : (length_size ≤ length xs) × (length_size + length_of xs ≤ length xs) = whole_length xs e in
    let n : (step d xs).taken ≡ length_size + length_of xs = step_takes d xs e in
    let some : eqb (step d xs).taken 0 ≡ false = ne_eqb (step d xs).taken 0 (λ z. omega (arith, n, z)) in
    let rest : drop (step d xs).taken (xs ++ ys) ≡ drop (step d xs).taken xs ++ ys = drop-append-le (step d xs).taken xs ys (omega (arith, n, h.1)) in
    rw (step_more d xs ys e, some, rest)

-- ---- no line is lost

step_most : (d : Day) (xs : Bytes) → (step d xs).after.judged ≤ d.judged + 1
step_most d xs =
    elim (dec_lt 0 (step d xs).taken) [
      | yes h ↦ omega (arith, step_one d xs h)
      | no h ↦ omega (arith, ap (λ (s : Step). s.after.judged) (step_none d xs (omega (arith, h))))
    ]

after_most : (k : ℕ) (d : Day) (xs : Bytes) → (after_messages k d xs).judged ≤ d.judged + k
unfolding after_messages
after_most zero d xs = omega arith
after_most (suc k) d xs = omega (arith, after_most k (step d xs).after (drop (step d xs).taken xs), step_most d xs)

-- where each step counts a message, the first takes one
first_taken : (k : ℕ) (d : Day) (xs : Bytes) → (after_messages (suc k) d xs).judged ≡ d.judged + suc k → 0 < (step d xs).taken
unfolding after_messages
first_taken k d xs e =
    elim (dec_lt 0 (step d xs).taken) [
      | yes h ↦ h
      | no h ↦
          let stays : (step d xs).after.judged ≡ d.judged = ap (λ (s : Step). s.after.judged) (step_none d xs (omega (arith, h))) in
          absurd (omega (arith, e, stays, after_most k (step d xs).after (drop (step d xs).taken xs)))
    ]

-- written out or not, it is all there
split : (b : Bool) (xs ys : Bytes) → xs ++ ys ≡ choose b xs [] ++ (choose b [] xs ++ ys)
split true xs ys = refl
split false xs ys = refl

pub nothing_lost : NothingLost
unfolding after_messages rest_after waiting_after written_after
nothing_lost zero j d xs ys waiting e = ap (λ (n : ℕ). waiting ++ report_from n d (xs ++ ys)) (zero-add j)
nothing_lost (suc k) j d xs ys waiting e =
    let s : Step = step d xs in
    let rest : Bytes = drop s.taken xs in
    let more : Bytes = report_from (k + j) s.after (rest ++ ys) in
    let out : Bytes = written_with waiting s.line in
    let h : 0 < s.taken = first_taken k d xs e in
    let n : suc k + j ≡ suc (k + j) = omega arith in
    ap (λ (i : ℕ). waiting ++ report_from i d (xs ++ ys)) n
    ∙ ap (λ (l : Bytes). waiting ++ l) (judged_at_once (k + j) d xs ys (some_whole d xs (is_whole xs) refl h))
    ∙ sym (append_assoc waiting s.line more)
    ∙ split (leb write_size (length (waiting ++ s.line))) (waiting ++ s.line) more
    ∙ ap (λ (l : Bytes). out ++ l) (nothing_lost k j s.after rest ys (waiting_with waiting s.line) (omega (arith, e, step_one d xs h)))
    ∙ sym (append_assoc out (written_after k s.after rest (waiting_with waiting s.line)) _)
