-- Laws of specs/Progress.antt. Assumes nothing.
use Prim.Native.Nat.{ℕ, zero, suc, ◌+◌, ◌-◌, ◌<◌, ◌≤◌}
use mathlib.Core.Bool.{Bool, true, false}
use mathlib.Core.Path.{◌≡◌, refl, sym, ap, ◌∙◌, subst}
use mathlib.Core.List.{[], ◌++◌, append_assoc, append-nil}
use native.Mathlib.Nat.{add-zero}
use native.Mathlib.Omega.{arith}
use lib.ListN.{length, take, drop, length-append}
use lib.Seq.{drop-drop, length-take-le, take_at}
use lib.Dec.{leb}
use Rattle.octets.specs.Bytes.{Bytes}
use Rattle.octets.specs.Choice.{choose}
use Rattle.octets.specs.Part.{part, splice}
use Rattle.octets.proofs.PartLaws.{length_part, length_splice}
use Rattle.submission.specs.Lent.{Lent}
use Rattle.submission.specs.Submission.{Submitted}
use Rattle.repository.specs.declared.answer.Answer.{Answer}
use Rattle.repository.specs.Answers.{submission_answer}
use Rattle.day.specs.declared.frame.Frame.TheVariants.{Partial}
use Rattle.day.specs.Frame.{length_size, longest_frame, is_whole}
use Rattle.octets.specs.Text.{text}
use Rattle.day.specs.Report.{line, heading, longest_line, report_line}
use Rattle.dayrun.specs.declared.judging.Progress.{Progress}
use Rattle.dayrun.specs.Day.{Day, Step, most_messages, answered, step_on, step, after_messages, rest_after}
use Rattle.dayrun.proofs.DayLaws.{step_none, step_one, after_more, rest_more, not_whole_left}
use Rattle.dayrun.specs.Progress.{counted, day_of, step_at, progress_after, write_size, waiting_with, waiting_after, JudgedUpTo, at_start, at_front, written, Within, Steps, Leaves}

-- ---- what is counted is the step's

module _ (lent : Lent) (xs : Bytes) (p : Progress) (n : ℕ) (s : Submitted) (ensured : step (day_of lent p) xs ≡ answered (day_of lent p) n s) (a : Answer) (same : a ≡ submission_answer s) where
  pub progress_is : counted p (length_size + n) (report_line (p.judged + 1) a.verdict a.element a.identifier) a.identifier ≡ progress_after p (step (day_of lent p) xs)
  progress_is =
      ap (λ (b : Answer). counted p (length_size + n) (report_line (p.judged + 1) b.verdict b.element b.identifier) b.identifier) same ∙ ap (progress_after p) (sym ensured)

  pub line_is : report_line (p.judged + 1) a.verdict a.element a.identifier ≡ (step (day_of lent p) xs).line
  line_is =
      ap (λ (b : Answer). report_line (p.judged + 1) b.verdict b.element b.identifier) same ∙ ap (λ x. x.line) (sym ensured)

-- where no message is whole nothing is counted
pub unmoved : (lent : Lent) (xs : Bytes) (p : Progress) → p ≡ progress_after p (step_on (day_of lent p) xs Partial)
unmoved lent xs p =
    let row : ℕ → ℕ → Progress = λ at used. record { at = at; used = used; judged = p.judged; published = p.published; is_open = p.is_open } in
    ap (λ (at : ℕ). row at p.used) (sym (add-zero p.at)) ∙ ap (row (p.at + 0)) (sym (add-zero p.used))

-- ---- bounds

-- one message further
pub one_further : (n taken : ℕ) (p r : Progress) → p.at + taken ≤ n → 0 < taken → p.judged < most_messages → (r.at ≡ p.at + taken) × (r.used ≤ p.used + longest_line) × (r.judged ≡ p.judged + 1) × (r.published ≤ r.judged) → Steps n p r
one_further n taken p r h k m f =
    record {
      within = record { passed = omega (arith, f.0); waiting = omega (arith, f.1); lines = f.3; messages = omega (arith, f.2) };
      forward = omega (arith, f.0);
      counts = λ _. omega (arith, f.2);
      stays = λ e. absurd (omega (arith, f.0, e));
    }

-- no message is whole
pub no_further : (n : ℕ) (p : Progress) → p.at ≤ n → p.published ≤ p.judged → p.judged < most_messages → n - p.at < longest_frame → Steps n p p
no_further n p h l m k =
    record {
      within = record { passed = h; waiting = omega arith; lines = l; messages = omega arith };
      forward = omega arith;
      counts = λ e. absurd (omega (arith, e));
      stays = λ _. (k, refl);
    }

-- ---- writing out

few_wait : (writes : Bool) (n : ℕ) → (writes ≡ false → n < write_size) → choose writes 0 n < write_size
few_wait true n h = omega arith
few_wait false n h = h refl

pub written_within : (n most : ℕ) (writes ensured : Bool) (p r : Progress) → r ≡ written writes ensured p → (writes ≡ false → p.used < write_size) → Within n most p → Within n write_size r
written_within n most writes ensured p r e h w =
    subst (Within n write_size) (sym e) (record { passed = w.passed; waiting = few_wait writes p.used h; lines = w.lines; messages = w.messages })

-- ---- from one block to the next

pub start_within : (p : Progress) → p ≡ at_start → Within 0 write_size p
unfolding text line heading
start_within p e = subst (Within 0 write_size) (sym e) (record { passed = omega arith; waiting = omega arith; lines = omega arith; messages = omega arith })

pub from_start : (n most : ℕ) (p : Progress) → Within 0 most p → Within n most p
from_start n most p w =
    record { passed = omega (arith, w.passed); waiting = w.waiting; lines = w.lines; messages = w.messages }

pub front_within : (n most : ℕ) (p r : Progress) → r ≡ at_front p → Within n most p → Within 0 most r
front_within n most p r e w =
    subst (Within 0 most) (sym e) (record { passed = omega arith; waiting = w.waiting; lines = w.lines; messages = w.messages })

pub front_leaves : (input : Bytes) (kept : ℕ) (p r : Progress) → r ≡ at_front p → kept ≡ length input - p.at → Leaves input p → r.is_open ≡ true → r.judged < most_messages → kept < longest_frame
front_leaves input kept p r e k leaves o m =
    let h : length input - p.at < longest_frame = (leaves (ap (λ (x : Progress). x.is_open) (sym e) ∙ o) (subst (λ (x : Progress). x.judged < most_messages) e m)).1 in
    omega (arith, h, k)

-- ---- what waits

-- a line that is written behind it
line_behind : (out line : Bytes) (used : ℕ) → used + length line ≤ length out → part (splice out used line) 0 (used + length line) ≡ part out 0 used ++ line
unfolding splice
line_behind out line used h =
    let n : length (take used out ++ line) ≡ used + length line = rw (length-append, length-take-le used out (omega arith)) in
    ap (take (used + length line)) (sym (append_assoc (take used out) line (drop (used + length line) out)))
    ∙ take_at (take used out ++ line) (drop (used + length line) out) (used + length line) n

part_chosen : (b : Bool) (xs : Bytes) (n : ℕ) → part xs 0 (choose b 0 n) ≡ choose b [] (part xs 0 n)
part_chosen true xs n = refl
part_chosen false xs n = refl

waiting_more : (k : ℕ) (d : Day) (xs waiting : Bytes) → waiting_after (suc k) d xs waiting ≡ waiting_with (waiting_after k d xs waiting) (step (after_messages k d xs) (rest_after k d xs)).line
unfolding waiting_after after_messages rest_after
waiting_more zero d xs waiting = refl
waiting_more (suc k) d xs waiting = waiting_more k (step d xs).after (drop (step d xs).taken xs) (waiting_with waiting (step d xs).line)

-- ---- messages judged one after the other

day_same : (d : Day) (lent : Lent) (p : Progress) → lent ≡ d.lent → p.judged ≡ d.judged → p.published ≡ d.published → day_of lent p ≡ d
day_same d lent p a c e =
    let row : Lent → ℕ → ℕ → Day = λ x j k. record { lent = x; judged = j; published = k } in
    ap (λ (x : Lent). row x p.judged p.published) a
    ∙ ap (λ (j : ℕ). row d.lent j p.published) c
    ∙ ap (row d.lent d.judged) e

pub judged_start : (lent : Lent) (input out : Bytes) (p : Progress) → JudgedUpTo lent input out p lent out p
unfolding after_messages rest_after waiting_after
judged_start lent input out p =
    let none : p.judged - p.judged ≡ 0 = omega arith in
    record { counted = omega arith; day = rw none; rest = rw none; waiting = rw none }

module _ {lent₀ : Lent} {input out₀ : Bytes} {p₀ : Progress} {lent lent' : Lent} {out : Bytes} {p r : Progress} (so_far : JudgedUpTo lent₀ input out₀ p₀ lent out p) (ensured : r ≡ progress_after p (step_at lent input p)) (left : lent' ≡ (step_at lent input p).after.lent) where
  moved : r.at ≡ p.at + (step_at lent input p).taken
  moved = ap (λ (x : Progress). x.at) ensured

  -- no message was whole
  pub none_left : r.at ≡ p.at → is_whole (drop r.at input) ≡ false
  none_left e = rw e (not_whole_left (day_of lent p) (drop p.at input) (omega (arith, moved, e)))

  module _ {out' : Bytes} (put : out' ≡ splice out p.used (step_at lent input p).line) (room : r.used ≤ length out) where
    fits : p.used + length (step_at lent input p).line ≤ length out
    fits = omega (arith, ap (λ (x : Progress). x.used) ensured, room)

    -- its line stands behind what waited
    added : part out' 0 r.used ≡ part out 0 p.used ++ (step_at lent input p).line
    added =
        ap (part out' 0) (ap (λ (x : Progress). x.used) ensured)
        ∙ ap (λ (x : Bytes). part x 0 (p.used + length (step_at lent input p).line)) put
        ∙ line_behind out (step_at lent input p).line p.used fits

    pub judged_none : r.at ≡ p.at → JudgedUpTo lent₀ input out₀ p₀ lent' out' r
    judged_none e =
        let none : step_at lent input p ≡ step_on (day_of lent p) (drop p.at input) Partial = step_none (day_of lent p) (drop p.at input) (omega (arith, moved, e)) in
        let same : (step_at lent input p).after ≡ day_of lent p = ap (λ (x : Step). x.after) none in
        let count : r.judged ≡ p.judged = ap (λ (x : Progress). x.judged) ensured ∙ ap (λ (x : Day). x.judged) same in
        let here : day_of lent' r ≡ day_of lent p = day_same _ lent' r left (ap (λ (x : Progress). x.judged) ensured) (ap (λ (x : Progress). x.published) ensured) ∙ same in
        let stays : part out' 0 r.used ≡ part out 0 p.used = added ∙ ap (λ (x : Step). part out 0 p.used ++ x.line) none ∙ append-nil _ in
        record {
          counted = omega (arith, count, so_far.counted);
          day = here ∙ so_far.day ∙ ap (λ (j : ℕ). after_messages (j - p₀.judged) (day_of lent₀ p₀) (drop p₀.at input)) (sym count);
          rest = rw (count, e) so_far.rest;
          waiting = stays ∙ so_far.waiting ∙ ap (λ (j : ℕ). waiting_after (j - p₀.judged) (day_of lent₀ p₀) (drop p₀.at input) (part out₀ 0 p₀.used)) (sym count);
        }

    -- written out where it is enough
    kept : (n : ℕ) → n ≡ choose (leb write_size r.used) 0 r.used → part out' 0 n ≡ waiting_with (part out 0 p.used) (step_at lent input p).line
    kept n e =
        let size : r.used ≡ length (part out 0 p.used ++ (step_at lent input p).line) =
        sym (length_part out' 0 r.used (omega (arith, room, ap length put, length_splice out (step_at lent input p).line p.used fits))) ∙ ap length added in
        ap (part out' 0) e
        ∙ part_chosen (leb write_size r.used) out' r.used
        ∙ ap (choose (leb write_size r.used) []) added
        ∙ ap (λ (j : ℕ). choose (leb write_size j) [] (part out 0 p.used ++ (step_at lent input p).line)) size

    pub judged_more : (w : Progress) (is_open : Bool) → p.at < r.at → w ≡ written (leb write_size r.used) is_open r → JudgedUpTo lent₀ input out₀ p₀ lent' out' w
    judged_more w is_open h e =
        let k : ℕ = p.judged - p₀.judged in
        let d : Day = day_of lent₀ p₀ in
        let xs : Bytes = drop p₀.at input in
        let s : Step = step_at lent input p in
        let s' : Step = step (after_messages k d xs) (rest_after k d xs) in
        let w₀ : Bytes = part out₀ 0 p₀.used in
        let one : s.after.judged ≡ p.judged + 1 = step_one (day_of lent p) (drop p.at input) (omega (arith, moved, h)) in
        let count : w.judged ≡ s.after.judged = ap (λ (x : Progress). x.judged) e ∙ ap (λ (x : Progress). x.judged) ensured in
        let place : w.judged - p₀.judged ≡ suc k = omega (arith, count, one, so_far.counted) in
        let same : s ≡ s' = ap (λ (x : Day). step x (drop p.at input)) so_far.day ∙ ap (step (after_messages k d xs)) so_far.rest in
        let here : day_of lent' w ≡ s.after = day_same s.after lent' w left count (ap (λ (x : Progress). x.published) e ∙ ap (λ (x : Progress). x.published) ensured) in
        let rest : drop w.at input ≡ drop s.taken (drop p.at input) = ap (λ (i : ℕ). drop i input) (ap (λ (x : Progress). x.at) e ∙ moved) ∙ sym (drop-drop s.taken p.at input) in
        let waits : part out' 0 w.used ≡ waiting_with (part out 0 p.used) s.line = kept w.used (ap (λ (x : Progress). x.used) e) in
        record {
          counted = omega (arith, count, one, so_far.counted);
          day = rw place (here ∙ ap (λ (x : Step). x.after) same ∙ sym (after_more k d xs));
          rest = rw place (rest ∙ ap (λ (x : Step). drop x.taken (drop p.at input)) same ∙ ap (drop s'.taken) so_far.rest ∙ sym (rest_more k d xs));
          waiting = rw place (waits ∙ ap (λ (x : Bytes). waiting_with x s.line) so_far.waiting ∙ ap (λ (x : Step). waiting_with (waiting_after k d xs w₀) x.line) same ∙ sym (waiting_more k d xs w₀));
        }
