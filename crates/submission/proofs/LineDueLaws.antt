-- Whether a line is due, in words and by the kinds of actions. Assumes nothing.
use mathlib.Core.Bool.{Bool, true, false, not, false≢true}
use mathlib.Core.Path.{◌≡◌, refl, sym, ap, ◌∙◌}
use Rattle.octets.specs.Bytes.{Bytes}
use Rattle.octets.proofs.ChoiceLaws.{not_not}
use Rattle.octets.proofs.SameLaws.{same_true, same_refl}
use Rattle.actions.specs.declared.Action.{Action}
use Rattle.actions.specs.declared.Action.TheVariants.{Newt, Modi, Corr, Term, Eror, Revi, Prto}
use Rattle.actions.specs.Actions.{is_full, is_new, needs_change}
use Rattle.actions.proofs.KindLaws.{is_newt, is_modi}
use Rattle.ledger.specs.Header.{caps_in}
use Rattle.ledger.specs.Rows.{stored_terms, swap_row}
use Rattle.submission.specs.Submission.{swap_of, masked_terms, terms_for, line_due, line_due_in}
use Rattle.submission.specs.Demand2.{LineDueExactly}

pub line_due_exactly : LineDueExactly
unfolding line_due_in line_due terms_for
line_due_exactly a l m =
    record {
      porting = λ e. rw e;
      modification = λ e. rw e (λ z. same_true _ _ (not_not _ z), λ z. rw z (ap not (same_refl (stored_terms (swap_row l (swap_of m))))));
      others = other a;
    }
  where
    other : (a : Action) → (a ≡ Prto → ⊥) → (a ≡ Modi → ⊥) → line_due_in a l m ≡ true
    other Newt p q = refl
    other Modi p q = absurd (q refl)
    other Corr p q = refl
    other Term p q = refl
    other Eror p q = refl
    other Revi p q = refl
    other Prto p q = absurd (p refl)

-- NEWT has a line, whatever is stored
pub due_same : (a : Action) (terms stored stored' : Bytes) → (is_new a ≡ false → stored ≡ stored') → line_due a terms stored ≡ line_due a terms stored'
unfolding line_due
due_same a terms stored stored' same = by (is_new a) refl
  where
    by : (b : Bool) → is_new a ≡ b → line_due a terms stored ≡ line_due a terms stored'
    by true e = rw (is_newt a e)
    by false e = rw (same e)

module _ (a : Action) (l m : Bytes) where
  -- NEWT is another action than PRTO and MODI
  pub new_due : is_new a ≡ true → line_due_in a l m ≡ true
  new_due e = (line_due_exactly a l m).others (λ z. false≢true (sym (ap is_new z) ∙ e)) (λ z. false≢true (sym (ap is_new z) ∙ e))

  pub old_unless_due : line_due_in a l m ≡ false → is_new a ≡ false
  old_unless_due e = by (is_new a) refl
    where
      by : (b : Bool) → is_new a ≡ b → is_new a ≡ false
      by true n = absurd (false≢true (sym e ∙ new_due n))
      by false n = n

  -- a full message without a line is a MODI, and has the stored terms
  pub same_terms : is_full a ≡ true → line_due_in a l m ≡ false → masked_terms (caps_in l) m ≡ stored_terms (swap_row l (swap_of m))
  same_terms full e = by (needs_change a) refl
    where
      by : (b : Bool) → needs_change a ≡ b → masked_terms (caps_in l) m ≡ stored_terms (swap_row l (swap_of m))
      by true n = ((line_due_exactly a l m).modification (is_modi a n)).0 e
      by false n = absurd (false≢true (sym e ∙ (line_due_exactly a l m).others (λ z. false≢true (sym (ap is_full z) ∙ full)) (λ z. false≢true (sym n ∙ ap needs_change z))))
