-- `repository::conclude::collect_terms` meets its contract: stored terms have the length of terms. Assumes nothing.
use Rattle.std.proofs.Common.{length, sym, ap, ◌∙◌}
use Rattle.ledger.proofs.RowLaws.{length_row}
use Rattle.submission.proofs.Lookup.{length_stored}
use Rattle.repository.proofs.conclude.collect_terms.Goals as goal

pub copy_from_slice-requires : goal.copy_from_slice-requires
copy_from_slice-requires c =
    c.told-dst ∙ sym (ap length c.terms_at.ensures ∙ length_stored _ (length_row _ _ c.requires.0))
