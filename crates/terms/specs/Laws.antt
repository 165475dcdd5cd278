-- Specification, section 7: what holds of all masked terms. `write_terms` cites it.
use Rattle.std.specs.Prelude.{ℕ, ◌^◌, ◌<◌, ◌≤◌}
use Rattle.notional.specs.Masking.{shown, largest_cap}
use Rattle.terms.specs.Terms.{notional_size}
use Rattle.terms.specs.Public.{TermsPublic}

-- sixteen digits suffice for what a cap shows
abbrev pub NotionalFits : Type 0
NotionalFits = (cap a : ℕ) → cap ≤ largest_cap → shown cap a < 10 ^ notional_size

pub record TermsLaws : Type 0 where
  pub public : TermsPublic
  pub fits : NotionalFits
