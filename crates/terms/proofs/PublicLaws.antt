-- The masked terms depend on the public elements and on the masked amount alone. Assumes nothing.
use Prim.Native.Nat.{ℕ}
use mathlib.Core.Bool.{true}
use mathlib.Core.Path.{◌≡◌, refl, ap, ap₂}
use mathlib.Core.List.{[]}
use Rattle.octets.specs.Bytes.{Bytes}
use Rattle.octets.specs.Choice.{choose}
use Rattle.message.specs.Values.{value, is_there}
use Rattle.elements.specs.Codes.{execution_timestamp, effective_date, expiration_date, cleared, non_standardized_term, block_election, large_notional_election, package_indicator, package_price, price_notation, price_currency, notional_amount, notional_currency, settlement_location, asset_class, package_spread, spread_notation, spread_currency}
use Rattle.elements.specs.Conditions.{is_package, value_is, is_quoted, quote_of, facts_of, met, kept}
use Rattle.elements.specs.Table.{element_of}
use Rattle.terms.specs.Terms.{terms_of}
use Rattle.terms.specs.Public.{is_public_term, Agree, TermsPublic}
use Rattle.terms.specs.Laws.{TermsLaws}
use Rattle.terms.proofs.TermLaws.{notional_fits}

module _ (m₁ m₂ : Bytes) (same : Agree m₁ m₂) where
  -- the conditions are about public elements
  facts_same : facts_of m₁ ≡ facts_of m₂
  unfolding facts_of quote_of is_quoted is_package is_there value_is element_of is_public_term
  facts_same =
      rw (
        same cleared refl,
        same package_indicator refl,
        same package_price refl,
        same price_notation refl,
        same package_spread refl,
        same spread_notation refl,
      )

  kept_same : (code : ℕ) → is_public_term code ≡ true → kept code m₁ ≡ kept code m₂
  unfolding kept
  kept_same code e = ap₂ (λ f (v : Bytes). choose (met (element_of code).shown f) v []) facts_same (same code e)

-- the notional amount has no condition
amount_kept : (m : Bytes) → kept notional_amount m ≡ value notional_amount m
unfolding kept element_of
amount_kept m = refl

pub terms_public : TermsPublic
unfolding terms_of element_of is_public_term
terms_public cap₁ cap₂ m₁ m₂ same masked =
    let k = kept_same m₁ m₂ same in
    rw (
      amount_kept m₁,
      amount_kept m₂,
      ap (λ p. p.0) masked,
      ap (λ p. p.1) masked,
      k execution_timestamp refl,
      k effective_date refl,
      k expiration_date refl,
      k cleared refl,
      k non_standardized_term refl,
      k block_election refl,
      k large_notional_election refl,
      k package_indicator refl,
      k package_price refl,
      k price_notation refl,
      k price_currency refl,
      k notional_currency refl,
      k settlement_location refl,
      k asset_class refl,
      k package_spread refl,
      k spread_notation refl,
      k spread_currency refl,
    )

-- what `write_terms` cites
pub terms_laws : TermsLaws
terms_laws = record { public = terms_public; fits = notional_fits }
