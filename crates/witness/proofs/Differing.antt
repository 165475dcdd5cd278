-- The two histories differ. Assumes nothing.
use Prim.Native.Nat.{ℕ}
use mathlib.Core.Bool.{true, not}
use mathlib.Core.Path.{◌≡◌, refl}
use lib.ListN.{length}
use lib.Dec.{eqb}
use borrow.Author.Tests.{eqb-false, not-true}
use Rattle.octets.specs.Bytes.{Bytes}
use Rattle.octets.specs.Search.{all}
use Rattle.octets.specs.Same.{same_bytes}
use Rattle.octets.proofs.SameLaws.{same_apart}
use Rattle.witness.specs.Histories.{left, left_ledger, right, right_ledger}
use Rattle.witness.specs.Differences.{hidden_codes, full_places, hidden, quote, exact, buffer_size, Differ}
use Rattle.witness.proofs.AlikeTest.{at_place}
use Rattle.witness.proofs.Computing.{computing}

-- bytes that the test tells apart are not equal
bytes_differ : (u v : Bytes) → not (same_bytes u v) ≡ true → u ≡ v → ⊥
bytes_differ u v e = same_apart u v (not-true (same_bytes u v) e)

numbers_apart : (a b : ℕ) → not (eqb a b) ≡ true → a ≡ b → ⊥
numbers_apart a b e = eqb-false a b (not-true (eqb a b) e)

elements_tested : all (λ i. all (λ k. not (same_bytes (hidden left i k) (hidden right i k))) (length hidden_codes)) (length full_places) ≡ true
unfolding computing
elements_tested = refl

quotes_tested : all (λ i. not (same_bytes (quote left i) (quote right i))) (length full_places) ≡ true
unfolding computing
quotes_tested = refl

amounts_tested : all (λ i. not (eqb (exact left i) (exact right i))) (length full_places) ≡ true
unfolding computing
amounts_tested = refl

buffers_tested : all (λ i. not (eqb (buffer_size left i) (buffer_size right i))) (length left) ≡ true
unfolding computing
buffers_tested = refl

pub histories_differ : Differ
histories_differ =
    record {
      elements = λ i k h l. bytes_differ _ _ (at_place _ (length hidden_codes) k l (at_place _ (length full_places) i h elements_tested));
      quotes = λ i h. bytes_differ _ _ (at_place _ (length full_places) i h quotes_tested);
      amounts = λ i h. numbers_apart _ _ (at_place _ (length full_places) i h amounts_tested);
      buffers = λ i h. numbers_apart _ _ (at_place _ (length left) i h buffers_tested);
      ledgers = numbers_apart (length left_ledger) (length right_ledger) refl;
    }
