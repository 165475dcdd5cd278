-- Laws of specs/Amount.antt, for loops that read digits from the first. Assumes nothing.
use Prim.Native.Nat.{ℕ, zero, suc, ◌+◌, ◌*◌, ◌^◌, ◌<◌, ◌≤◌}
use Prim.Native.Char.{code}
use mathlib.Core.Path.{◌≡◌, refl, ap, ◌∙◌}
use mathlib.Core.List.{[], ◌∷◌, ◌++◌}
use native.Mathlib.Nat.{pow-suc}
use native.Mathlib.Numerals.{add-one}
use native.Mathlib.Omega.{arith}
use lib.Arith.{digits_lt}
use lib.ListN.{length, get_or, take, replicate}
use lib.Seq.{take-suc}
use Rattle.octets.specs.Bytes.{Bytes}
use Rattle.notional.specs.Amount.{digit, spelled}

spelled_snoc : (n : ℕ) (v : Bytes) (b : ℕ) → spelled n (v ++ (b ∷ [])) ≡ spelled n v * 10 + digit b
unfolding spelled
spelled_snoc n [] b = refl
spelled_snoc n (x ∷ v) b = spelled_snoc (n * 10 + digit x) v b

-- one digit more
pub spelled_more : (v : Bytes) (k : ℕ) → k < length v → spelled 0 (take (k + 1) v) ≡ spelled 0 (take k v) * 10 + digit (get_or v k 0)
spelled_more v k h = ap (spelled 0) (rw (add-one k) (take-suc v k 0 h)) ∙ spelled_snoc 0 (take k v) (get_or v k 0)

-- k digits fit k places
pub digits_fit : (k n d : ℕ) → n < 10 ^ k → d ≤ 9 → n * 10 + d < 10 ^ (k + 1)
digits_fit k n d h l = rw (add-one k, pow-suc) (digits_lt {c = 10} h (omega arith))

-- past the end a value counts as if zeros were sent
pub digit_padded : (v : Bytes) (n k : ℕ) → digit (get_or (v ++ replicate n (code "0")) k 0) ≡ digit (get_or v k 0)
unfolding digit
digit_padded [] zero k = refl
digit_padded [] (suc n) zero = refl
digit_padded [] (suc n) (suc k) = digit_padded [] n k
digit_padded (b ∷ v) n zero = refl
digit_padded (b ∷ v) n (suc k) = digit_padded v n k
