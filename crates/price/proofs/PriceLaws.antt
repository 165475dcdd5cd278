-- Laws of specs/Price.antt: a turn of each loop, what zero is, and that a price fits its field. Assumes nothing.
use Prim.Native.Nat.{ℕ, ◌+◌, ◌-◌, ◌<◌, ◌≤◌, suc}
use Prim.Native.Char.{code}
use mathlib.Core.Bool.{Bool, true, false}
use mathlib.Core.List.{[], ◌∷◌, ◌++◌, append_assoc, reverse, reverse-cons, reverse-append, reverse-reverse}
use mathlib.Core.Path.{◌≡◌, refl, sym, ap, ◌∙◌}
use native.Mathlib.Omega.{arith}
use borrow.Author.Tests.{eqb-true, ne_eqb}
use lib.ListN.{length, get_or, take, drop, length-append, length-reverse}
use lib.Seq.{take-suc, take-length}
use lib.Dec.{eqb}
use Rattle.octets.specs.Bytes.{Bytes}
use Rattle.octets.specs.Choice.{choose, both}
use Rattle.octets.specs.Search.{first_from}
use Rattle.octets.specs.Text.{text}
use Rattle.octets.specs.Same.{same_bytes}
use Rattle.octets.proofs.ChoiceLaws.{both_first}
use Rattle.octets.proofs.WriteLaws.{drop_next}
use Rattle.numbers.specs.Numbers.{price_digits, price_decimals, point_in, whole_of, decimals_of, has_minus, unsigned_of, is_price}
use Rattle.numbers.proofs.NumbersLaws.{whole_some, digits_most}
use Rattle.price.specs.Price.{drop_zeros, trim_zeros, empty, shown_whole, shown_decimals, shown_unsigned, is_zero, shows_minus, shown_sign, shown_price}
use Rattle.price.specs.Examples.{all_shown, PricesShown}
use Rattle.price.specs.Laws.{PriceFits, PriceLaws}

-- ---- a turn of the loop at i, and of the one that comes from the end

pub drop_turn : (w : Bytes) (i : ℕ) → i < length w → drop_zeros (drop i w) ≡ choose (eqb (get_or w i 0) (code "0")) (drop_zeros (drop (i + 1) w)) (drop i w)
unfolding drop_zeros
drop_turn w i h = rw (drop_next w i h)

trim_snoc : (xs : Bytes) (b : ℕ) → trim_zeros (xs ++ (b ∷ [])) ≡ choose (eqb b (code "0")) (trim_zeros xs) (xs ++ (b ∷ []))
unfolding trim_zeros drop_zeros
trim_snoc xs b = rw (reverse-append xs (b ∷ [])) (go (eqb b (code "0")))
  where
    go : (t : Bool) → reverse (choose t (drop_zeros (reverse xs)) (b ∷ reverse xs)) ≡ choose t (reverse (drop_zeros (reverse xs))) (xs ++ (b ∷ []))
    go true = refl
    go false = reverse-cons b (reverse xs) ∙ ap (λ (l : Bytes). l ++ (b ∷ [])) (reverse-reverse xs)

pub trim_turn : (d : Bytes) → 0 < length d → trim_zeros d ≡ choose (eqb (get_or d (length d - 1) 0) (code "0")) (trim_zeros (take (length d - 1) d)) d
trim_turn d p =
    let n = length d in
    let e : n ≡ suc (n - 1) = omega arith in
    let split : d ≡ take (n - 1) d ++ (get_or d (n - 1) 0 ∷ []) = sym (take-length d) ∙ ap (λ (k : ℕ). take k d) e ∙ take-suc d (n - 1) 0 (omega arith) in
    ap trim_zeros split ∙ trim_snoc (take (n - 1) d) (get_or d (n - 1) 0) ∙ ap (choose (eqb (get_or d (n - 1) 0) (code "0")) (trim_zeros (take (n - 1) d))) (sym split)

pub trim_none : (d : Bytes) → length d ≡ 0 → trim_zeros d ≡ d
unfolding trim_zeros drop_zeros
trim_none [] e = refl
trim_none (b ∷ d) e = absurd (omega arith)

-- ---- zero

-- what remains of the whole does not begin with a zero
first_left : (w : Bytes) → eqb (get_or (drop_zeros w) 0 0) (code "0") ≡ false
unfolding drop_zeros
first_left [] = refl
first_left (b ∷ bs) = go (eqb b (code "0")) refl (first_left bs)
  where
    go : (t : Bool) → eqb b (code "0") ≡ t → eqb (get_or (drop_zeros bs) 0 0) (code "0") ≡ false → eqb (get_or (choose t (drop_zeros bs) (b ∷ bs)) 0 0) (code "0") ≡ false
    go true e rest = rest
    go false e rest = e

pub empty_some : (xs : Bytes) → 0 < length xs → empty xs ≡ false
empty_some xs h = ne_eqb (length xs) 0 (λ e. omega arith)

shown_zero : (w d : Bytes) → eqb (get_or w 0 0) (code "0") ≡ false → same_bytes (choose (empty w) (text "0") w ++ choose (empty d) [] (text "." ++ d)) (text "0") ≡ both (empty w) (empty d)
unfolding same_bytes text
shown_zero [] [] e = refl
shown_zero [] (y ∷ ys) e = rw (empty_some (y ∷ ys) (omega arith))
shown_zero (x ∷ xs) d e = rw (empty_some (x ∷ xs) (omega arith), e)

-- zero is shown where only zeros stand before and after the point
pub zero_left : (v : Bytes) → is_zero v ≡ both (empty (drop_zeros (whole_of (unsigned_of v)))) (empty (trim_zeros (decimals_of (unsigned_of v))))
unfolding is_zero shown_unsigned shown_whole shown_decimals
zero_left v = shown_zero (drop_zeros (whole_of (unsigned_of v))) (trim_zeros (decimals_of (unsigned_of v))) (first_left (whole_of (unsigned_of v)))

-- ---- the pieces

first_of : (v : Bytes) → has_minus v ≡ true → take 1 v ≡ text "-"
unfolding text
first_of [] e = cc
first_of (b ∷ bs) e = ap (λ (k : ℕ). k ∷ []) (eqb-true b (code "-") e)

pub minus_first : (v : Bytes) → shows_minus v ≡ true → take 1 v ≡ text "-"
unfolding shows_minus
minus_first v e = first_of v (both_first (has_minus v) _ e)

pub shown_built : (v s u w d : Bytes) → s ≡ shown_sign v → u ≡ unsigned_of v → w ≡ whole_of u → d ≡ decimals_of u → (s ++ shown_whole w) ++ shown_decimals d ≡ shown_price v
unfolding shown_price shown_unsigned
shown_built v s u w d sign unsigned whole decimals = rw (whole, decimals, unsigned, sign) (append_assoc (shown_sign v) _ _)

-- ---- the size

drop_size : (w : Bytes) → length (drop_zeros w) ≤ length w
unfolding drop_zeros
drop_size [] = omega arith
drop_size (b ∷ bs) = go (eqb b (code "0")) (drop_size bs)
  where
    go : (t : Bool) → length (drop_zeros bs) ≤ length bs → length (choose t (drop_zeros bs) (b ∷ bs)) ≤ suc (length bs)
    go true h = omega arith
    go false h = omega arith

trim_size : (d : Bytes) → length (trim_zeros d) ≤ length d
unfolding trim_zeros
trim_size d = omega (arith, length-reverse (drop_zeros (reverse d)), drop_size (reverse d), length-reverse d)

whole_size : (w : Bytes) → 1 ≤ length w → length (shown_whole w) ≤ length w
unfolding shown_whole text
whole_size w h = go (empty (drop_zeros w))
  where
    go : (t : Bool) → length (choose t (text "0") (drop_zeros w)) ≤ length w
    go true = h
    go false = drop_size w

decimals_size : (d : Bytes) → length (shown_decimals d) ≤ suc (length d)
unfolding shown_decimals text
decimals_size d = go (empty (trim_zeros d))
  where
    go : (t : Bool) → length (choose t [] (text "." ++ trim_zeros d)) ≤ suc (length d)
    go true = omega arith
    go false = omega (arith, trim_size d)

sign_size : (v : Bytes) → length (shown_sign v) ≤ 1
unfolding shown_sign text
sign_size v = go (shows_minus v)
  where
    go : (t : Bool) → length (choose t (text "-") []) ≤ 1
    go true = omega arith
    go false = omega arith

-- a minus, 18 digits and a point
pub price_fits : PriceFits
unfolding is_price shown_price shown_unsigned
price_fits v e =
    let u : Bytes = unsigned_of v in
    let whole : length (shown_whole (whole_of u)) ≤ length (whole_of u) = whole_size (whole_of u) (whole_some price_digits price_decimals u e) in
    let digits : length (whole_of u) + length (decimals_of u) ≤ price_digits = digits_most price_digits price_decimals u e in
    simp length-append (omega (arith, sign_size v, decimals_size (decimals_of u)))

-- ---- the examples

pub prices_shown : PricesShown
unfolding text same_bytes first_from point_in whole_of decimals_of unsigned_of drop_zeros trim_zeros shown_whole shown_decimals shown_unsigned is_zero shows_minus shown_sign shown_price all_shown
prices_shown = refl

-- ---- what `write_price` cites

pub price_laws : PriceLaws
price_laws = record { examples = prices_shown; fits = price_fits }
