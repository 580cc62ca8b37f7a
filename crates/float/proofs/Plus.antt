-- What is no NaN, and has no minus sign, through one operation, a sum and a root. Assumes nothing.
use Rattle.std.proofs.Common.{ℕ, zero, suc, ◌+◌, ◌-◌, ◌*◌, ◌/◌, ◌%◌, ◌^◌, ◌≤◌, ◌<◌, ◌≡◌, refl, sym, ap, ◌∙◌, subst, Bool, true, false, not, cond, ◌&&◌, true≢false, lt_of_lt_of_le, le_trans, le_of_eq, mul-pos, mul-one, mul_comm, mul-le-mul_right, mul-le-mul, zero-lt-suc, one-mul, arith, T, eqb, ltb, leb, leb→le, lit≤, pow_pos, shl_lt, ne_eqb, ℤ, pos, Float}
use Prim.Native.Nat.{compare}
use Rattle.std.specs.Float.Ieee.{nan, inf, fin, binary64, prec, emax, low, up, down, unlike, size, nearest, odd, units, round, sum, add, mul, div, of_int, is_nan, fits, lt, of_bits, of_fields}
use lib.Ieee.Fits.{down_pos, up_pos, and_l, and_r}
use lib.Ieee.Exact.{HasValue, round_exact}
use lib.Ieee.Order.{round_mono}
use lib.Ieee.Positive.{positive, positive_of_value, above, above_of_le}
use Rattle.float.specs.Arith.{◌⊕◌, ◌⊗◌, ◌⊘◌, zero+, finite, abs, larger, powi2, sum_of}
use Rattle.float.specs.Root.{root, sqrt, nearest_root}
use Rattle.float.proofs.Signs.{unlike_self}

-- no NaN, and no minus sign
unfoldable pub plus : Float → Bool
plus nan = false
plus (inf s) = not s
plus (fin s m e) = not s

-- ---- roundings
-- a rounded number is no NaN
odd_any : (d : ℕ) (t : Bool) (q k l : ℕ) → is_nan (odd d t q k l) ≡ false
unfolding odd is_nan
odd_any d t zero k l = refl
odd_any d t (suc q) k l = refl

units_any : (t : Bool) (q k : ℕ) → is_nan (units binary64 t q k) ≡ false
unfolding units is_nan
units_any t q k = go (ltb (q * 2 ^ k) (2 ^ (low binary64 + suc (emax binary64))))
  where
    go : (b : Bool) → is_nan (cond b (odd (suc (prec binary64)) t q k (low binary64)) (inf t)) ≡ false
    go true = odd_any (suc (prec binary64)) t q k (low binary64)
    go false = refl

pub round_number : (t : Bool) (a c : ℕ) → is_nan (round binary64 t a c) ≡ false
unfolding round
round_number t a c =
    let n = a * 2 ^ low binary64 in
    let k = size (n / c) - prec binary64 in
    let u = c * 2 ^ k in
    units_any t (nearest (n / u) (compare (n % u * 2) u)) k

-- with a plus sign
odd_plus : (d q k l : ℕ) → T (plus (odd d false q k l))
unfolding odd plus
odd_plus d zero k l = tt
odd_plus d (suc q) k l = tt

units_plus : (q k : ℕ) → T (plus (units binary64 false q k))
unfolding units
units_plus q k = go (ltb (q * 2 ^ k) (2 ^ (low binary64 + suc (emax binary64))))
  where
    go : (b : Bool) → T (plus (cond b (odd (suc (prec binary64)) false q k (low binary64)) (inf false)))
    go true = odd_plus (suc (prec binary64)) q k (low binary64)
    go false = unfold plus in tt

pub round_plus : (a c : ℕ) → T (plus (round binary64 false a c))
unfolding round
round_plus a c =
    let n = a * 2 ^ low binary64 in
    let k = size (n / c) - prec binary64 in
    let u = c * 2 ^ k in
    units_plus (nearest (n / u) (compare (n % u * 2) u)) k

-- ---- what each operation keeps
pub square_plus : (x : Float) → is_nan x ≡ false → T (plus (powi2 x))
unfolding mul is_nan plus
square_plus nan h = absurd (subst T h tt)
square_plus (inf s) h = rw unlike_self tt
square_plus (fin s m e) h = rw unlike_self (round_plus (m * up e * (m * up e)) (down e * down e))

add_plus : (x y : Float) → T (plus x) → T (plus y) → T (plus (x ⊕ y))
unfolding add sum plus
add_plus nan y h k = absurd h
add_plus (inf true) y h k = absurd h
add_plus (inf false) nan h k = absurd k
add_plus (inf false) (inf true) h k = absurd k
add_plus (inf false) (inf false) h k = tt
add_plus (inf false) (fin t n d) h k = tt
add_plus (fin true m e) y h k = absurd h
add_plus (fin false m e) nan h k = absurd k
add_plus (fin false m e) (inf true) h k = absurd k
add_plus (fin false m e) (inf false) h k = tt
add_plus (fin false m e) (fin true n d) h k = absurd k
add_plus (fin false m e) (fin false n d) h k = round_plus (m * up e * down d + n * up d * down e) (down e * down d)

-- divided by a whole number above zero
div_plus : (x : Float) (n : ℕ) (d : ℤ) → T (plus x) → T (plus (x ⊘ fin false (suc n) d))
unfolding div plus
div_plus nan n d h = absurd h
div_plus (inf true) n d h = absurd h
div_plus (inf false) n d h = tt
div_plus (fin true m e) n d h = absurd h
div_plus (fin false m e) n d h = rw (ne_eqb (suc n) 0 (λ h. omega (arith, h))) (round_plus (m * up e * down d) (suc n * up d * down e))

-- a whole number as a double
whole-value : (n : ℕ) → n ≤ 16 → HasValue (of_int binary64 (pos n)) false n 1
unfolding of_int
whole-value n h = round_exact binary64 false n 1 n (low binary64) (zero-lt-suc 0) (omega arith) (lt_of_lt_of_le (shl_lt 53 1074 (omega arith)) (lit≤ tt)) (sym (mul-one (n * 2 ^ low binary64)))

by_value : (x y : Float) (n : ℕ) → 1 ≤ n → HasValue y false n 1 → T (plus x) → T (plus (x ⊘ y))
by_value x nan n h v p = absurd v
by_value x (inf s) n h v p = absurd v
by_value x (fin true m e) n h v p = absurd (true≢false v.0)
by_value x (fin false zero e) n h v p = absurd (none n (up e) (down e) h (down_pos e) v.1)
  where
    none : (n u d : ℕ) → 1 ≤ n → 0 < d → 0 * u * 1 ≡ n * d → ⊥
    none n u d h k w = let l : 1 * 1 ≤ n * d = mul-le-mul h k in omega arith
by_value x (fin false (suc m) e) n h v p = div_plus x m e p

pub whole-div : (x : Float) (n : ℕ) → 1 ≤ n → n ≤ 16 → T (plus x) → T (plus (x ⊘ of_int binary64 (pos n)))
whole-div x n h k p = by_value x (of_int binary64 (pos n)) n h (whole-value n k) p

zero_plus : T (plus zero+)
unfolding plus of_bits of_fields odd
zero_plus = tt

pub sum_plus : (n : ℕ) (f : ℕ → Float) → ((i : ℕ) → i < n → T (plus (f i))) → T (plus (sum_of n f))
unfolding sum_of
sum_plus zero f h = zero_plus
sum_plus (suc zero) f h = h 0 (omega arith)
sum_plus (suc (suc k)) f h = add_plus (sum_of (suc k) f) (f (suc k)) (sum_plus (suc k) f (λ i l. h i (omega arith))) (h (suc k) (omega arith))

pub root-number : (x : Float) → T (plus x) → is_nan (sqrt x) ≡ false
unfolding root plus nearest_root is_nan
root-number nan h = absurd h
root-number (inf true) h = absurd h
root-number (inf false) h = refl
root-number (fin true zero e) h = refl
root-number (fin true (suc m) e) h = absurd h
root-number (fin false zero e) h = refl
root-number (fin false (suc m) e) h = odd_any _ _ _ _ _

-- ---- the tolerance of an entry is above zero
-- a product of two that are finite and have no minus sign
mul_plus : (m n : ℕ) (e d : ℤ) → T (plus (fin false m e ⊗ fin false n d))
unfolding mul
mul_plus m n e d = round_plus (m * up e * (n * up d)) (down e * down d)

-- the smallest double
smallest : Float
smallest = round binary64 false 1 (2 ^ 1074)

smallest_positive : T (positive smallest)
unfolding smallest
smallest_positive =
    positive_of_value (round binary64 false 1 (2 ^ 1074)) 1 (2 ^ 1074)
    (round_exact binary64 false 1 (2 ^ 1074) 1 0 (pow_pos 1074) (lit≤ tt) (lit≤ tt) (mul_comm 1 (2 ^ 1074) ∙ refl)) (zero-lt-suc 0)

least_units : (m u d c U B : ℕ) → 1 ≤ m → 1 ≤ u → d ≤ U → 1 * (d * c) ≤ (m * u * c + B) * U
least_units m u d c U B a b h =
    let k : d * c ≤ U * c = mul-le-mul_right c h in
    let l : 1 * 1 ≤ m * u = mul-le-mul a b in
    let w : 1 * c * U ≤ m * u * c * U = mul-le-mul_right U (mul-le-mul_right c (le_trans (le_of_eq refl) l)) in
    let x : 1 * c * U ≡ U * c = ap (λ (z : ℕ). z * U) (one-mul c) ∙ mul_comm c U in
    let y : m * u * c * U ≤ (m * u * c + B) * U = mul-le-mul_right U (wide (m * u * c) B) in
    omega arith
  where
    wide : (a b : ℕ) → a ≤ a + b
    wide a b = omega arith

fits_down : (m : ℕ) (e : ℤ) → T (fits binary64 (fin false (suc m) e)) → down e ≤ 2 ^ 1074
unfolding fits
fits_down m e f =
    let a = eqb (suc m % 2) 1 in
    let b = ltb (suc m) (2 ^ prec binary64) in
    let c = leb (down e) (2 ^ low binary64) in
    let d = ltb (suc m * up e) (2 ^ suc (emax binary64) * down e) in
    leb→le (down e) (2 ^ 1074) (and_r (a && b) c (and_l (a && b && c) d f))

pub positive_sum : (x y : Float) → T (fits binary64 x) → T (positive x) → T (plus y) → T (above (x ⊕ y))
unfolding add sum plus
positive_sum nan y f p h = absurd p
positive_sum (inf s) y f p h = absurd p
positive_sum (fin true m e) y f p h = absurd p
positive_sum (fin false zero e) y f p h = absurd p
positive_sum (fin false (suc m) e) nan f p h = absurd h
positive_sum (fin false (suc m) e) (inf true) f p h = absurd h
positive_sum (fin false (suc m) e) (inf false) f p h = tt
positive_sum (fin false (suc m) e) (fin true n d) f p h = absurd h
positive_sum (fin false (suc m) e) (fin false n d) f p h =
    let A = suc m * up e * down d in
    let B = n * up d * down e in
    above_of_le smallest (round binary64 false (A + B) (down e * down d)) smallest_positive
    (unfold smallest in round_mono binary64 1 (2 ^ 1074) (A + B) (down e * down d) (pow_pos 1074) (mul-pos (down_pos e) (down_pos d))
    (least_units (suc m) (up e) (down e) (down d) (2 ^ 1074) B (omega arith) (up_pos e) (fits_down m e f)))

-- a finite number divided by one above zero
pub div-number : (x y : Float) → finite x ≡ true → T (above y) → is_nan (x ⊘ y) ≡ false
unfolding div finite is_nan
div-number nan y h k = absurd (subst T (sym h) tt)
div-number (inf s) y h k = absurd (subst T (sym h) tt)
div-number (fin s m e) nan h k = absurd k
div-number (fin s m e) (inf t) h k = refl
div-number (fin s m e) (fin true n d) h k = absurd k
div-number (fin s m e) (fin false zero d) h k = absurd k
div-number (fin s m e) (fin false (suc n) d) h k = rw (ne_eqb (suc n) 0 (λ h. omega (arith, h))) (round_number (unlike s false) (m * up e * down d) (suc n * up d * down e))

-- ---- the larger of two, absolute values and products
pub larger_plus : (x y : Float) → T (plus x) → T (plus y) → T (plus (larger x y))
unfolding larger
larger_plus x y h k = go (is_nan x) (lt x y)
  where
    go : (a b : Bool) → T (plus (cond a y (cond b y x)))
    go true b = k
    go false true = k
    go false false = h

pub larger-finite : (x y : Float) → finite x ≡ true → finite y ≡ true → finite (larger x y) ≡ true
unfolding larger
larger-finite x y h k = go (is_nan x) (lt x y)
  where
    go : (a b : Bool) → finite (cond a y (cond b y x)) ≡ true
    go true b = k
    go false true = k
    go false false = h

pub abs_both : (x : Float) → finite x ≡ true → T (plus (abs x)) × (finite (abs x) ≡ true)
unfolding finite abs plus
abs_both nan h = absurd (subst T (sym h) tt)
abs_both (inf s) h = absurd (subst T (sym h) tt)
abs_both (fin s m e) h = (tt, refl)

pub product_plus : (x y : Float) → T (positive x) → T (plus y) → finite y ≡ true → T (plus (x ⊗ y))
unfolding plus finite
product_plus nan y p h k = absurd p
product_plus (inf s) y p h k = absurd p
product_plus (fin true m e) y p h k = absurd p
product_plus (fin false m e) nan p h k = absurd h
product_plus (fin false m e) (inf t) p h k = absurd (subst T (sym k) tt)
product_plus (fin false m e) (fin true n d) p h k = absurd h
product_plus (fin false m e) (fin false n d) p h k = mul_plus m n e d
