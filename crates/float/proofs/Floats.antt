-- What the tests and branches of the float helpers say. Assumes nothing.
use Rattle.std.proofs.Common.{ℕ, zero, suc, ◌*◌, ◌<◌, ◌≡◌, refl, sym, ap, ◌∙◌, Bool, true, false, not, ◌&&◌, ◌||◌, arith, Float, eqb-true, ne_eqb}
use Rattle.std.proofs.Math.Bool.{beq, false≢true}
use Rattle.std.proofs.Math.Nat.{mul-pos, zero-mul, pow-suc}
use Rattle.std.proofs.Math.Dec.{T, eqb}
use Rattle.std.proofs.Math.Pow.{pow_pos}
use lib.Ieee.Fits.{up_pos}
use Rattle.std.proofs.Math.IntN.{ℤ, pos, negsuc}
use lib.Count.{count_trailing_zeros}
use Rattle.std.specs.Float.Ieee.{nan, inf, fin, binary64, lt, eq, div, is_nan, fits, of_bits, of_fields, odd, up, down, level, to_bits, size, span, climb}
use Rattle.loops.proofs.Bools.{both_true}
use Rattle.float.specs.Arith.{◌⊘◌, zero+, one, finite, abs, larger, plus_zero}
use Rattle.std.specs.Float.{float_is_finite, float_with_sign}

not_level : (m : ℕ) (e : ℤ) → eqb (suc m * up e * 1) (0 * down e) ≡ false
not_level m e = ne_eqb (suc m * up e * 1) (0 * down e) (λ h. omega (arith, h, mul-pos {m = suc m} {n = up e} (omega arith) (up_pos e)))

no_level : (s : Bool) (m : ℕ) (e : ℤ) → level s (suc m * up e * 1) false (0 * down e) ≡ true → ⊥
no_level s m e h =
    let a = suc m * up e * 1 in
    let z : a ≡ 0 * down e = eqb-true a (0 * down e) (both_true (eqb a (0 * down e)) (beq s false || eqb a 0) h).0 in
    let l : 0 < suc m * up e = mul-pos {m = suc m} {n = up e} (omega arith) (up_pos e) in
    omega arith

is_plus : (x : Float) → (eq x zero+ && lt zero+ (one ⊘ x)) ≡ plus_zero x
unfolding lt eq div plus_zero of_bits of_fields odd count_trailing_zeros
is_plus nan = refl
is_plus (inf true) = refl
is_plus (inf false) = refl
is_plus (fin true zero e) = simp zero-mul
is_plus (fin false zero e) = simp zero-mul
is_plus (fin true (suc m) e) = rw (not_level m e)
is_plus (fin false (suc m) e) = rw (not_level m e, ne_eqb (suc m) 0 (λ h. omega (arith, h)))

-- std's word for the finite test says what ours says
pub finite_is : (x : Float) → float_is_finite x ≡ finite x
unfolding float_is_finite finite
finite_is nan = refl
finite_is (inf s) = refl
finite_is (fin s m e) = refl

pub zero_exponent : (e : ℤ) → up e * down e ≡ 1 → e ≡ pos 0
zero_exponent (pos zero) h = refl
zero_exponent (pos (suc k)) h = absurd (omega (arith, pow-suc 2 k, pow_pos k))
zero_exponent (negsuc k) h = absurd (omega (arith, pow-suc 2 k, pow_pos k))

-- a number without its sign
pub without_sign : (x : Float) → float_with_sign false x ≡ abs x
unfolding abs float_with_sign
without_sign nan = refl
without_sign (inf s) = refl
without_sign (fin s m e) = refl

pub abs-zero : (x : Float) → fits binary64 x ≡ true → eq x zero+ ≡ true → zero+ ≡ abs x
unfolding abs eq fits of_bits of_fields odd count_trailing_zeros
abs-zero nan f h = absurd (false≢true h)
abs-zero (inf s) f h = absurd (false≢true h)
abs-zero (fin s zero e) f h = ap (fin false zero) (sym (zero_exponent e (eqb-true _ _ f)))
abs-zero (fin s (suc m) e) f h = absurd (no_level s m e h)

-- a zero, by its pattern
pub zero_number : (x : Float) → eq x zero+ ≡ true → T (not (is_nan x))
unfolding eq is_nan of_bits of_fields odd
zero_number nan h = absurd (false≢true h)
zero_number (inf s) h = tt
zero_number (fin s m e) h = tt

plus_pattern : eqb (to_bits binary64 (fin false 0 (pos 0))) 0 ≡ true
unfolding to_bits size span climb
plus_pattern = refl

minus_pattern : eqb (to_bits binary64 (fin true 0 (pos 0))) 0 ≡ false
unfolding to_bits size span climb
minus_pattern = refl

pub zero_pattern : (x : Float) → fits binary64 x ≡ true → eq x zero+ ≡ true → eqb (to_bits binary64 x) 0 ≡ plus_zero x
unfolding eq fits plus_zero of_bits of_fields odd count_trailing_zeros
zero_pattern nan f h = absurd (false≢true h)
zero_pattern (inf s) f h = absurd (false≢true h)
zero_pattern (fin true zero e) f h = ap (λ z. eqb (to_bits binary64 (fin true 0 z)) 0) (zero_exponent e (eqb-true _ _ f)) ∙ minus_pattern
zero_pattern (fin false zero e) f h = ap (λ z. eqb (to_bits binary64 (fin false 0 z)) 0) (zero_exponent e (eqb-true _ _ f)) ∙ plus_pattern
zero_pattern (fin s (suc m) e) f h = absurd (no_level s m e h)

pub no_zero : (x : Float) → eq x zero+ ≡ false → false ≡ plus_zero x
no_zero x h = rw h at (is_plus x)

-- the larger of two, of which the first is a NaN
pub larger-nan : (x y : Float) → is_nan x ≡ true → y ≡ larger x y
unfolding larger
larger-nan x y h = rw h

-- the larger of a number and anything
pub number-second : (x y : Float) → is_nan x ≡ false → lt x y ≡ true → y ≡ larger x y
unfolding larger
number-second x y h k = rw (h, k)

pub number-first : (x y : Float) → is_nan x ≡ false → lt x y ≡ false → x ≡ larger x y
unfolding larger
number-first x y h k = rw (h, k)
