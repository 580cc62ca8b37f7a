-- A double is known by its sign and its magnitude, so +0.0 added to one that has no minus sign leaves it as it is. Assumes nothing.
use Rattle.std.proofs.Common.{ℕ, zero, suc, ◌+◌, ◌-◌, ◌*◌, ◌/◌, ◌%◌, ◌^◌, ◌≤◌, ◌<◌, ◌≡◌, refl, sym, ap, ◌∙◌, Bool, true, false, cond, ◌&&◌, true≢false, mul-one, mul_assoc, mul_right_comm, zero-mul, add-zero, add-suc, add_comm, not-le_of_lt, arith, T, eqb, ltb, leb, eqb→eq, ltb→lt, leb→le, pow-add, shl_lt, ℤ, pos, negsuc, Float}
use Rattle.std.proofs.Math.Decide.{dec_lt}
use Rattle.std.proofs.Math.Pow.{pow-lt}
use lib.Count.{count_trailing_zeros}
use Rattle.std.specs.Float.Ieee.{nan, inf, fin, binary64, prec, emax, low, top, hid, up, down, size, span, climb, units, round, sum, add, fits, of_bits, of_fields, odd, to_bits}
use lib.Ieee.Bits.{of_bits-to_bits}
use lib.Ieee.Exact.{HasValue, round_exact}
use lib.Ieee.Fits.{down_pos, round-fits, add-fits, and_l, and_r}
use lib.Ieee.Nearest.{div_same}
use Rattle.float.specs.Arith.{◌⊕◌, zero+, abs, sum_of}
use Rattle.float.proofs.Floats.{zero_exponent}
use Rattle.float.proofs.Signed.{sgn}
use Rattle.float.proofs.Plus.{plus, round_plus}

-- ---- one value, one pattern
bits_of : (s : Bool) (m : ℕ) (e : ℤ) (n : ℕ) → m * up e * 2 ^ low binary64 / down e ≡ n
    → to_bits binary64 (fin s m e) ≡ cond s (top binary64) 0 + (size n - prec binary64) * hid binary64 + n / 2 ^ (size n - prec binary64)
unfolding to_bits
bits_of s m e n p = ap (λ (x : ℕ). cond s (top binary64) 0 + (size x - prec binary64) * hid binary64 + x / 2 ^ (size x - prec binary64)) p

same_units : (a b c d U : ℕ) → 0 < b → 0 < d → a * d ≡ c * b → a * U / b ≡ c * U / d
same_units a b c d U B D e = div_same (a * U) b (c * U) d B D (mul_right_comm a U d ∙ ap (λ (z : ℕ). z * U) e ∙ mul_right_comm c b U)

same_bits : (s : Bool) (m n : ℕ) (e d : ℤ) → m * up e * down d ≡ n * up d * down e → to_bits binary64 (fin s m e) ≡ to_bits binary64 (fin s n d)
same_bits s m n e d h =
    bits_of s m e (n * up d * 2 ^ low binary64 / down d) (same_units (m * up e) (down e) (n * up d) (down d) (2 ^ low binary64) (down_pos e) (down_pos d) h)
    ∙ sym (bits_of s n d (n * up d * 2 ^ low binary64 / down d) refl)

-- a double of the value of another, with its sign, is the other
same_value : (y : Float) (s : Bool) (m : ℕ) (e : ℤ) → T (fits binary64 y) → T (fits binary64 (fin s m e)) → HasValue y s (m * up e) (down e) → y ≡ fin s m e
same_value nan s m e g f v = absurd v
same_value (inf t) s m e g f v = absurd v
same_value (fin t n d) s m e g f v =
    sym (of_bits-to_bits binary64 (fin t n d) g)
    ∙ ap (λ (z : Bool). of_bits binary64 (to_bits binary64 (fin z n d))) v.0
    ∙ ap (of_bits binary64) (same_bits s n m d e v.1)
    ∙ of_bits-to_bits binary64 (fin s m e) f

-- ---- a double, rounded, is itself
pub below : (k l : ℕ) → 2 ^ k ≤ 2 ^ l → k ≤ l
below k l h = go (dec_lt l k)
  where
    go : Dec (l < k) → k ≤ l
    go (yes q) = absurd (not-le_of_lt (pow-lt q) h)
    go (no q) = omega arith

-- m * 2 ^ e in units of 2 ^ -l, as m times a power
exact : (l x m : ℕ) (e : ℤ) → down e ≤ 2 ^ l → m * up e < 2 ^ x * down e → (j : ℕ) × (m * 2 ^ j < 2 ^ (l + x)) × (m * up e * 2 ^ l ≡ m * 2 ^ j * down e)
exact l x m (pos k) d h = (
  k + l,
  rw (pow-add, ← mul_assoc, add_comm l x) (shl_lt x l (rw mul-one at h)),
  rw (pow-add, mul-one) (mul_assoc m (2 ^ k) (2 ^ l)),
)
exact l x m (negsuc k) d h =
    let e : l ≡ (l - suc k) + suc k = omega (arith, below (suc k) l d) in
    let p : 2 ^ l ≡ 2 ^ (l - suc k) * 2 ^ suc k = ap (λ (z : ℕ). 2 ^ z) e ∙ pow-add 2 (l - suc k) (suc k) in
    let r : l + x ≡ x + suc k + (l - suc k) = omega arith in (
      l - suc k,
      rw r (shl_lt (x + suc k) (l - suc k) (rw (mul-one, ← pow-add) at h)),
      rw (mul-one, p, mul_assoc),
    )

round-zero : (s : Bool) → round binary64 s 0 1 ≡ fin s 0 (pos 0)
unfolding round units size span climb odd
round-zero s = refl

pub round_back : (s : Bool) (m : ℕ) (e : ℤ) → T (fits binary64 (fin s m e)) → round binary64 s (m * up e) (down e) ≡ fin s m e
unfolding fits
round_back s zero e f = rw (zero_exponent e (eqb→eq (up e * down e) 1 f)) (round-zero s)
round_back s (suc m) e f =
    let A = eqb (suc m % 2) 1 in
    let B = ltb (suc m) (2 ^ prec binary64) in
    let C = leb (down e) (2 ^ low binary64) in
    let D = ltb (suc m * up e) (2 ^ suc (emax binary64) * down e) in
    let x = exact 1074 1024 (suc m) e (leb→le (down e) (2 ^ 1074) (and_r (A && B) C (and_l (A && B && C) D f))) (ltb→lt (suc m * up e) (2 ^ 1024 * down e) (and_r (A && B && C) D f)) in
    same_value (round binary64 s (suc m * up e) (down e)) s (suc m) e (round-fits binary64 s (suc m * up e) (down e)) f
    (round_exact binary64 s (suc m * up e) (down e) (suc m) x.0 (down_pos e) (ltb→lt (suc m) (2 ^ 53) (and_r A B (and_l (A && B) C (and_l (A && B && C) D f)))) x.1 x.2)

-- ---- no minus sign
pub abs_sign : (x : Float) → sgn (abs x) ≡ false
unfolding abs
abs_sign nan = refl
abs_sign (inf s) = refl
abs_sign (fin s m e) = refl

pub plus_sign : (x : Float) → T (plus x) → sgn x ≡ false
unfolding plus
plus_sign nan h = refl
plus_sign (inf true) h = absurd h
plus_sign (inf false) h = refl
plus_sign (fin true m e) h = absurd h
plus_sign (fin false m e) h = refl

pub add_sign : (x y : Float) → sgn x ≡ false → sgn y ≡ false → sgn (x ⊕ y) ≡ false
unfolding add sum
add_sign nan y h k = refl
add_sign (inf true) y h k = absurd (true≢false h)
add_sign (inf false) nan h k = refl
add_sign (inf false) (inf true) h k = absurd (true≢false k)
add_sign (inf false) (inf false) h k = refl
add_sign (inf false) (fin t n d) h k = refl
add_sign (fin true m e) y h k = absurd (true≢false h)
add_sign (fin false m e) nan h k = refl
add_sign (fin false m e) (inf t) h k = k
add_sign (fin false m e) (fin true n d) h k = absurd (true≢false k)
add_sign (fin false m e) (fin false n d) h k = plus_sign _ (round_plus (m * up e * down d + n * up d * down e) (down e * down d))

-- ---- +0.0 added
pub plus_nothing : (x : Float) → T (fits binary64 x) → sgn x ≡ false → x ⊕ zero+ ≡ x
unfolding add sum of_bits of_fields odd count_trailing_zeros
plus_nothing nan f h = refl
plus_nothing (inf s) f h = refl
plus_nothing (fin true m e) f h = absurd (true≢false h)
plus_nothing (fin false m e) f h = rw (mul-one, zero-mul, add-zero, mul-one) (round_back false m e f)

-- ---- sums of numbers with no minus sign
pub sum_sign : (n : ℕ) (f : ℕ → Float) → ((j : ℕ) → sgn (f j) ≡ false) → sgn (sum_of n f) ≡ false
unfolding sum_of of_bits of_fields odd
sum_sign zero f h = refl
sum_sign (suc zero) f h = h 0
sum_sign (suc (suc n)) f h = add_sign (sum_of (suc n) f) (f (suc n)) (sum_sign (suc n) f h) (h (suc n))

sum_fits : (n : ℕ) (f : ℕ → Float) → 2 ≤ n → T (fits binary64 (sum_of n f))
unfolding sum_of
sum_fits zero f h = absurd (omega arith)
sum_fits (suc zero) f h = absurd (omega arith)
sum_fits (suc (suc n)) f h = add-fits binary64 (sum_of (suc n) f) (f (suc n))

next_nothing : (n k : ℕ) (f : ℕ → Float) → f (n + k) ≡ zero+ → 2 ≤ n → sum_of (suc (n + k)) f ≡ sum_of (n + k) f ⊕ zero+
unfolding sum_of
next_nothing n k f e h = go (n + k) (omega arith) e
  where
    go : (m : ℕ) → 2 ≤ m → f m ≡ zero+ → sum_of (suc m) f ≡ sum_of m f ⊕ zero+
    go zero l e = absurd (omega arith)
    go (suc m) l e = rw e

-- +0.0 behind two items or more changes nothing
pub sum_rest : (n k : ℕ) (f : ℕ → Float) → 2 ≤ n → ((j : ℕ) → sgn (f j) ≡ false) → ((j : ℕ) → n ≤ j → f j ≡ zero+) → sum_of (n + k) f ≡ sum_of n f
sum_rest n zero f l h z = rw add-zero
sum_rest n (suc k) f l h z =
    rw (add-suc, next_nothing n k f (z (n + k) (omega arith)) l, plus_nothing (sum_of (n + k) f) (sum_fits (n + k) f (omega arith)) (sum_sign (n + k) f h)) (sum_rest n k f l h z)
