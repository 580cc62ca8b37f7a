-- `root` of what a pattern reads as: by the pattern, as `sqrt` asks it. Assumes nothing.
use Rattle.std.proofs.Common.{◌≡◌, refl, sym, ap, ◌∙◌, subst, ℕ, zero, suc, ◌+◌, ◌-◌, ◌*◌, ◌/◌, ◌%◌, ◌^◌, ◌≤◌, ◌<◌, mul-one, mul-pos, arith, Bool, true, false, not, cond, T, leb, ltb, eqb, le→leb, ltb→lt, nltb→le, pow_pos, Float}
use Rattle.std.specs.Float.Ieee.{nan, inf, fin, binary64, odd, of_fields, of_bits, to_bits, is_nan, fits, ne}
use lib.Ieee.Bits.{is_true, of_bits-to_bits, to_bits-lt, nan_bits_is, nan_bits_above}
use lib.Ieee.Exact.{odd_sign}
use Rattle.float.specs.Root.{root, nearest_root}
use Rattle.float.specs.Digits.{squares_of}
use Rattle.float.proofs.Steps.{low_is, high_is}
use Rattle.float.proofs.Bits.{of_bits_is, reads_low, reads_high}
use Rattle.float.proofs.Midway.{root-positive, root_negative}

-- ---- a NaN
root-nan : root binary64 nan ≡ nan
unfolding root
root-nan = refl

pub root_of_nan : (x : Float) → is_nan x ≡ true → x ≡ root binary64 x
unfolding is_nan
root_of_nan nan h = sym root-nan
root_of_nan (inf s) h = cc
root_of_nan (fin s m e) h = cc

pub no_nan : (x : Float) → ne x x ≡ false → T (not (is_nan x))
unfolding ne is_nan
no_nan nan h = absurd (subst T h tt)
no_nan (inf s) h = tt
no_nan (fin s m e) h = tt

pub nan_bits-nan : of_bits binary64 0x7ff8_0000_0000_0000 ≡ nan
unfolding of_bits of_fields
nan_bits-nan = refl

-- ---- above zero and finite
pub root_of_bits : (b : ℕ) → 0 < b → b < 0x7ff0_0000_0000_0000 → root binary64 (of_bits binary64 b) ≡ nearest_root binary64 (squares_of b)
root_of_bits b p h = go (ltb b (2 ^ 52)) (ltb→lt b (2 ^ 52)) (nltb→le b (2 ^ 52))
  where
    go : (t : Bool) → (T t → b < 2 ^ 52) → (T (not t) → 2 ^ 52 ≤ b) → root binary64 (of_bits binary64 b) ≡ nearest_root binary64 (squares_of b)
    go true y o =
        ap (root binary64) (reads_low b (y tt))
        ∙ root-positive binary64 (odd 53 false b 0 1074) (b * 2 ^ 0) (odd_sign 53 false b 0 1074) (subst (λ (x : ℕ). 0 < x) (sym (mul-one b)) p)
        ∙ ap (nearest_root binary64) (ap (λ (x : ℕ). x * 2 ^ 1074) (mul-one b) ∙ sym (low_is b (y tt)))
    go false y o =
        let q = b % 2 ^ 52 + 2 ^ 52 in
        let k = b / 2 ^ 52 - 1 in
        ap (root binary64) (reads_high b (o tt) h)
        ∙ root-positive binary64 (odd 53 false q k 1074) (q * 2 ^ k) (odd_sign 53 false q k 1074) (mul-pos (omega arith) (pow_pos k))
        ∙ ap (nearest_root binary64) (sym (high_is b (o tt)))

-- ---- below zero
root-inf : (t : Bool) → root binary64 (cond t (inf true) nan) ≡ nan
unfolding root
root-inf true = refl
root-inf false = refl

fields-minus : (x t : ℕ) → (x ≡ 0 → 0 < t) → root binary64 (of_fields binary64 true x t) ≡ nan
unfolding of_fields
fields-minus zero t h = root_negative binary64 (odd 53 true t 0 1074) (t * 2 ^ 0) (odd_sign 53 true t 0 1074) (subst (λ (x : ℕ). 0 < x) (sym (mul-one t)) (h refl))
fields-minus (suc x) t h = go (eqb (suc x) 2047)
  where
    go : (u : Bool) → root binary64 (cond u (cond (eqb t 0) (inf true) nan) (odd 53 true (2 ^ 52 + t) x 1074)) ≡ nan
    go true = root-inf (eqb t 0)
    go false = root_negative binary64 (odd 53 true (2 ^ 52 + t) x 1074) ((2 ^ 52 + t) * 2 ^ x) (odd_sign 53 true (2 ^ 52 + t) x 1074) (mul-pos (omega arith) (pow_pos x))

minus_bits : (b : ℕ) → 2 ^ 63 < b → b < 2 ^ 64 → root binary64 (of_bits binary64 b) ≡ nan
minus_bits b h k =
    ap (root binary64) (of_bits_is b ∙ ap (λ (s : Bool). of_fields binary64 s (b % 2 ^ 63 / 2 ^ 52) (b % 2 ^ 52)) (is_true (leb (2 ^ 63) b) (le→leb (2 ^ 63) b (omega arith))))
    ∙ fields-minus (b % 2 ^ 63 / 2 ^ 52) (b % 2 ^ 52) (λ e. some b h k e)
  where
    some : (b : ℕ) → 2 ^ 63 < b → b < 2 ^ 64 → b % 2 ^ 63 / 2 ^ 52 ≡ 0 → 0 < b % 2 ^ 52
    some b h k e = omega arith

-- ---- the zeros and the infinity
zero_bits : root binary64 (of_bits binary64 0) ≡ of_bits binary64 0
unfolding root of_bits of_fields odd
zero_bits = refl

minus-zero_bits : root binary64 (of_bits binary64 0x8000_0000_0000_0000) ≡ of_bits binary64 0x8000_0000_0000_0000
unfolding root of_bits of_fields odd
minus-zero_bits = refl

inf_bits : root binary64 (of_bits binary64 0x7ff0_0000_0000_0000) ≡ of_bits binary64 0x7ff0_0000_0000_0000
unfolding root of_bits of_fields
inf_bits = refl

-- ---- by x's pattern
module _ (x : Float) (f : T (fits binary64 x)) where
  reads : of_bits binary64 (to_bits binary64 x) ≡ x
  reads = of_bits-to_bits binary64 x f

  pub root-minus : 2 ^ 63 < to_bits binary64 x → nan ≡ root binary64 x
  root-minus h = sym (ap (root binary64) (sym reads) ∙ minus_bits (to_bits binary64 x) h (to_bits-lt binary64 x f))

  as_bits : (b : ℕ) → to_bits binary64 x ≡ b → root binary64 (of_bits binary64 b) ≡ of_bits binary64 b → x ≡ root binary64 x
  as_bits b e h = subst (λ (y : Float). y ≡ root binary64 y) (ap (of_bits binary64) (sym e) ∙ reads) (sym h)

  pub root_flat : to_bits binary64 x ≤ 2 ^ 63 → to_bits binary64 x % 2 ^ 63 ≡ 0 → x ≡ root binary64 x
  root_flat h e = go (ltb (to_bits binary64 x) (2 ^ 63)) (ltb→lt (to_bits binary64 x) (2 ^ 63)) (nltb→le (to_bits binary64 x) (2 ^ 63))
    where
      none : (b : ℕ) → b < 2 ^ 63 → b % 2 ^ 63 ≡ 0 → b ≡ 0
      none b h e = omega arith

      sign : (b : ℕ) → b ≤ 2 ^ 63 → 2 ^ 63 ≤ b → b ≡ 0x8000_0000_0000_0000
      sign b h k = omega arith

      go : (t : Bool) → (T t → to_bits binary64 x < 2 ^ 63) → (T (not t) → 2 ^ 63 ≤ to_bits binary64 x) → x ≡ root binary64 x
      go true y o = as_bits 0 (none (to_bits binary64 x) (y tt) e) zero_bits
      go false y o = as_bits 0x8000_0000_0000_0000 (sign (to_bits binary64 x) h (o tt)) minus-zero_bits

  pub root_infinite : to_bits binary64 x ≡ 0x7ff0_0000_0000_0000 → x ≡ root binary64 x
  root_infinite e = as_bits 0x7ff0_0000_0000_0000 e inf_bits

  at_most : T (not (is_nan x)) → to_bits binary64 x % 2 ^ 63 ≤ 0x7ff0_0000_0000_0000
  at_most n =
      nltb→le 0x7ff0_0000_0000_0000 (to_bits binary64 x % 2 ^ 63)
      (subst (λ (t : Bool). T (not t)) (ap is_nan (sym reads) ∙ sym (nan_bits_is binary64 (to_bits binary64 x)) ∙ nan_bits_above binary64 (to_bits binary64 x)) n)

  pub in_range : T (not (is_nan x)) → to_bits binary64 x ≤ 2 ^ 63 → (to_bits binary64 x % 2 ^ 63 ≡ 0 → ⊥) → (to_bits binary64 x ≡ 0x7ff0_0000_0000_0000 → ⊥)
      → (0 < to_bits binary64 x) × (to_bits binary64 x < 0x7ff0_0000_0000_0000)
  in_range n h z i = within (to_bits binary64 x) (at_most n) h z i
    where
      within : (b : ℕ) → b % 2 ^ 63 ≤ 0x7ff0_0000_0000_0000 → b ≤ 2 ^ 63 → (b % 2 ^ 63 ≡ 0 → ⊥) → (b ≡ 0x7ff0_0000_0000_0000 → ⊥) → (0 < b) × (b < 0x7ff0_0000_0000_0000)
      within b m h z i = (omega arith, omega arith)

  pub root_plus : 0 < to_bits binary64 x → to_bits binary64 x < 0x7ff0_0000_0000_0000 → nearest_root binary64 (squares_of (to_bits binary64 x)) ≡ root binary64 x
  root_plus p h = sym (root_of_bits (to_bits binary64 x) p h) ∙ ap (root binary64) reads
