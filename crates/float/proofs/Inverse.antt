-- Division by a power of two is multiplication by its inverse, for every number. Assumes nothing.
use Rattle.std.proofs.Common.{ℕ, suc, ◌*◌, ◌≡◌, refl, false, mul-pos, zero-lt-suc, mul_assoc, mul_comm, mul_left_comm, one-mul, ℤ, pos, negsuc, Float}
use Rattle.std.specs.Float.Ieee.{nan, inf, fin, binary64, up, down, unlike, div, mul}
use lib.Ieee.Fits.{down_pos}
use lib.Ieee.Scale.{round_same}
use Rattle.float.specs.Arith.{◌⊗◌, ◌⊘◌}

-- both are x / y / z as a fraction
cross : (x y z u : ℕ) → x * u * (z * y) ≡ x * (1 * u) * (1 * y * z)
cross x y z u = simp (one-mul, mul_assoc, mul_comm, mul_left_comm)

-- two exponents that are each other's inverse
module _ (e f : ℤ) (u : up e ≡ down f) (d : down e ≡ up f) where
  pub by_other : (x : Float) → x ⊘ fin false 1 e ≡ x ⊗ fin false 1 f
  unfolding div mul
  by_other nan = refl
  by_other (inf s) = refl
  by_other (fin s m k) =
      rw (u, d)
      (round_same binary64 (unlike s false) (m * up k * up f) (1 * down f * down k) (m * up k * (1 * up f)) (down k * down f)
      (mul-pos (mul-pos (zero-lt-suc 0) (down_pos f)) (down_pos k)) (mul-pos (down_pos k) (down_pos f)) (cross (m * up k) (down f) (down k) (up f)))

pub by_inverse : (x : Float) (k : ℕ) → x ⊘ fin false 1 (pos (suc k)) ≡ x ⊗ fin false 1 (negsuc k)
by_inverse x k = by_other (pos (suc k)) (negsuc k) refl refl x

pub by_one : (x : Float) → x ⊘ fin false 1 (pos 0) ≡ x ⊗ fin false 1 (pos 0)
by_one x = by_other (pos 0) (pos 0) refl refl x
