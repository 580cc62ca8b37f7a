-- A finite number less itself is +0.0, and anything else less itself a NaN; sums of such differences. Assumes nothing.
use Rattle.std.proofs.Common.{ℕ, ◌*◌, ◌<◌, ◌≡◌, refl, sym, ◌∙◌, Bool, true, false, not, ◌&&◌, zero-mul, mul-pos, arith, pow_pos, Float, le-ltb}
use Rattle.std.proofs.Math.Nat.{sub_self}
use lib.Count.{count_trailing_zeros}
use Rattle.std.specs.Float.Ieee.{nan, inf, fin, binary64, up, down, add, sub, neg, sum, round, units, size, span, climb, eq, of_bits, of_fields, odd}
use lib.Ieee.Fits.{down_pos}
use lib.Ieee.Scale.{round_same}
use Rattle.float.specs.Arith.{◌⊕◌, ◌⊖◌, zero+, finite, mark}

-- nothing, rounded
round_none : (c : ℕ) → 0 < c → round binary64 false 0 c ≡ zero+
unfolding round units size span climb odd of_bits of_fields count_trailing_zeros
round_none c h = round_same binary64 false 0 c 0 1 h (pow_pos 0) (sym (zero-mul c)) ∙ refl

sum_none : (s : Bool) (a c : ℕ) → 0 < c → sum binary64 s a (not s) a c ≡ zero+
unfolding sum
sum_none true a c h = rw (le-ltb a a (omega arith), sub_self) (round_none c h)
sum_none false a c h = rw (le-ltb a a (omega arith), sub_self) (round_none c h)

pub less_itself : (x : Float) → x ⊖ x ≡ mark (finite x)
unfolding sub neg add mark finite
less_itself nan = refl
less_itself (inf true) = refl
less_itself (inf false) = refl
less_itself (fin s m e) = sum_none s (m * up e * down e) (down e * down e) (mul-pos (down_pos e) (down_pos e))

pub marks : (a b : Bool) → mark a ⊕ mark b ≡ mark (a && b)
unfolding mark add sum round units size span climb odd of_bits of_fields count_trailing_zeros
marks true true = refl
marks true false = refl
marks false true = refl
marks false false = refl

pub marked : (b : Bool) → eq (mark b) zero+ ≡ b
unfolding mark eq odd of_bits of_fields count_trailing_zeros
marked true = refl
marked false = refl

-- the test of one number
pub self_test : (x : Float) → eq (x ⊖ x) zero+ ≡ finite x
self_test x = rw less_itself (marked (finite x))
