-- A small whole number is a double. Assumes nothing.
use Rattle.std.proofs.Common.{ℕ, ◌^◌, ◌≤◌, sym, subst, arith, T, pos, le-leb}
use Rattle.std.specs.Float.Ieee.{in_float, binary64}

pub float_small : (n : ℕ) → n ≤ 16 → T (in_float binary64 (pos n))
unfolding in_float
float_small n h = subst T (sym (le-leb n (2 ^ 53) (omega arith))) tt
