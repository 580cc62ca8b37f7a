-- What the augmented matrix is after a division, and its first term. Assumes nothing.
use Rattle.std.proofs.Common.{ℕ, ◌+◌, ◌-◌, ◌*◌, ◌/◌, ◌%◌, ◌<◌, ◌≤◌, ◌≡◌, refl, ap, ◌∙◌, Bool, true, false, cond, eqb, lt-ltb, le-ltb, arith, T, Float}
use Rattle.std.proofs.Math.Arith.{digits_lt}
use Rattle.std.proofs.Math.Decide.{dec_lt}
use lib.Count.{count_trailing_zeros}
use Rattle.std.specs.Float.Ieee.{binary64, fits, of_bits, of_fields, odd}
use Rattle.loops.specs.Loop.{grid, ◌!◌}
use Rattle.loops.proofs.Loops.{tab_at}
use Rattle.loops.proofs.Stores.{tab_ext}
use Rattle.loops.proofs.Places.{row_below, column_below}
use Rattle.float.specs.Arith.{◌⊘◌, zero+, one, finite}
use Rattle.matrix.proofs.Zeros.{Over, good_zero, zero_over}
use Rattle.blocks.specs.Blocks.{Blocks, whole, block_div, block_identity, one_diagonal, Shifts}
use Rattle.blocks.proofs.Whole.{entry, whole_place, Finite}

-- ---- divided
pub div_shifts : (n p : ℕ) (a : Blocks) (nu d : Float) → Over d → Shifts n p a nu → Shifts n p (block_div n p a d) (nu ⊘ d)
unfolding block_div one_diagonal
div_shifts n p a nu d o S = record {
  columns = λ k j h l m. tab_at (n * (n + p)) _ (k * (n + p) + j) (digits_lt h m) ∙ rw (S.columns k j h l m) (zero_over d o);
  lower = tab_ext p _ _ (λ e h. rw (S.lower, tab_at p _ e h) (over (eqb e 1)));
}
  where
    over : (b : Bool) → cond b nu zero+ ⊘ d ≡ cond b (nu ⊘ d) zero+
    over true = refl
    over false = zero_over d o

-- ---- the first term
bit_finite : (b : Bool) → finite (cond b one zero+) ≡ true
unfolding finite of_bits of_fields odd count_trailing_zeros
bit_finite true = refl
bit_finite false = refl

pub identity_finite : (n p : ℕ) → Finite n p (block_identity n p)
unfolding block_identity grid
identity_finite n p = record {
  uppers = λ q h. ap finite (tab_at (n * (n + p)) _ q h) ∙ bit_finite (eqb (q / (n + p)) (q % (n + p)));
  lowers = λ d h. ap finite (tab_at p _ d h) ∙ bit_finite (eqb d 0);
}

module _ (n p : ℕ) (a : Blocks) (U : (q : ℕ) → q < n * (n + p) → T (fits binary64 (a.upper ! q))) (L : (d : ℕ) → d < p → T (fits binary64 (a.lower ! d))) where
  entry_fits : (i j : ℕ) → i < n + p → j < n + p → T (fits binary64 (entry n p a i j))
  entry_fits i j h k = go (dec_lt i n) (dec_lt j i)
    where
      go : Dec (i < n) → Dec (j < i) → T (fits binary64 (entry n p a i j))
      go (yes l) d = rw (lt-ltb i n l) (U (i * (n + p) + j) (digits_lt l k))
      go (no l) (yes d) = let g : n ≤ i = omega arith in rw (le-ltb i n g, lt-ltb j i d) good_zero.0
      go (no l) (no d) = let g : n ≤ i = omega arith in let e : i ≤ j = omega arith in rw (le-ltb i n g, le-ltb j i e) (L (j - i) (omega arith))

  pub whole_fits : (q : ℕ) → q < (n + p) * (n + p) → T (fits binary64 (whole n p a ! q))
  whole_fits q h = rw (whole_place n p a q h) (entry_fits _ _ (row_below q (n + p) h) (column_below q (n + p) h))
