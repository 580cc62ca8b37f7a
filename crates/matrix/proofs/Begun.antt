-- The first term of the series is the matrix itself. Assumes nothing.
use Rattle.std.proofs.Common.{ℕ, ◌*◌, ◌≡◌, sym, ◌∙◌, T, Bool, true, List, length}
use Rattle.std.specs.Float.Ieee.{binary64, fits, le}
use Rattle.loops.specs.Loop.{◌!◌}
use Rattle.std.proofs.Common.{Float}
use Rattle.float.specs.Arith.{one, two}
use Rattle.matrix.specs.Matrix.{identity, add_all, max_abs, next_term}
use Rattle.matrix.specs.Calls.{positive, Begun, Turned, Calm}
use Rattle.matrix.proofs.Series.{left_all, left_low}
use Rattle.matrix.proofs.FirstTerm.{first_term}

-- the first term is a, with +0.0 for -0.0, and is added to the identity
module _ (a o : List Float) (n : ℕ) (calm : Calm a n) (l : length a ≡ n * n) (fit : (p : ℕ) → T (fits binary64 (a ! p))) (u : o ≡ identity n) where
  first_is : positive a ≡ next_term (identity n) a n 1
  unfolding positive
  first_is = rw l (sym (first_term n a calm.numbers (λ p _. fit p)))

  pub begun : (y z : List Float) (r : Bool) → Begun a o y z r → Turned a (identity n) (identity n) 1 n y z r
  begun y z r b = record { term = b.term ∙ first_is; added = rw u at b.added; last = b.last }

  pub begun_low : le (max_abs one (add_all o (positive a))) two ≡ true
  begun_low = rw (u, first_is) (left_low calm (left_all a n))
