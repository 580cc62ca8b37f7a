-- The step of the mirrored runs that needs the absolute values: a row sum is equal to the bit in both runs, so that both are refused, divided and squared alike. Definitions only.
use Rattle.std.specs.Prelude.{ℕ, ◌*◌, ◌<◌, ◌≡◌, Bool, List, Float}
use Rattle.loops.specs.Loop.{◌!◌}
use Rattle.float.specs.Arith.{abs, sum_of}
use Rattle.matrix.specs.Matrix.{at, row_sum}
use Rattle.mirror.specs.Mirror.{entry_turned, Agrees}

-- row i of two matrices of size n, b being a with an entry flipped if just one of its row and column is turned: the row sum of a is the sum of b's absolute values
unfoldable pub SameRowSums : Type 0
SameRowSums =
    (n : ℕ) (turned : ℕ → Bool) (a b : List Float)
    → ((p : ℕ) → p < n * n → Agrees (entry_turned n turned p) (a ! p) (b ! p))
    → (i : ℕ) → i < n
    → row_sum a n i ≡ sum_of n (λ j. abs (at b n i j))
