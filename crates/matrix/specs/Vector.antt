-- A vector: 16 places, of which the first n are in use and the others are +0.0. Definitions only.
use Rattle.std.specs.Prelude.{ℕ, List, Float, replicate}
use Rattle.loops.specs.Loop.{fill, ◌!◌}
use Rattle.float.specs.Arith.{◌⊗◌, zero+, sum_of}
use Rattle.matrix.specs.Matrix.{at}

-- 16 places of +0.0
unfoldable pub zeros : List Float
zeros = replicate 16 zero+

-- the vector f 0, .., f (n - 1)
unfoldable pub vec : ℕ → (ℕ → Float) → List Float
vec n f = fill n f zeros

-- mat_vec: each entry is a row's products, summed from the first
unfoldable pub mat_vec : ℕ → List Float → List Float → List Float
mat_vec n m v = vec n (λ i. sum_of n (λ j. at m n i j ⊗ v ! j))
