-- Products by blocks of rows and columns: what stands in a block, and what a block leaves of the rest. Definitions only.
use Rattle.std.specs.Prelude.{ℕ, ◌+◌, cond, ◌&&◌, Bool, not, nat_lt, List, Float}
use Rattle.loops.specs.Loop.{iter, grid}
use Rattle.float.specs.Arith.{◌⊕◌, ◌⊗◌, zero+}
use Rattle.matrix.specs.Matrix.{at}

-- the first k products of l and r, summed from +0.0
unfoldable pub dot : ℕ → (ℕ → Float) → (ℕ → Float) → Float
dot k l r = iter k (λ m x. x ⊕ l m ⊗ r m) zero+

-- the sum of k products of row i of left and column j of right, whose rows have d and w places
abbrev pub entry : ℕ → List Float → ℕ → List Float → ℕ → ℕ → ℕ → Float
entry k left d right w i j = dot k (at left d i) (λ m. at right w m j)

-- whether a is one of the n numbers from i on
abbrev pub within : ℕ → ℕ → ℕ → Bool
within i n a = not (nat_lt a i) && nat_lt a (i + n)

-- a matrix of so many rows and places to a row, with f in r rows from i on and in c columns from j on
unfoldable pub framed : ℕ → ℕ → ℕ → ℕ → ℕ → ℕ → (ℕ → ℕ → Float) → List Float → List Float
framed rows width i r j c f out = grid rows width (λ a b. cond (within i r a && within j c b) (f a b) (at out width a b))
