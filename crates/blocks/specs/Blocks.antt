-- A matrix of size n + p whose first n rows are any and whose lower left is +0.0; the block below right is upper triangular with one number to a diagonal. Definitions only.
use Rattle.std.specs.Prelude.{◌≡◌, ◌<◌, ℕ, zero, suc, ◌+◌, ◌-◌, ◌*◌, cond, ◌&&◌, List, eqb, nat_lt, pos, Float, Bool}
use Rattle.std.specs.Float.{binary64}
use Rattle.std.specs.Float.Ieee.{le, of_int}
use Rattle.loops.specs.Loop.{iter, every, tab, grid, mat, ◌!◌}
use Rattle.float.specs.Arith.{◌⊕◌, ◌⊗◌, ◌⊘◌, zero+, one, epsilon, finite, abs, most}
use Rattle.matrix.specs.Matrix.{at}

-- the first n rows, n + p places each, row by row; and p numbers: number d stands d places right of the lower block's diagonal
pub record Blocks : Type 0 where
  pub upper : List Float
  pub lower : List Float

-- the whole matrix, of size n + p
unfoldable pub whole : ℕ → ℕ → Blocks → List Float
whole n p x = mat (n + p) (λ i j. cond (nat_lt i n) (at x.upper (n + p) i j) (cond (nat_lt j i) zero+ (x.lower ! (j - i))))

-- every entry of both lists is finite
unfoldable pub finite_blocks : ℕ → ℕ → Blocks → Bool
finite_blocks n p x = every (n * (n + p)) (λ q. finite (x.upper ! q)) && every p (λ d. finite (x.lower ! d))

-- ---- the operations

-- diagonal d of a product of two lower blocks
unfoldable pub along : List Float → List Float → ℕ → Float
along g h d = iter (suc d) (λ k z. z ⊕ g ! k ⊗ h ! (d - k)) zero+

-- an entry in the first n rows of a product: the first n products, and then those with the lower block up to column j
unfoldable pub upper_entry : ℕ → ℕ → Blocks → Blocks → ℕ → ℕ → Float
upper_entry n p x y i j =
    let w = n + p in
    iter (suc j - n) (λ k z. z ⊕ at x.upper w i (n + k) ⊗ y.lower ! (j - n - k)) (iter n (λ k z. z ⊕ at x.upper w i k ⊗ at y.upper w k j) zero+)

-- the product
unfoldable pub block_mul : ℕ → ℕ → Blocks → Blocks → Blocks
block_mul n p x y = record { upper = grid n (n + p) (upper_entry n p x y); lower = tab p (along x.lower y.lower) }

-- every entry divided by d
unfoldable pub block_div : ℕ → ℕ → Blocks → Float → Blocks
block_div n p x d = record { upper = tab (n * (n + p)) (λ q. x.upper ! q ⊘ d); lower = tab p (λ e. x.lower ! e ⊘ d) }

-- y added entry by entry
unfoldable pub block_add : ℕ → ℕ → Blocks → Blocks → Blocks
block_add n p x y = record { upper = tab (n * (n + p)) (λ q. x.upper ! q ⊕ y.upper ! q); lower = tab p (λ d. x.lower ! d ⊕ y.lower ! d) }

-- the largest of z and the magnitudes
unfoldable pub block_most : ℕ → ℕ → Float → Blocks → Float
block_most n p z x = most p (λ d. abs (x.lower ! d)) (most (n * (n + p)) (λ q. abs (x.upper ! q)) z)

-- the term is small enough for the series to stop
unfoldable pub block_small : ℕ → ℕ → Blocks → Blocks → Bool
block_small n p term sum = le (block_most n p zero+ term) (epsilon ⊗ block_most n p one sum)

-- the identity
unfoldable pub block_identity : ℕ → ℕ → Blocks
block_identity n p = record { upper = grid n (n + p) (λ i j. cond (eqb i j) one zero+); lower = tab p (λ d. cond (eqb d 0) one zero+) }

-- x squared s times
unfoldable pub block_squared : ℕ → ℕ → ℕ → Blocks → Blocks
block_squared s n p x = iter s (λ _ y. block_mul n p y y) x

-- ---- the terms of the series

-- the k-th term: the last one times the matrix, then divided by k
unfoldable pub block_next : ℕ → ℕ → Blocks → Blocks → ℕ → Blocks
block_next n p t a k = block_div n p (block_mul n p t a) (of_int binary64 (pos k))

-- the k-th term from the identity on
unfoldable pub block_term : ℕ → ℕ → Blocks → ℕ → Blocks
block_term n p a zero = block_identity n p
block_term n p a (suc k) = block_next n p (block_term n p a k) a (suc k)

-- ---- the augmented matrix

-- nu right of the diagonal, and +0.0 elsewhere
unfoldable pub one_diagonal : ℕ → Float → List Float
one_diagonal p nu = tab p (λ d. cond (eqb d 1) nu zero+)

-- the matrix that a term is multiplied by: +0.0 in the columns past n, and nu right of the lower diagonal
pub record Shifts (n p : ℕ) (a : Blocks) (nu : Float) : Type 0 where
  pub columns : (k j : ℕ) → k < n → n < j → j < n + p → at a.upper (n + p) k j ≡ zero+
  pub lower : a.lower ≡ one_diagonal p nu
