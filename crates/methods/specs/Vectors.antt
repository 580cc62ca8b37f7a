-- The vector helpers of methods.rs. A vector has 16 places, +0.0 past n. Definitions only.
use Rattle.std.specs.Prelude.{◌≡◌, ℕ, ◌*◌, ◌≤◌, List, [], ◌∷◌, length, Float}
use Rattle.loops.specs.Loop.{◌!◌}
use Rattle.float.specs.Arith.{◌⊕◌, ◌⊖◌, ◌⊗◌}
use Rattle.matrix.specs.Vector.{zeros, vec}

-- n is a dimension in use, and a holds a matrix of it
pub record Sized (n : ℕ) (a : List Float) : Type 0 where
  pub some : 1 ≤ n
  pub small : n ≤ 16
  pub square : length a ≡ n * n

unfoldable pub add : ℕ → List Float → List Float → List Float
add n left right = vec n (λ i. left ! i ⊕ right ! i)

unfoldable pub subtract : ℕ → List Float → List Float → List Float
subtract n left right = vec n (λ i. left ! i ⊖ right ! i)

unfoldable pub scale : ℕ → List Float → Float → List Float
scale n vector factor = vec n (λ i. factor ⊗ vector ! i)

-- what axpy leaves in its output
unfoldable pub axpy : ℕ → List Float → Float → List Float → List Float
axpy n output factor input = vec n (λ i. output ! i ⊕ factor ⊗ input ! i)

-- axpy of each term in turn
unfoldable pub axpy_all : ℕ → List Float → List (Float × List Float) → List Float
axpy_all n output [] = output
axpy_all n output ((coefficient, value) ∷ terms) = axpy_all n (axpy n output coefficient value) terms

-- the same from +0.0
unfoldable pub combine : ℕ → List (Float × List Float) → List Float
combine n terms = axpy_all n zeros terms
