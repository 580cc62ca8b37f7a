-- The actions of exponentials on a vector. Definitions only.
use Rattle.std.specs.Prelude.{ℕ, ◌+◌, ◌-◌, cond, Option, is_some, List, [], ◌∷◌, ◌==◌, nat_lt, Float}
use Rattle.loops.specs.Loop.{mat, ◌!◌}
use Rattle.float.specs.Arith.{◌⊗◌, zero+, one}
use Rattle.matrix.specs.Matrix.{at, exponential, reach}
use Rattle.matrix.specs.Vector.{zeros, vec, mat_vec}
use Rattle.matrix.specs.declared.Reach.{Reach}
use Rattle.methods.specs.Vectors.{scale, axpy}
use Rattle.methods.specs.Tally.{Tried, clean, single, joined}

-- the vector of one exponential, with how far it went; +0.0 where it is not admitted
unfoldable pub checked : Option Reach → List Float → Tried
checked r x = record { tally = single r; v = cond (is_some r) x zeros }

-- f of the vector, with the same report
unfoldable pub over : (List Float → List Float) → Tried → Tried
over f p = record { tally = p.tally; v = f p.v }

-- sum plus factor times k, with the reports of both
unfoldable pub more : ℕ → Tried → Float → Tried → Tried
more n sum factor k = record { tally = joined sum.tally k.tally; v = axpy n sum.v factor k.v }

-- the same of each term in turn
unfoldable pub more_all : ℕ → Tried → List (Float × Tried) → Tried
more_all n sum [] = sum
more_all n sum ((coefficient, k) ∷ terms) = more_all n (more n sum coefficient k) terms

-- +0.0, of no exponential
unfoldable pub nothing : Tried
nothing = record { tally = clean; v = zeros }

-- combine of terms that exponentials were worked out for
unfoldable pub combine_all : ℕ → List (Float × Tried) → Tried
combine_all n terms = more_all n nothing terms

-- the entry in row i and column j of the augmented matrix: scale_a times a, then the input column, and ones above the diagonal behind it
unfoldable pub augmented_entry : ℕ → List Float → Float → List Float → ℕ → ℕ → Float
augmented_entry n a scaleA input i j =
    cond (nat_lt i n)
    (cond (nat_lt j n) (scaleA ⊗ at a n i j) (cond (j == n) (input ! i) zero+))
    (cond (j == i + 1) one zero+)

-- the augmented matrix, of size n + order
unfoldable pub augmented : ℕ → List Float → Float → ℕ → List Float → List Float
augmented n a scaleA order input = mat (n + order) (augmented_entry n a scaleA input)

-- phi_action: the first n entries of the last column of its exponential
unfoldable pub phi_action : ℕ → List Float → Float → ℕ → List Float → Tried
phi_action n a scaleA order input =
    let size = n + order in
    let m = augmented n a scaleA order input in
    checked (reach m size) (vec n (λ i. at (exponential m size).entries size i (size - 1)))

-- phi_term: coefficient times the phi action
unfoldable pub phi_term : ℕ → List Float → Float → ℕ → Float → List Float → Tried
phi_term n a scaleA order coefficient input = over (λ v. scale n v coefficient) (phi_action n a scaleA order input)

-- exp_action: the exponential of scale_a times a, times the input
unfoldable pub exp_action : ℕ → List Float → Float → List Float → Tried
exp_action n a scaleA input =
    let m = mat n (λ i j. scaleA ⊗ at a n i j) in
    checked (reach m n) (mat_vec n (exponential m n).entries input)
