-- engine.rs: the differenced Jacobian, the error norm and the first step. Definitions only.
use Rattle.std.specs.Prelude.{ℕ, ◌+◌, ◌*◌, Bool, cond, ◌&&◌, List, pos, eqb, Float}
use Rattle.std.specs.Float.{binary64}
use Rattle.std.specs.Float.Ieee.{lt, eq, of_int, of_bits}
use Rattle.loops.specs.Loop.{every, ◌!◌}
use Rattle.float.specs.Arith.{◌⊕◌, ◌⊖◌, ◌⊗◌, ◌⊘◌, zero+, one, epsilon, root-epsilon, finite, abs, larger, powi2, sum_of, most}
use Rattle.float.specs.Root.{sqrt}
use Rattle.evaluation.specs.Evaluation.{all_finite}
use Rattle.evaluation.specs.Sizes.{places}
use Rattle.matrix.specs.Vector.{vec}

-- ---- compute_jacobian: column by column, answer j belongs to column j

-- by how much a component u is moved: 2 ^ -26 · (1 + |u|)
unfoldable pub delta : Float → Float
delta u = root-epsilon ⊗ (one ⊕ abs u)

-- component i of the state that column j is asked at
unfoldable pub perturbed_entry : Float → ℕ → ℕ → Float
perturbed_entry u i j = cond (eqb i j) (u ⊕ delta u) u

-- that state: component j is moved, and no other
unfoldable pub perturbed : ℕ → List Float → ℕ → List Float
perturbed n state j = vec n (λ i. perturbed_entry (state ! i) i j)

-- the entry in row i and column j: the difference divided by delta, not by the step that rounding left
unfoldable pub jacobian_entry : List Float → List Float → List Float → ℕ → ℕ → Float
jacobian_entry state f0 answers i j = (answers ! (places * j + i) ⊖ f0 ! i) ⊘ delta (state ! j)

-- column j was asked at a finite state, and its entries are finite
unfoldable pub column_ok : ℕ → List Float → List Float → List Float → ℕ → Bool
column_ok n state f0 answers j = all_finite (perturbed n state j) && every n (λ i. finite (jacobian_entry state f0 answers i j))

-- ---- scaled_error_norm

-- error entry i over its tolerance
unfoldable pub ratio : Float → Float → List Float → List Float → List Float → ℕ → Float
ratio relative absolute state candidate error i =
    error ! i ⊘ (absolute ⊕ relative ⊗ larger (abs (state ! i)) (abs (candidate ! i)))

-- the root of the mean of the squares of n ratios
unfoldable pub root_mean : ℕ → (ℕ → Float) → Float
root_mean n ratios = sqrt (sum_of n (λ i. powi2 (ratios i)) ⊘ of_int binary64 (pos n))

-- the Rust's, with one absolute tolerance: the measure where all n are equal (specs/Claims.antt)
unfoldable pub scaled_error_norm : ℕ → Float → Float → List Float → List Float → List Float → Float
scaled_error_norm n relative absolute state candidate error = root_mean n (ratio relative absolute state candidate error)

-- the error norm: the same with each component's own
unfoldable pub error_norm : ℕ → Float → List Float → List Float → List Float → List Float → Float
error_norm n relative absolute state candidate error = root_mean n (λ i. ratio relative (absolute ! i) state candidate error i)

-- ---- estimate_initial_step

-- 0.001 and 0.01
abbrev pub thousandth : Float
thousandth = of_bits binary64 0x3f50_624d_d2f1_a9fc

abbrev pub hundredth : Float
hundredth = of_bits binary64 0x3f84_7ae1_47ae_147b

-- derivative entry i over its tolerance
unfoldable pub rate : Float → Float → List Float → List Float → ℕ → Float
rate relative absolute state derivative i = abs (derivative ! i ⊘ (absolute ⊕ relative ⊗ abs (state ! i)))

-- 0.001 if the scale is 0, otherwise 0.01 / scale
unfoldable pub estimate : Float → Float
estimate scale = cond (eq scale zero+) thousandth (hundredth ⊘ scale)

-- x held between 2 ^ -52 and the largest step
unfoldable pub clamp : Float → Float → Float
clamp x largest = let y = cond (lt x epsilon) epsilon x in cond (lt largest y) largest y

-- the first step that n rates suggest: the scale is the largest of them
unfoldable pub by_rates : ℕ → (ℕ → Float) → Float → Float
by_rates n rates largest = clamp (estimate (most n rates zero+)) largest

-- the Rust's, with one absolute tolerance: the measure where all n are equal (specs/Claims.antt)
unfoldable pub estimate_initial_step : ℕ → Float → Float → List Float → List Float → Float → Float
estimate_initial_step n relative absolute state derivative largest = by_rates n (rate relative absolute state derivative) largest

-- the first step: the same with each component's own
unfoldable pub first_step : ℕ → Float → List Float → List Float → List Float → Float → Float
first_step n relative absolute state derivative largest = by_rates n (λ i. rate relative (absolute ! i) state derivative i) largest
