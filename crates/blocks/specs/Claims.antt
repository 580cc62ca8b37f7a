-- The laws of the blocks. Definitions only: proofs/Claims.antt proves each.
use Rattle.std.specs.Prelude.{◌≡◌, ◌≤◌, ◌<◌, ℕ, suc, ◌+◌, ◌-◌, ◌*◌, ◌&&◌, true, false, cond, nat_lt, Float}
use Rattle.std.specs.Float.Ieee.{lt, le}
use Rattle.loops.specs.Loop.{iter, every, ◌!◌}
use Rattle.float.specs.Arith.{◌⊕◌, ◌⊗◌, ◌⊘◌, zero+, one, limit, finite, larger, most}
use Rattle.matrix.specs.Matrix.{at, identity, squarings, mat_mul, div_all, add_all, max_abs, row_sum, norm, admitted, power, term_at, small, squared}
use Rattle.matrix.specs.Claims.{Admitted}
use Rattle.blocks.specs.Blocks.{Blocks, whole, finite_blocks, block_mul, block_div, block_add, block_most, block_small, block_identity, block_squared, block_term}
use Rattle.blocks.specs.Blocks.{one_diagonal, Shifts}

-- ---- the product

-- the product of two wholes is the whole of the product
abbrev pub ProductByBlocks : Type 0
ProductByBlocks = (n p : ℕ) (x y : Blocks) → finite_blocks n p x ≡ true → finite_blocks n p y ≡ true → mat_mul (whole n p x) (whole n p y) (n + p) ≡ whole n p (block_mul n p x y)

-- ---- what goes entry by entry

-- the identity
abbrev pub IdentityByBlocks : Type 0
IdentityByBlocks = (n p : ℕ) → identity (n + p) ≡ whole n p (block_identity n p)

-- quotients of any blocks by anything above 0
abbrev pub DivisionByBlocks : Type 0
DivisionByBlocks = (n p : ℕ) (x : Blocks) (d : Float) → lt zero+ d ≡ true → div_all (whole n p x) d ≡ whole n p (block_div n p x d)

-- sums of any blocks
abbrev pub AdditionByBlocks : Type 0
AdditionByBlocks = (n p : ℕ) (x y : Blocks) → add_all (whole n p x) (whole n p y) ≡ whole n p (block_add n p x y)

-- the largest magnitude of any blocks, from +0.0 and from 1.0
abbrev pub LargestByBlocks : Type 0
LargestByBlocks = (n p : ℕ) (x : Blocks) → (max_abs zero+ (whole n p x) ≡ block_most n p zero+ x) × (max_abs one (whole n p x) ≡ block_most n p one x)

-- the test at which the series stops
abbrev pub StopByBlocks : Type 0
StopByBlocks = (n p : ℕ) (t r : Blocks) → small (whole n p t) (whole n p r) ≡ block_small n p t r

-- ---- the squarings

-- an entry that is not finite stays so in the square
abbrev pub NeverDisappears : Type 0
NeverDisappears = (n p : ℕ) (x : Blocks)
    → ((q : ℕ) → q < n * (n + p) → finite (x.upper ! q) ≡ false → finite ((block_mul n p x x).upper ! q) ≡ false)
    × ((d : ℕ) → d < p → finite (x.lower ! d) ≡ false → finite ((block_mul n p x x).lower ! d) ≡ false)

-- blocks that are finite after s squarings were so after each
abbrev pub SquaresAllAlong : Type 0
SquaresAllAlong = (s t n p : ℕ) (x : Blocks) → t ≤ s → finite_blocks n p (block_squared s n p x) ≡ true → finite_blocks n p (block_squared t n p x) ≡ true

-- so it is enough to look before the last squaring
abbrev pub SquaresByBlocks : Type 0
SquaresByBlocks = (s n p : ℕ) (x : Blocks) → finite_blocks n p (block_squared (s - 1) n p x) ≡ true → squared s (whole n p x) (n + p) ≡ whole n p (block_squared s n p x)

-- ---- the terms

-- the k-th term, where the terms before are finite
abbrev pub TermsByBlocks : Type 0
TermsByBlocks = (n p : ℕ) (a : Blocks) (k : ℕ) → finite_blocks n p a ≡ true → ((j : ℕ) → j < k → finite_blocks n p (block_term n p a j) ≡ true)
    → term_at (whole n p a) (n + p) k ≡ whole n p (block_term n p a k)

-- an admitted matrix, divided, and its terms are finite, so there is nothing to test
abbrev pub TermsFinite : Type 0
TermsFinite = (n p : ℕ) (x : Blocks) → Admitted (whole n p x) (n + p)
    → let a = block_div n p x (power (squarings (norm (whole n p x) (n + p)))) in (finite_blocks n p a ≡ true) × ((k : ℕ) → k ≤ 16 → finite_blocks n p (block_term n p a k) ≡ true)

-- an augmented matrix, divided, keeps its form
abbrev pub ShiftsDivided : Type 0
ShiftsDivided = (n p : ℕ) (a : Blocks) (nu d : Float) → lt zero+ d ≡ true → Shifts n p a nu → Shifts n p (block_div n p a d) (nu ⊘ d)

-- a term times it: one sum in each column up to n, one product in each behind and on each diagonal
pub record ShiftedTerm (n p : ℕ) (t a : Blocks) (nu : Float) : Type 0 where
  pub up_to : (i j : ℕ) → i < n → j ≤ n → j < n + p → at (block_mul n p t a).upper (n + p) i j ≡ iter n (λ k z. z ⊕ at t.upper (n + p) i k ⊗ at a.upper (n + p) k j) zero+
  pub behind : (i d : ℕ) → i < n → suc d < p → at (block_mul n p t a).upper (n + p) i (n + suc d) ≡ zero+ ⊕ at t.upper (n + p) i (n + d) ⊗ nu
  pub diagonal : 0 < p → (block_mul n p t a).lower ! 0 ≡ zero+
  pub next : (d : ℕ) → suc d < p → (block_mul n p t a).lower ! suc d ≡ zero+ ⊕ t.lower ! d ⊗ nu

-- that is so of every finite term
abbrev pub TermsShift : Type 0
TermsShift = (n p : ℕ) (t a : Blocks) (nu : Float) → finite_blocks n p t ≡ true → Shifts n p a nu → ShiftedTerm n p t a nu

-- ---- the norm of an augmented matrix

-- whether its row sums are admitted is a question of the first n rows
abbrev pub AdmittedByParts : Type 0
AdmittedByParts = (n p : ℕ) (x : Blocks) → x.lower ≡ one_diagonal p one
    → admitted (whole n p x) (n + p) ≡ every n (λ i. finite (row_sum x.upper (n + p) i) && le (row_sum x.upper (n + p) i) limit)

-- its norm is the largest of theirs and, for p above 1, of 1
abbrev pub NormByParts : Type 0
NormByParts = (n p : ℕ) (x : Blocks) → x.lower ≡ one_diagonal p one → 0 < p
    → norm (whole n p x) (n + p) ≡ larger (most n (row_sum x.upper (n + p)) zero+) (cond (nat_lt 1 p) one zero+)
