-- Squarings: where the blocks are finite after s squarings they were so all along, and the whole squared is the whole of the blocks squared. Assumes nothing.
use Rattle.std.proofs.Common.{ℕ, zero, suc, ◌+◌, ◌-◌, ◌≤◌, ◌≡◌, refl, sym, ap, ◌∙◌, subst, inl, inr, le_of_suc-le-suc, eq-or-lt_of_le, arith}
use Rattle.loops.specs.Loop.{iter}
use Rattle.matrix.specs.Matrix.{mat_mul, squared}
use Rattle.blocks.specs.Blocks.{Blocks, whole, block_mul, block_squared}
use Rattle.blocks.proofs.Whole.{Finite}
use Rattle.blocks.proofs.Products.{product_whole}
use Rattle.blocks.proofs.Survives.{first_factor}

squared-suc : (s n p : ℕ) (x : Blocks) → block_squared (suc s) n p x ≡ block_mul n p (block_squared s n p x) (block_squared s n p x)
unfolding block_squared iter
squared-suc s n p x = refl

before : (s n p : ℕ) (x : Blocks) → Finite n p (block_squared (suc s) n p x) → Finite n p (block_squared s n p x)
before s n p x h = first_factor n p (block_squared s n p x) (block_squared s n p x) (subst (Finite n p) (squared-suc s n p x) h)

-- finite at the end, so finite at every squaring on the way
pub all_along : (s t n p : ℕ) (x : Blocks) → t ≤ s → Finite n p (block_squared s n p x) → Finite n p (block_squared t n p x)
all_along zero t n p x l h = let e : 0 ≡ t = omega arith in subst (λ (z : ℕ). Finite n p (block_squared z n p x)) e h
all_along (suc s) t n p x l h = elim (eq-or-lt_of_le l) [
  | inl e ↦ subst (λ (z : ℕ). Finite n p (block_squared z n p x)) (sym e) h
  | inr m ↦ all_along s t n p x (le_of_suc-le-suc m) (before s n p x h)
]

one_more : (s n p : ℕ) (x : Blocks) → Finite n p (block_squared s n p x) → squared s (whole n p x) (n + p) ≡ whole n p (block_squared s n p x)
    → squared (suc s) (whole n p x) (n + p) ≡ whole n p (block_squared (suc s) n p x)
unfolding squared block_squared iter
one_more s n p x h e = ap (λ z. mat_mul z z (n + p)) e ∙ product_whole n p (block_squared s n p x) (block_squared s n p x) h h

pub squared_all : (s n p : ℕ) (x : Blocks) → Finite n p (block_squared s n p x) → squared s (whole n p x) (n + p) ≡ whole n p (block_squared s n p x)
squared_all zero n p x h = unfold squared block_squared iter in refl
squared_all (suc s) n p x h = let b = before s n p x h in one_more s n p x b (squared_all s n p x b)

-- it is enough that they are finite before the last squaring
pub squared_whole : (s n p : ℕ) (x : Blocks) → Finite n p (block_squared (s - 1) n p x) → squared s (whole n p x) (n + p) ≡ whole n p (block_squared s n p x)
squared_whole zero n p x h = unfold squared block_squared iter in refl
squared_whole (suc s) n p x h =
    let e : suc s - 1 ≡ s = omega arith in
    let b : Finite n p (block_squared s n p x) = rw e at h in
    one_more s n p x b (squared_all s n p x b)
