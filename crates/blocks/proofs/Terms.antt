-- The terms of the series by blocks. Assumes nothing.
use Rattle.std.proofs.Common.{ℕ, zero, suc, ◌+◌, ◌<◌, ◌≡◌, ap, ◌∙◌}
use Rattle.std.proofs.Common.{arith, pos, T}
use Rattle.std.specs.Float.Ieee.{binary64, of_int}
use Rattle.matrix.specs.Matrix.{div_all, next_term, term_at}
use Rattle.matrix.proofs.Zeros.{whole_over}
use Rattle.blocks.specs.Blocks.{Blocks, whole, block_mul, block_next, block_term}
use Rattle.blocks.proofs.Whole.{Finite}
use Rattle.blocks.proofs.Products.{product_whole}
use Rattle.blocks.proofs.Entries.{identity_whole, div_whole}

-- ---- the terms and their sums as matrices
pub next_whole : (n p : ℕ) (t a : Blocks) (k : ℕ) → Finite n p t → Finite n p a → next_term (whole n p t) (whole n p a) (n + p) (suc k) ≡ whole n p (block_next n p t a (suc k))
unfolding next_term block_next
next_whole n p t a k T A = ap (λ z. div_all z (of_int binary64 (pos (suc k)))) (product_whole n p t a T A) ∙ div_whole n p (block_mul n p t a) (of_int binary64 (pos (suc k))) (whole_over k)

module _ (n p : ℕ) (a : Blocks) (A : Finite n p a) where
  -- the terms before the k-th are finite
  abbrev Before : ℕ → Type 0
  Before k = (j : ℕ) → j < k → Finite n p (block_term n p a j)

  pub term_whole : (k : ℕ) → Before k → term_at (whole n p a) (n + p) k ≡ whole n p (block_term n p a k)
  unfolding term_at block_term
  term_whole zero h = identity_whole n p
  term_whole (suc k) h =
      ap (λ z. next_term z (whole n p a) (n + p) (suc k)) (term_whole k (λ j l. h j (omega arith)))
      ∙ next_whole n p (block_term n p a k) a k (h k (omega arith)) A
