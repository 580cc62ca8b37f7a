-- The terms of an admitted matrix are finite, so by blocks they need no test. Assumes nothing.
use Rattle.std.proofs.Common.{length, ℕ, zero, suc, ◌+◌, ◌*◌, ◌<◌, ◌≤◌, ◌≡◌, refl, sym, subst, true, List, div-mul-le_self, zero-lt-suc, arith, Float}
use Rattle.std.proofs.Math.Decide.{ℕ_discrete}
use Rattle.loops.specs.Loop.{◌!◌}
use Rattle.float.specs.Arith.{finite}
use Rattle.matrix.specs.Matrix.{norm, squarings, power, scaled, term_at}
use Rattle.matrix.specs.Claims.{Admitted}
use Rattle.matrix.proofs.RowSums.{unit64}
use Rattle.matrix.proofs.Terms.{Rows, bd, term_rows, term_length}
use Rattle.matrix.proofs.Stop.{entries}
use Rattle.matrix.proofs.Scaling.{β64}
use Rattle.matrix.proofs.Claims.{scaled_rows, β64_le}
use Rattle.matrix.proofs.Calm.{on_finite}
use Rattle.blocks.specs.Blocks.{Blocks, whole, block_div, block_term}
use Rattle.blocks.proofs.Whole.{Finite, from_whole, length-whole}
use Rattle.blocks.proofs.Entries.{div_whole}
use Rattle.blocks.proofs.Terms.{term_whole}

-- blocks whose whole has bounded rows
by_rows : (n p R : ℕ) (x : Blocks) (m : List Float) → m ≡ whole n p x → Rows (n + p) m R → Finite n p x
by_rows n p R x m e h = from_whole n p x (λ q l.
    let b : q < length (whole n p x) = subst (λ z. q < z) (sym (length-whole n p x)) l in
    on_finite (whole n p x ! q) (entries (n + p) R (whole n p x) (length-whole n p x) (subst (λ z. Rows (n + p) z R) e h) q b).0)

module _ (n p β : ℕ) (a : Blocks) (few : n + p ≤ 20) (β-le : β * 1024 ≤ unit64 * 530) (rows : Rows (n + p) (whole n p a) β) where
  pub matrix_finite : Finite n p a
  matrix_finite = by_rows n p β a (whole n p a) refl rows

  -- each from those before it
  next_finite : (k : ℕ) → k ≤ 16 → ((j : ℕ) → j < k → Finite n p (block_term n p a j)) → Finite n p (block_term n p a k)
  next_finite k l h = by_rows n p (bd k) (block_term n p a k) (term_at (whole n p a) (n + p) k) (term_whole n p a matrix_finite k h) (term_rows (n + p) β (whole n p a) few β-le rows k l)

  pub terms_finite : (k : ℕ) → k ≤ 17 → (j : ℕ) → j < k → Finite n p (block_term n p a j)
  terms_finite zero l j h = absurd (omega arith)
  terms_finite (suc k) l j h = go (ℕ_discrete j k) (terms_finite k (omega arith))
    where
      go : Dec (j ≡ k) → ((i : ℕ) → i < k → Finite n p (block_term n p a i)) → Finite n p (block_term n p a j)
      go (yes e) ih = rw e (next_finite k (omega arith) ih)
      go (no e) ih = ih j (omega arith)

-- of an admitted matrix, divided
module _ (n p : ℕ) (x : Blocks) (ok : Admitted (whole n p x) (n + p)) where
  abbrev divided : Blocks
  divided = block_div n p x (power (squarings (norm (whole n p x) (n + p))))

  rows_divided : Rows (n + p) (whole n p divided) β64
  unfolding scaled
  rows_divided =
      let d = power (squarings (norm (whole n p x) (n + p))) in
      subst (λ z. Rows (n + p) z β64) (div_whole n p x d (refl, zero-lt-suc 0)) (scaled_rows (whole n p x) (n + p) ok)

  pub divided_finite : Finite n p divided
  divided_finite = matrix_finite n p β64 divided ok.size (div-mul-le_self (unit64 * 530) 1024) rows_divided

  pub terms_divided : (k : ℕ) → k ≤ 16 → Finite n p (block_term n p divided k)
  terms_divided k l = terms_finite n p β64 divided ok.size (div-mul-le_self (unit64 * 530) 1024) rows_divided (suc k) (omega arith) k (omega arith)

-- the same, of any admitted matrix
pub terms_entries : (m : List Float) (n : ℕ) → Admitted m n → (k q : ℕ) → k ≤ 15 → q < n * n → finite (term_at (scaled m (squarings (norm m n))) n k ! q) ≡ true
terms_entries m n ok k q h l =
    let b = scaled m (squarings (norm m n)) in
    on_finite (term_at b n k ! q) (entries n (bd k) (term_at b n k) (term_length b n k) (term_rows n β64 b ok.size β64_le (scaled_rows m n ok) k (omega arith)) q (rw term_length l)).0
