-- A column and a row of the differenced Jacobian, by the deltas. Assumes nothing.
use Rattle.std.proofs.Common.{ℕ, ◌+◌, ◌*◌, ◌/◌, ◌%◌, ◌≤◌, ◌<◌, ◌≡◌, refl, ap, ◌∙◌, ◌≢◌, Bool, true, ◌&&◌, List, arith, Float, length, eq-eqb, ne_eqb}
use Rattle.std.proofs.Math.Decide.{dec_lt}
use Rattle.std.specs.Float.Ieee.{of_bits}
use borrow.Rule.Slice.PartMut.{put_mid}
use Rattle.loops.specs.Loop.{every, mat, tab, stores, ◌!◌}
use Rattle.loops.proofs.Loops.{every_at, every_one}
use Rattle.loops.proofs.Stores.{stores_all, rows_step, put_part}
use Rattle.loops.proofs.Places.{row_fits, place_row, place_column}
use Rattle.float.specs.Arith.{◌⊕◌, ◌⊖◌, ◌⊘◌, zero+, finite}
use Rattle.evaluation.specs.Evaluation.{all_finite}
use Rattle.matrix.specs.Vector.{vec}
use Rattle.matrix.proofs.Vectors.{length-vec, vec_at, vec-clear}
use Rattle.engine.specs.Engine.{delta, perturbed_entry, perturbed, jacobian_entry, column_ok}

-- ---- a column
pub zero-finite : finite zero+ ≡ true
unfolding finite of_bits
zero-finite = refl

-- from a finite state, the state that column j is asked at is finite just where the moved component is
module _ (n j : ℕ) (u : List Float) (h : j < n) (small : n ≤ 16) (l : length u ≡ 16) (f : all_finite u ≡ true) where
  finite_at : (i : ℕ) → i < 16 → finite (u ! i) ≡ true
  unfolding all_finite
  finite_at i k = every_at (length u) _ f i (omega arith)

  other_finite : (i : ℕ) → i < 16 → i ≢ j → finite (vec n (λ i. perturbed_entry (u ! i) i j) ! i) ≡ true
  unfolding perturbed_entry
  other_finite i k ne = go (dec_lt i n)
    where
      go : Dec (i < n) → finite (vec n (λ i. perturbed_entry (u ! i) i j) ! i) ≡ true
      go (yes q) = rw (vec_at n _ i q, ne_eqb i j ne) (finite_at i k)
      go (no q) = rw (vec-clear n _ i (omega arith) k) zero-finite

  moved_at : vec n (λ i. perturbed_entry (u ! i) i j) ! j ≡ u ! j ⊕ delta (u ! j)
  unfolding perturbed_entry
  moved_at = vec_at n _ j h ∙ rw (eq-eqb j j refl)

  pub moved-finite : all_finite (perturbed n u j) ≡ finite (u ! j ⊕ delta (u ! j))
  unfolding all_finite perturbed
  moved-finite = rw length-vec (every_one 16 _ j (omega arith) other_finite ∙ ap finite moved_at)

-- the two tests of a column
pub column_told : (n j : ℕ) (u g x : List Float) (d : Float) (a b : Bool) → d ≡ delta (u ! j) → a ≡ all_finite (perturbed n u j)
    → b ≡ every n (λ i. finite ((x ! (16 * j + i) ⊖ g ! i) ⊘ d)) → (a && b) ≡ column_ok n u g x j
unfolding column_ok jacobian_entry
column_told n j u g x d a b e p q = rw (p, q, e)

-- ---- the rows
-- what stands at place p of the Jacobian
abbrev pub entry : List Float → List Float → List Float → ℕ → ℕ → Float → Float
entry u g x n p _ = jacobian_entry u g x (p / n) (p % n)

-- one row more, which is lent as a slice
pub row_step : (u g x d : List Float) (n i b k m : ℕ) (z p y : List Float) → i < n → length p ≡ n * n → b ≡ i * n → k ≡ n → m ≡ n → d ≡ vec n (λ j. delta (u ! j))
    → p ≡ stores (entry u g x n) 0 (i * n) z → y ≡ tab m (λ j. (x ! (16 * j + i) ⊖ g ! i) ⊘ d ! j) → put_mid b k p y ≡ stores (entry u g x n) 0 ((i + 1) * n) z
unfolding jacobian_entry
row_step u g x d n i b k m z p y h l s t w v e r =
    let f : ℕ → Float = λ j. (x ! (16 * j + i) ⊖ g ! i) ⊘ d ! j in
    rows_step (entry u g x n) (λ j _. f j) n i z p (put_mid b k p y) (λ j h y. rw (place_row i j n h, place_column i j n h, v, vec_at n _ j h)) e
    (rw s (put_part f (i * n) n k p y t (rw w at r) (omega (arith, row_fits i n h))))

pub rows_end : (u g x : List Float) (n i : ℕ) (z p : List Float) → p ≡ stores (entry u g x n) 0 (i * n) z → i ≡ n → length z ≡ n * n → p ≡ mat n (jacobian_entry u g x)
unfolding mat
rows_end u g x n i z p e h k = rw h at e ∙ stores_all (entry u g x n) (n * n) z k
