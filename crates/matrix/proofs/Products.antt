-- The product and the identity, row by row. Assumes nothing.
use Rattle.std.proofs.Common.{zero-le, ℕ, zero, suc, ◌+◌, ◌*◌, ◌/◌, ◌%◌, ◌<◌, ◌≡◌, ap, ◌∙◌, cond, List, arith, length, take, drop, eq-eqb, ne_eqb, Float}
use Rattle.std.proofs.Math.Numerals.{add-one}
use Rattle.std.proofs.Math.Nat.{suc-mul, not-suc-le-zero}
use Rattle.std.proofs.Math.Decide.{ℕ_discrete}
use Rattle.std.proofs.Math.Dec.{eqb}
use Rattle.std.specs.Float.Ieee.{nan}
use Rattle.std.proofs.Math.ListN.{set, replicate, length-drop, length-replicate, get_or-replicate}
use Rattle.std.proofs.Math.Seq.{set-get_or, length-take-le}
use Rattle.std.proofs.lemmas.List.{get_or-take, get_or-drop}
use Rattle.loops.specs.Loop.{mat, grid, stores, ◌!◌}
use Rattle.loops.proofs.Stores.{tab_ext, stores-suc, stores_all, stores_join, stores_same}
use Rattle.loops.proofs.Places.{row_within, place_row, place_column, is_grid}
use Rattle.float.specs.Arith.{◌⊗◌, zero+, one, abs, sum_of}
use Rattle.float.proofs.Sums.{sum_ext}
use Rattle.matrix.specs.Matrix.{at, mat_mul, identity, row_sum}
use Rattle.matrix.specs.Calls.{row}
use Rattle.matrix.specs.Products.{dot, entry, framed}
use Rattle.matrix.proofs.Framed.{length-framed, framed_at, within_yes}

-- ---- one row of a matrix
pub length-row : (m : List Float) (k n i : ℕ) → i < k → length m ≡ k * n → length (row m n i) ≡ n
unfolding row
length-row m k n i h e = length-take-le n (drop (i * n) m) (rw length-drop (omega (arith, row_within i k n h)))

pub row_at : (m : List Float) (n i j : ℕ) → j < n → row m n i ! j ≡ at m n i j
unfolding row
row_at m n i j h = rw (get_or-take, get_or-drop)

pub row_part : (m : List Float) (n i s k : ℕ) → s ≡ i * n → k ≡ n → take k (drop s m) ≡ row m n i
unfolding row
row_part m n i s k h e = rw (h, e)

pub row_sum_of : (m v x : List Float) (n i : ℕ) → x ≡ row m n i → length x ≡ n → sum_of (length x) (λ j. x ! j ⊗ v ! j) ≡ sum_of n (λ j. at m n i j ⊗ v ! j)
row_sum_of m v x n i e l = rw (l, e) (sum_ext n _ _ (λ j h. rw (row_at m n i j h)))

pub row_abs : (m x : List Float) (n i : ℕ) → x ≡ row m n i → length x ≡ n → sum_of (length x) (λ j. abs (x ! j)) ≡ row_sum m n i
unfolding row_sum
row_abs m x n i e l = rw (l, e) (sum_ext n _ _ (λ j h. ap abs (row_at m n i j h)))

-- ---- the product
-- what is written in all rows and columns is the product
pub whole_product : (l r o p : List Float) (n : ℕ) → length o ≡ n * n → p ≡ framed n n 0 n 0 n (entry n l n r n) o → p ≡ mat_mul l r n
unfolding mat_mul mat grid dot
whole_product l r o p n h e =
    rw e (is_grid n n (λ i j. entry n l n r n i j) (framed n n 0 n 0 n (entry n l n r n) o) (length-framed n n 0 n 0 n (entry n l n r n) o)
    (λ i j a b. framed_at n n 0 n 0 n (entry n l n r n) o i j a b ∙ rw (within_yes 0 n i zero-le (omega arith), within_yes 0 n j zero-le (omega arith))))

-- ---- the identity
abbrev pub diagonal : ℕ → ℕ → Float → Float
diagonal n p x = cond (eqb (p / n) (p % n)) one x

set_row : (b i n : ℕ) (p : List Float) → i < n → set p (b + i) one ≡ stores (λ j x. cond (eqb i j) one x) b n p
set_row b i zero p h = absurd (not-suc-le-zero h)
set_row b i (suc n) p h = go (ℕ_discrete i n) (λ k. set_row b i n p k)
  where
    go : Dec (i ≡ n) → (i < n → set p (b + i) one ≡ stores (λ j x. cond (eqb i j) one x) b n p) → set p (b + i) one ≡ stores (λ j x. cond (eqb i j) one x) b (suc n) p
    go (yes e) ih = rw (stores-suc, stores_same (λ j x. cond (eqb i j) one x) b n p (λ j q x. rw (ne_eqb i j (λ e'. omega arith))), eq-eqb i n e, e)
    go (no ne) ih = rw (stores-suc, ne_eqb i n ne, set-get_or) (ih (omega arith))

pub identity_step : (n i place : ℕ) (z p : List Float) → i < n → place ≡ i * n + i → p ≡ stores (diagonal n) 0 (i * n) z → set p place one ≡ stores (diagonal n) 0 ((i + 1) * n) z
identity_step n i place z p h u e =
    rw (add-one, suc-mul, u, set_row (i * n) i n p h, e)
    (stores_join (diagonal n) _ (i * n) n z (λ j q x. rw (place_row i j n q, place_column i j n q)))

pub identity_end : (n i : ℕ) (o z p : List Float) → i ≡ n → length o ≡ n * n → z ≡ replicate (length o) zero+ → p ≡ stores (diagonal n) 0 (i * n) z → p ≡ identity n
unfolding identity mat
identity_end n i o z p h l d e =
    rw (h, d, l) at e ∙ stores_all (diagonal n) (n * n) (replicate (n * n) zero+) (length-replicate (n * n) zero+)
    ∙ tab_ext (n * n) _ _ (λ p q. rw (get_or-replicate (n * n) p zero+ nan q))
