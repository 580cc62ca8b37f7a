-- The product of two wholes is the whole of the product of the blocks, where both are finite. Assumes nothing.
use Rattle.std.proofs.Common.{ℕ, suc, ◌+◌, ◌-◌, ◌<◌, ◌≤◌, ◌≡◌, refl, sym, ap, ◌∙◌, arith, Float}
use Rattle.std.specs.Float.Ieee.{binary64}
use Rattle.std.proofs.Math.Decide.{dec_lt}
use lib.Ieee.Fits.{mul-fits}
use Rattle.loops.specs.Loop.{◌!◌}
use Rattle.loops.proofs.Loops.{tab_at}
use Rattle.float.specs.Arith.{◌⊗◌, zero+}
use Rattle.matrix.specs.Matrix.{at, mat_mul}
use Rattle.matrix.proofs.Zeros.{Nil, run, run_ext, run_split, run_good, skip, good_zero, zero_times, times_zero}
use Rattle.blocks.specs.Blocks.{Blocks, whole, along, upper_entry, block_mul}
use Rattle.loops.proofs.Places.{grid_at}
use Rattle.blocks.proofs.Whole.{entry, upper_at, zero_at, lower_at, whole_at, whole_ext, mat_ext, Finite, entry_finite}

-- ---- the entries of the product of the blocks
pub upper_is : (n p : ℕ) (x y : Blocks) (i j : ℕ) → i < n → j < n + p → at (block_mul n p x y).upper (n + p) i j ≡ upper_entry n p x y i j
unfolding block_mul
upper_is n p x y i j h k = grid_at n (n + p) (upper_entry n p x y) i j h k

pub lower_is : (n p : ℕ) (x y : Blocks) (d : ℕ) → d < p → (block_mul n p x y).lower ! d ≡ along x.lower y.lower d
unfolding block_mul
lower_is n p x y d h = tab_at p (along x.lower y.lower) d h

module _ (n p : ℕ) (x y : Blocks) (X : Finite n p x) (Y : Finite n p y) where
  -- the products of row i and column j
  abbrev term : ℕ → ℕ → ℕ → Float
  term i j k = entry n p x i k ⊗ entry n p y k j

  -- behind row j of column j there are zeros
  late : (i j k : ℕ) → i < n + p → k < n + p → n ≤ k → j < k → Nil (term i j k)
  late i j k h l m o = rw (zero_at n p y k j m o) (times_zero (entry n p x i k) (entry_finite n p x X i k h l))

  -- before column i of a lower row i there are zeros
  early : (i j k : ℕ) → n ≤ i → k < i → k < n + p → j < n + p → Nil (term i j k)
  early i j k h l m o = rw (zero_at n p x i k h l) (zero_times (entry n p y k j) (entry_finite n p y Y k j m o))

  -- c columns right of column n belong to the sum
  in_upper : (i j c e : ℕ) → i < n → j < n + p → suc j - n ≡ c → c + e ≡ p → run (n + p) (term i j) zero+ ≡ upper_entry n p x y i j
  unfolding upper_entry
  in_upper i j c e h k d s =
      run_split n p (term i j) zero+
      ∙ ap (λ (m : ℕ). run m (λ k. term i j (n + k)) (run n (term i j) zero+)) (sym s)
      ∙ run_split c e (λ k. term i j (n + k)) (run n (term i j) zero+)
      ∙ skip e _ _ (run_good c _ _ (run_good n (term i j) zero+ good_zero (λ k. mul-fits binary64 _ _)) (λ k. mul-fits binary64 _ _))
      (λ k l. late i j (n + (c + k)) (omega arith) (omega arith) (omega arith) (omega arith))
      ∙ ap (λ (z : Float). run c (λ k. term i j (n + k)) z) (run_ext n (term i j) _ zero+ (λ k l. rw (upper_at n p x i k h, upper_at n p y k j l)))
      ∙ run_ext c _ _ _ (λ k l.
      let a : n ≤ n + k = omega arith in
      let b : n + k ≤ j = omega arith in
      let m : j - (n + k) ≡ j - n - k = omega arith in
      rw (upper_at n p x i (n + k) h, lower_at n p y (n + k) j a b, m))
      ∙ ap (λ (m : ℕ). run m (λ k. at x.upper (n + p) i (n + k) ⊗ y.lower ! (j - n - k)) (run n (λ k. at x.upper (n + p) i k ⊗ at y.upper (n + p) k j) zero+)) (sym d)

  -- d places right of the diagonal of a lower row i, and e places behind
  in_lower : (i d e : ℕ) → n ≤ i → i + (suc d + e) ≡ n + p → run (n + p) (term i (i + d)) zero+ ≡ along x.lower y.lower d
  unfolding along
  in_lower i d e h s =
      ap (λ (m : ℕ). run m (term i (i + d)) zero+) (sym s)
      ∙ run_split i (suc d + e) (term i (i + d)) zero+
      ∙ ap (λ (z : Float). run (suc d + e) (λ k. term i (i + d) (i + k)) z) (skip i _ zero+ good_zero (λ k l. early i (i + d) k h l (omega arith) (omega arith)))
      ∙ run_split (suc d) e (λ k. term i (i + d) (i + k)) zero+
      ∙ skip e _ _ (run_good (suc d) _ zero+ good_zero (λ k. mul-fits binary64 _ _)) (λ k l. late i (i + d) (i + (suc d + k)) (omega arith) (omega arith) (omega arith) (omega arith))
      ∙ run_ext (suc d) _ _ zero+ (λ k l.
      let a : i ≤ i + k = omega arith in
      let b : i + k ≤ i + d = omega arith in
      let c : n ≤ i + k = omega arith in
      let u : i + k - i ≡ k = omega arith in
      let v : i + d - (i + k) ≡ d - k = omega arith in
      rw (lower_at n p x i (i + k) h a, lower_at n p y (i + k) (i + d) c b, u, v))

  none : (i j : ℕ) → n ≤ i → i < n + p → j < n + p → j < i → run (n + p) (term i j) zero+ ≡ zero+
  none i j h k l m = skip (n + p) _ zero+ good_zero (λ k q. go k q (dec_lt k i))
    where
      go : (k : ℕ) → k < n + p → Dec (k < i) → Nil (term i j k)
      go k q (yes u) = early i j k h u q l
      go k q (no u) = late i j k (omega arith) q (omega arith) (omega arith)

  pub product_whole : mat_mul (whole n p x) (whole n p y) (n + p) ≡ whole n p (block_mul n p x y)
  unfolding mat_mul
  product_whole =
      mat_ext (n + p) _ (λ i j. run (n + p) (term i j) zero+) (λ i j h k. run_ext (n + p) _ _ zero+ (λ l m. rw (whole_at n p x i l h m, whole_at n p y l j m k)))
      ∙ whole_ext n p _ (block_mul n p x y)
      (λ i j h k. in_upper i j (suc j - n) (p - (suc j - n)) h k refl (omega arith) ∙ sym (upper_is n p x y i j h k))
      (λ i j h k l m. none i j h k l m)
      (λ i j h k l.
      let a : i + (j - i) ≡ j = omega arith in
      ap (λ (z : ℕ). run (n + p) (term i z) zero+) (sym a) ∙ in_lower i (j - i) (n + p - suc j) h (omega arith) ∙ sym (lower_is n p x y (j - i) (omega arith)))
