-- The error norm of finite entries under positive tolerances is never a NaN. Assumes nothing.
use Rattle.std.proofs.Common.{ℕ, ◌≤◌, ◌<◌, ◌≡◌, true, false, List, T, pos, Float}
use Rattle.std.specs.Float.Ieee.{binary64, of_int, is_nan, fits}
use lib.Ieee.Positive.{positive}
use Rattle.loops.specs.Loop.{◌!◌}
use Rattle.float.specs.Arith.{◌⊕◌, ◌⊗◌, ◌⊘◌, finite, abs, larger, powi2, sum_of}
use Rattle.float.proofs.Plus.{square_plus, whole-div, sum_plus, root-number, positive_sum, div-number, larger_plus, larger-finite, abs_both, product_plus}
use Rattle.engine.specs.Engine.{ratio, root_mean, error_norm}

module _ (relative : Float) (state candidate error : List Float) (r : T (positive relative)) where
  ratio-number : (absolute : Float) → T (positive absolute) → T (fits binary64 absolute)
      → (i : ℕ) → finite (state ! i) ≡ true → finite (candidate ! i) ≡ true → finite (error ! i) ≡ true → is_nan (ratio relative absolute state candidate error i) ≡ false
  unfolding ratio
  ratio-number absolute a f i u v e =
      let p = abs_both (state ! i) u in
      let q = abs_both (candidate ! i) v in
      let l = larger (abs (state ! i)) (abs (candidate ! i)) in
      div-number (error ! i) (absolute ⊕ relative ⊗ l) e
      (positive_sum absolute (relative ⊗ l) f a
      (product_plus relative l r (larger_plus (abs (state ! i)) (abs (candidate ! i)) p.0 q.0) (larger-finite (abs (state ! i)) (abs (candidate ! i)) p.1 q.1)))

  mean_number : (n : ℕ) (ratios : ℕ → Float) → 1 ≤ n → n ≤ 16 → ((i : ℕ) → i < n → is_nan (ratios i) ≡ false) → is_nan (root_mean n ratios) ≡ false
  unfolding root_mean
  mean_number n ratios h k number =
      root-number (sum_of n (λ i. powi2 (ratios i)) ⊘ of_int binary64 (pos n))
      (whole-div (sum_of n (λ i. powi2 (ratios i))) n h k (sum_plus n (λ i. powi2 (ratios i)) (λ i l. square_plus (ratios i) (number i l))))

  pub norm-number : (absolute : List Float) (n : ℕ) → 1 ≤ n → n ≤ 16
      → ((i : ℕ) → i < n → T (positive (absolute ! i))) → ((i : ℕ) → T (fits binary64 (absolute ! i)))
      → ((i : ℕ) → i < n → finite (state ! i) ≡ true) → ((i : ℕ) → i < n → finite (candidate ! i) ≡ true) → ((i : ℕ) → i < n → finite (error ! i) ≡ true)
      → is_nan (error_norm n relative absolute state candidate error) ≡ false
  unfolding error_norm
  norm-number absolute n h k a f u v e =
      mean_number n (λ i. ratio relative (absolute ! i) state candidate error i) h k
      (λ i l. ratio-number (absolute ! i) (a i l) (f i) i (u i l) (v i l) (e i l))
