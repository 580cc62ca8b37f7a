-- Equal tolerances give the figures of the Rust, which has one. Assumes nothing.
use Rattle.std.proofs.Common.{ℕ, ◌<◌, ◌≡◌, ap, Float}
use Rattle.float.specs.Arith.{zero+, powi2}
use Rattle.float.proofs.Sums.{sum_ext, most_ext}
use Rattle.engine.specs.Engine.{ratio, root_mean, scaled_error_norm, error_norm, rate, by_rates, estimate_initial_step, first_step}
use Rattle.engine.specs.Claims.{EqualTolerances}

-- only n ratios count, and only n rates
mean_ext : (n : ℕ) (f g : ℕ → Float) → ((i : ℕ) → i < n → f i ≡ g i) → root_mean n f ≡ root_mean n g
unfolding root_mean
mean_ext n f g same = rw (sum_ext n (λ i. powi2 (f i)) (λ i. powi2 (g i)) (λ i h. ap powi2 (same i h)))

rates_ext : (n : ℕ) (f g : ℕ → Float) (largest : Float) → ((i : ℕ) → i < n → f i ≡ g i) → by_rates n f largest ≡ by_rates n g largest
unfolding by_rates
rates_ext n f g largest same = rw (most_ext n f g zero+ same)

-- ---- THE CLAIM
pub equal_tolerances : EqualTolerances
unfolding scaled_error_norm error_norm estimate_initial_step first_step
equal_tolerances = record {
  norm = λ n relative one absolute equal state candidate error. mean_ext n _ _ (λ i h. ap (λ a. ratio relative a state candidate error i) (equal i h));
  first = λ n relative one absolute equal state derivative largest. rates_ext n _ _ largest (λ i h. ap (λ a. rate relative a state derivative i) (equal i h));
}
