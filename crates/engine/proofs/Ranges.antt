-- What the library's folds over a range of numbers make. Assumes nothing.
use Rattle.std.proofs.Common.{ℕ, zero, suc, ◌≡◌, refl, ap, arith, fold, Float}
use Rattle.std.specs.List.{range_with_len}
use Rattle.std.proofs.lemmas.List.Sums.{fold-append}
use Rattle.loops.proofs.Ranges.{range-suc}
use Rattle.float.specs.Arith.{◌⊕◌, larger, sum_of, most}

-- a sum from the first of n items on, and the largest of n items
pub sum_range : (f : ℕ → Float) (n : ℕ) → fold (λ s i. s ⊕ f i) (f 0) (range_with_len 1 n) ≡ sum_of (suc n) f
unfolding sum_of
sum_range f zero = refl
sum_range f (suc n) = rw (range-suc, fold-append, sum_range f n) (ap (λ i. sum_of (suc n) f ⊕ f i) (omega arith))

pub most_range : (f : ℕ → Float) (x : Float) (n : ℕ) → fold (λ s i. larger s (f i)) x (range_with_len 0 n) ≡ most n f x
unfolding most
most_range f x zero = refl
most_range f x (suc n) = rw (range-suc, fold-append, most_range f x n) (ap (λ i. larger (most n f x) (f i)) (omega arith))
