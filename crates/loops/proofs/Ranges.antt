-- What the library's test of a range of numbers makes. Assumes nothing.
use Rattle.std.proofs.Common.{ℕ, zero, suc, ◌+◌, ◌≡◌, refl, ap, ◌∙◌, Bool, ◌&&◌, [], ◌∷◌, ◌++◌, arith}
use Rattle.std.proofs.Math.Bool.{and-true}
use Rattle.std.proofs.Math.Nat.{add-zero}
use Rattle.std.specs.List.{list_all, range_with_len}
use Rattle.std.proofs.lemmas.List.Folds.{list_all-append}
use Rattle.loops.specs.Loop.{every}

-- one number more
pub range-suc : (a n : ℕ) → range_with_len a (suc n) ≡ range_with_len a n ++ (a + n) ∷ []
range-suc a zero = rw add-zero
range-suc a (suc n) = ap (λ l. a ∷ l) (range-suc (a + 1) n ∙ ap (λ j. range_with_len (a + 1) n ++ j ∷ []) (omega arith))

pub all_range : (test : ℕ → Bool) (n : ℕ) → list_all test (range_with_len 0 n) ≡ every n test
unfolding every
all_range test zero = refl
all_range test (suc n) = ap (list_all test) (range-suc 0 n) ∙ rw (list_all-append, all_range test n, and-true) (ap (λ i. every n test && test i) (omega arith))
