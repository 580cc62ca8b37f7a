-- A record's kind, as it is read. Assumes nothing.
use Rattle.std.proofs.Common.{ℕ, ◌≤◌, ◌<◌, arith, ◌≡◌, refl, Option, Some, None}
use Rattle.std.specs.Option.{MatchOption, IsSome}
use Rattle.std.proofs.lemmas.Option.{MatchOption-at_some, MatchOption-at_none}
use Rattle.table.specs.declared.kind.Kind.{Kind}
use Rattle.table.specs.declared.kind.Kind.TheVariants.{Constant, Linear, Product, Timed}
use Rattle.table.specs.Kind.{kind_number}

number_below : (k : Kind) → kind_number k < 4
number_below Constant = omega arith
number_below Linear = omega arith
number_below Product = omega arith
number_below Timed = omega arith

module _ {m : ℕ} (o : Option Kind) (read : MatchOption o (4 ≤ m) (λ k. kind_number k ≡ m)) where
  pub known : {k : Kind} → o ≡ Some k → (kind_number k ≡ m) × (m < 4)
  known {k} e = let f : kind_number k ≡ m = MatchOption-at_some (4 ≤ m) (λ k. kind_number k ≡ m) k e read in (f, omega (arith, f, number_below k))

  pub unknown : ((k : Kind) → o ≡ Some k → ⊥) → 4 ≤ m
  unknown h = go o refl
    where
      go : (p : Option Kind) → o ≡ p → 4 ≤ m
      go None e = MatchOption-at_none (4 ≤ m) (λ k. kind_number k ≡ m) e read
      go (Some k) e = absurd (h k e)

  pub is_one : m < 4 → IsSome o
  is_one h = go o refl
    where
      go : (p : Option Kind) → o ≡ p → IsSome p
      go None e = absurd (omega (arith, h, MatchOption-at_none (4 ≤ m) (λ k. kind_number k ≡ m) e read))
      go (Some k) e = refl
