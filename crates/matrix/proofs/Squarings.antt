-- Two arrays that trade their parts each round of squaring. Assumes nothing.
use Rattle.std.proofs.Common.{ℕ, ◌+◌, ◌-◌, ◌%◌, ◌≡◌, refl, ap, ◌∙◌, true, false, cond, List, arith, eq-eqb, ne_eqb, Float}
use Rattle.std.proofs.Math.Numerals.{add-one}
use Rattle.std.proofs.Math.Dec.{eqb}
use Rattle.std.proofs.Math.Decide.{ℕ_discrete}
use Rattle.loops.specs.Loop.{iter}
use Rattle.matrix.specs.Matrix.{mat_mul, squared}
use Rattle.matrix.specs.Calls.{Trades, Traded}

-- what stands in one array after s rounds stands in the other's place after one more
turned_over : (s : ℕ) (x y : List Float) → cond (eqb ((s + 1) % 2) 0) x y ≡ cond (eqb (s % 2) 0) y x
turned_over s x y = go (ℕ_discrete (s % 2) 0)
  where
    go : Dec (s % 2 ≡ 0) → cond (eqb ((s + 1) % 2) 0) x y ≡ cond (eqb (s % 2) 0) y x
    go (yes e) = rw (eq-eqb (s % 2) 0 e, ne_eqb ((s + 1) % 2) 0 (λ k. omega arith))
    go (no ne) = rw (ne_eqb (s % 2) 0 ne, eq-eqb ((s + 1) % 2) 0 (omega arith))

module _ (f : List Float → List Float) where
  pub trades_none : (m room : List Float) → Trades f 0 m m room
  unfolding iter
  trades_none m room = record { result = refl; other = λ h. absurd (omega arith) }

  one_more : (s : ℕ) (m : List Float) → f (iter s (λ _ x. f x) m) ≡ iter (s + 1) (λ _ x. f x) m
  unfolding iter
  one_more s m = rw add-one refl

  module _ (s : ℕ) (m x y : List Float) (t : Trades f s m x y) where
    -- one round more: f of the result stands in the other array, and the result where it stood
    round : (z x' y' : List Float) → z ≡ cond (eqb (s % 2) 0) x y → cond (eqb (s % 2) 0) y' x' ≡ f z → cond (eqb (s % 2) 0) x' y' ≡ z → Trades f (s + 1) m x' y'
    round z x' y' e u v = record {
      result = turned_over s x' y' ∙ u ∙ ap f (e ∙ t.result) ∙ one_more s m;
      other = λ h. let l : s + 1 - 1 ≡ s = omega arith in rw l (turned_over s y' x' ∙ v ∙ e ∙ t.result);
    }

    pub even_round : (z : List Float) → s % 2 ≡ 0 → z ≡ f x → Trades f (s + 1) m x z
    even_round z h u = let e : eqb (s % 2) 0 ≡ true = eq-eqb (s % 2) 0 h in round x x z (rw e refl) (rw e u) (rw e refl)

    pub odd_round : (z : List Float) → (s % 2 ≡ 0 → ⊥) → z ≡ f y → Trades f (s + 1) m z y
    odd_round z h u = let e : eqb (s % 2) 0 ≡ false = ne_eqb (s % 2) 0 h in round y z y (rw e refl) (rw e u) (rw e refl)

    -- where the result stands
    pub even_result : s % 2 ≡ 0 → x ≡ iter s (λ _ x. f x) m
    even_result h = rw (eq-eqb (s % 2) 0 h) at t.result

    pub odd_result : (s % 2 ≡ 0 → ⊥) → y ≡ iter s (λ _ x. f x) m
    odd_result h = rw (ne_eqb (s % 2) 0 h) at t.result

-- squares of a matrix
module _ (s n : ℕ) (m x y : List Float) where
  pub traded : Trades (λ z. mat_mul z z n) s m x y → Traded s m n x y
  unfolding squared
  traded t = record { result = t.result; other = t.other }

  pub even_squared : Traded s m n x y → s % 2 ≡ 0 → x ≡ squared s m n
  even_squared t h = rw (eq-eqb (s % 2) 0 h) at t.result

  pub odd_squared : Traded s m n x y → (s % 2 ≡ 0 → ⊥) → y ≡ squared s m n
  odd_squared t h = rw (ne_eqb (s % 2) 0 h) at t.result
