-- Squarings of an array are those of the matrix that it holds. Assumes nothing.
use Rattle.std.proofs.Common.{ℕ, zero, suc, ◌+◌, ◌-◌, ◌≡◌, refl, sym, ap, ◌∙◌, subst, true, List, length, Float}
use Rattle.loops.specs.Loop.{iter}
use Rattle.matrix.specs.Matrix.{at, mat_mul, squared}
use Rattle.matrix.specs.Vector.{vec}
use Rattle.blocks.specs.Blocks.{whole, block_mul, block_squared}
use Rattle.blocks.specs.Storage.{places, split, held, all_finite, times}
use Rattle.blocks.proofs.Whole.{Finite, by_test}
use Rattle.blocks.proofs.Squares.{squared_all}
use Rattle.blocks.proofs.Arrays.{split_times, finite_split}

squared-suc : (c w : ℕ) (m : List Float) → mat_mul (squared c m w) (squared c m w) w ≡ squared (suc c) m w
unfolding squared iter
squared-suc c w m = refl

pub squared_none : (w : ℕ) (m : List Float) → squared 0 m w ≡ m
unfolding squared iter
squared_none w m = refl

module _ (n p : ℕ) where
  split_rounds : (c : ℕ) (m : List Float) → split n p (iter c (λ _ x. times n p x x) m) ≡ block_squared c n p (split n p m)
  unfolding block_squared iter
  split_rounds zero m = refl
  split_rounds (suc c) m = split_times n p _ _ ∙ ap (λ z. block_mul n p z z) (split_rounds c m)

  module _ (c : ℕ) (m x : List Float) (u : x ≡ iter c (λ _ z. times n p z z) m) (l : length x ≡ places n p) (h : all_finite x ≡ true) where
    -- what is finite in the end was so all along
    pub held_rounds : held n p x ≡ squared c (held n p m) (n + p)
    unfolding held
    held_rounds =
        let s : split n p x ≡ block_squared c n p (split n p m) = ap (split n p) u ∙ split_rounds c m in
        ap (whole n p) s ∙ sym (squared_all c n p (split n p m) (subst (Finite n p) s (by_test n p (split n p x) (finite_split n p x l h))))

    -- a column of the square
    pub column_squared : (k : ℕ) (v : List Float) → suc c ≡ k → v ≡ vec n (λ i. at (mat_mul (held n p x) (held n p x) (n + p)) (n + p) i (n + p - 1))
        → v ≡ vec n (λ i. at (squared k (held n p m) (n + p)) (n + p) i (n + p - 1))
    column_squared k v e d =
        let s : mat_mul (held n p x) (held n p x) (n + p) ≡ squared k (held n p m) (n + p) =
        ap (λ z. mat_mul z z (n + p)) held_rounds ∙ squared-suc c (n + p) (held n p m) ∙ ap (λ j. squared j (held n p m) (n + p)) e in
        rw s at d
