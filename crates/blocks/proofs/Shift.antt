-- A term times the matrix: one sum up to column n, and one product in each column behind it and on each diagonal. Assumes nothing.
use Rattle.std.proofs.Common.{ℕ, suc, ◌+◌, ◌-◌, ◌*◌, ◌<◌, ◌≤◌, ◌≡◌, ◌≢◌, ap, ◌∙◌, true, cond, eqb, ne_eqb, arith, Float}
use Rattle.std.proofs.Math.Arith.{digits_lt}
use Rattle.std.proofs.Math.Decide.{dec_lt}
use Rattle.std.specs.Float.Ieee.{binary64}
use lib.Ieee.Fits.{mul-fits}
use Rattle.loops.specs.Loop.{iter, ◌!◌}
use Rattle.loops.proofs.Loops.{tab_at}
use Rattle.float.specs.Arith.{◌⊕◌, ◌⊗◌, zero+, finite}
use Rattle.matrix.specs.Matrix.{at}
use Rattle.matrix.proofs.Zeros.{run, run_good, skip, single, good_zero, times_zero}
use Rattle.blocks.specs.Blocks.{Blocks, along, upper_entry, block_mul, one_diagonal, Shifts}
use Rattle.blocks.proofs.Whole.{Finite}
use Rattle.blocks.proofs.Products.{upper_is, lower_is}

module _ (n p : ℕ) (t a : Blocks) (nu : Float) (F : Finite n p t) (A : Shifts n p a nu) where
  diagonal : (d : ℕ) → d < p → a.lower ! d ≡ cond (eqb d 1) nu zero+
  unfolding one_diagonal
  diagonal d h = rw A.lower (tab_at p _ d h)

  diagonal_no : (d : ℕ) → d < p → d ≢ 1 → a.lower ! d ≡ zero+
  diagonal_no d h e = diagonal d h ∙ rw (ne_eqb d 1 e)

  -- of a sum along a diagonal one product is left
  one_left : (d : ℕ) (f : ℕ → Float) → suc d < p → ((k : ℕ) → k ≤ suc d → finite (f k) ≡ true) → run (suc (suc d)) (λ k. f k ⊗ a.lower ! (suc d - k)) zero+ ≡ zero+ ⊕ f d ⊗ nu
  one_left d f h F =
      single (suc (suc d)) d _ zero+ good_zero (omega arith) (mul-fits binary64 _ _) (λ k l e. rw (diagonal_no (suc d - k) (omega arith) (λ q. e (omega arith))) (times_zero (f k) (F k (omega arith))))
      ∙ let e : suc d - d ≡ 1 = omega arith in rw (e, diagonal 1 (omega arith))

  upper_finite : (i j : ℕ) → i < n → j < n + p → finite (at t.upper (n + p) i j) ≡ true
  upper_finite i j h k = F.uppers (i * (n + p) + j) (digits_lt h k)

  -- the first n products of an entry
  abbrev firsts : ℕ → ℕ → Float
  firsts i j = run n (λ k. at t.upper (n + p) i k ⊗ at a.upper (n + p) k j) zero+

  pub up_to : (i j : ℕ) → i < n → j ≤ n → j < n + p → at (block_mul n p t a).upper (n + p) i j ≡ iter n (λ k z. z ⊕ at t.upper (n + p) i k ⊗ at a.upper (n + p) k j) zero+
  unfolding upper_entry iter
  up_to i j h k l = upper_is n p t a i j h l ∙ go (dec_lt j n)
    where
      second : ℕ → Float
      second k = at t.upper (n + p) i (n + k) ⊗ a.lower ! (j - n - k)

      go : Dec (j < n) → run (suc j - n) second (firsts i j) ≡ firsts i j
      go (yes m) = let e : suc j - n ≡ 0 = omega arith in ap (λ c. run c second (firsts i j)) e
      go (no m) =
          let e : suc j - n ≡ 1 = omega arith in
          ap (λ c. run c second (firsts i j)) e
          ∙ skip 1 second (firsts i j) (run_good n _ zero+ good_zero (λ k. mul-fits binary64 _ _))
          (λ k o. rw (diagonal_no (j - n - k) (omega arith) (λ q. omega arith)) (times_zero (at t.upper (n + p) i (n + k)) (upper_finite i (n + k) h (omega arith))))

  pub behind : (i d : ℕ) → i < n → suc d < p → at (block_mul n p t a).upper (n + p) i (n + suc d) ≡ zero+ ⊕ at t.upper (n + p) i (n + d) ⊗ nu
  unfolding upper_entry
  behind i d h o =
      upper_is n p t a i (n + suc d) h (omega arith)
      ∙ ap (λ z. run (suc (n + suc d) - n) (λ k. at t.upper (n + p) i (n + k) ⊗ a.lower ! (n + suc d - n - k)) z)
      (skip n _ zero+ good_zero (λ k l. rw (A.columns k (n + suc d) l (omega arith) (omega arith)) (times_zero (at t.upper (n + p) i k) (upper_finite i k h (omega arith)))))
      ∙ let c : suc (n + suc d) - n ≡ suc (suc d) = omega arith in
      let e : n + suc d - n ≡ suc d = omega arith in
      rw (c, e) (one_left d (λ k. at t.upper (n + p) i (n + k)) o (λ k l. upper_finite i (n + k) h (omega arith)))

  pub lower_none : 0 < p → (block_mul n p t a).lower ! 0 ≡ zero+
  unfolding along
  lower_none h =
      lower_is n p t a 0 h
      ∙ skip 1 (λ k. t.lower ! k ⊗ a.lower ! (0 - k)) zero+ good_zero (λ k l. rw (diagonal_no (0 - k) (omega arith) (λ q. omega arith)) (times_zero (t.lower ! k) (F.lowers k (omega arith))))

  pub lower_next : (d : ℕ) → suc d < p → (block_mul n p t a).lower ! suc d ≡ zero+ ⊕ t.lower ! d ⊗ nu
  unfolding along
  lower_next d h = lower_is n p t a (suc d) h ∙ one_left d (λ k. t.lower ! k) h (λ k l. F.lowers k (omega arith))
