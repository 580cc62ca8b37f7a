-- What is not finite never disappears. A sum, a product and a quotient that are finite have finite parts; so a product of blocks that is finite has finite factors. Assumes nothing.
use Rattle.std.proofs.Common.{ℕ, zero, suc, ◌+◌, ◌-◌, ◌*◌, ◌<◌, ◌≡◌, refl, sym, ap, ◌∙◌, Bool, true, false, cond, eqb, arith, Float}
use Rattle.std.proofs.Math.Bool.{beq, false≢true}
use Rattle.std.proofs.Math.Nat.{not-suc-le-zero, sub-zero}
use Rattle.std.proofs.Math.Arith.{digits_lt}
use Rattle.std.proofs.Math.Decide.{ℕ_discrete, dec_lt}
use Rattle.std.specs.Float.Ieee.{nan, inf, fin, unlike, add, mul, div}
use Rattle.loops.specs.Loop.{iter, ◌!◌}
use Rattle.loops.proofs.Loops.{tab_at}
use Rattle.float.specs.Arith.{◌⊕◌, ◌⊗◌, ◌⊘◌, zero+, finite}
use Rattle.matrix.specs.Matrix.{at}
use Rattle.matrix.proofs.Zeros.{run}
use Rattle.blocks.specs.Blocks.{Blocks, along, upper_entry, block_mul, block_div}
use Rattle.blocks.proofs.Whole.{by_place, Finite}
use Rattle.blocks.proofs.Products.{upper_is, lower_is}

-- ---- one operation
abbrev pub Both : Float → Float → Type 0
Both x y = (finite x ≡ true) × (finite y ≡ true)

no_inf : (b s : Bool) → finite (cond b (inf s) nan) ≡ true → ⊥
unfolding finite
no_inf true s h = false≢true h
no_inf false s h = false≢true h

no_nan : (b s : Bool) → finite (cond b nan (inf s)) ≡ true → ⊥
unfolding finite
no_nan true s h = false≢true h
no_nan false s h = false≢true h

pub add_both : (x y : Float) → finite (x ⊕ y) ≡ true → Both x y
unfolding add finite
add_both nan y h = absurd (false≢true h)
add_both (inf s) nan h = absurd (false≢true h)
add_both (inf s) (inf t) h = absurd (no_inf (beq s t) s h)
add_both (inf s) (fin t n d) h = absurd (false≢true h)
add_both (fin s m e) nan h = absurd (false≢true h)
add_both (fin s m e) (inf t) h = absurd (false≢true h)
add_both (fin s m e) (fin t n d) h = (refl, refl)

pub mul_both : (x y : Float) → finite (x ⊗ y) ≡ true → Both x y
unfolding mul finite
mul_both nan y h = absurd (false≢true h)
mul_both (inf s) nan h = absurd (false≢true h)
mul_both (inf s) (inf t) h = absurd (false≢true h)
mul_both (inf s) (fin t n d) h = absurd (no_nan (eqb n 0) (unlike s t) h)
mul_both (fin s m e) nan h = absurd (false≢true h)
mul_both (fin s m e) (inf t) h = absurd (no_nan (eqb m 0) (unlike s t) h)
mul_both (fin s m e) (fin t n d) h = (refl, refl)

pub div_first : (x y : Float) → finite (x ⊘ y) ≡ true → finite x ≡ true
unfolding div finite
div_first nan y h = absurd (false≢true h)
div_first (inf s) nan h = absurd (false≢true h)
div_first (inf s) (inf t) h = absurd (false≢true h)
div_first (inf s) (fin t n d) h = absurd (false≢true h)
div_first (fin s m e) y h = refl

-- ---- a sum
run_start : (n : ℕ) (f : ℕ → Float) (x : Float) → finite (run n f x) ≡ true → finite x ≡ true
unfolding iter
run_start zero f x h = h
run_start (suc n) f x h = run_start n f x (add_both (run n f x) (f n) h).0

run_each : (n : ℕ) (f : ℕ → Float) (x : Float) → finite (run n f x) ≡ true → (k : ℕ) → k < n → finite (f k) ≡ true
unfolding iter
run_each zero f x h k l = absurd (not-suc-le-zero l)
run_each (suc n) f x h k l = go (ℕ_discrete k n) (λ m. run_each n f x (add_both (run n f x) (f n) h).0 k m)
  where
    go : Dec (k ≡ n) → (k < n → finite (f k) ≡ true) → finite (f k) ≡ true
    go (yes e) ih = rw e (add_both (run n f x) (f n) h).1
    go (no e) ih = ih (omega arith)

-- ---- the product of two
module _ (n p : ℕ) (x y : Blocks) where
  -- entry (i, j) holds X_ii times Y_ij, and X_ij times Y_jj or, past column n, times the first number of the lower block of Y
  upper_both : (i j : ℕ) → i < n → j < n + p → finite (at (block_mul n p x y).upper (n + p) i j) ≡ true → Both (at x.upper (n + p) i j) (at y.upper (n + p) i j)
  unfolding upper_entry
  upper_both i j a b h = (go (dec_lt j n), (mul_both _ _ (firsts i a)).1)
    where
      first : ℕ → Float
      first k = at x.upper (n + p) i k ⊗ at y.upper (n + p) k j

      second : ℕ → Float
      second k = at x.upper (n + p) i (n + k) ⊗ y.lower ! (j - n - k)

      whole_sum : finite (run (suc j - n) second (run n first zero+)) ≡ true
      whole_sum = sym (ap finite (upper_is n p x y i j a b)) ∙ h

      firsts : (k : ℕ) → k < n → finite (first k) ≡ true
      firsts = run_each n first zero+ (run_start (suc j - n) second (run n first zero+) whole_sum)

      go : Dec (j < n) → finite (at x.upper (n + p) i j) ≡ true
      go (yes l) = (mul_both _ _ (firsts j l)).0
      go (no l) =
          let e : n + (j - n) ≡ j = omega arith in
          ap (λ k. finite (at x.upper (n + p) i k)) (sym e) ∙ (mul_both _ _ (run_each (suc j - n) second (run n first zero+) whole_sum (j - n) (omega arith))).0

  lower_both : (d : ℕ) → d < p → finite ((block_mul n p x y).lower ! d) ≡ true → Both (x.lower ! d) (y.lower ! d)
  unfolding along
  lower_both d a h =
      let r = run_each (suc d) (λ k. x.lower ! k ⊗ y.lower ! (d - k)) zero+ (sym (ap finite (lower_is n p x y d a)) ∙ h) in
      ((mul_both _ _ (r d (omega arith))).0, rw sub-zero at (mul_both _ _ (r 0 (omega arith))).1)

  module _ (h : Finite n p (block_mul n p x y)) where
    both : (i j : ℕ) → i < n → j < n + p → Both (at x.upper (n + p) i j) (at y.upper (n + p) i j)
    both i j a b = upper_both i j a b (h.uppers (i * (n + p) + j) (digits_lt a b))

    pub first_factor : Finite n p x
    first_factor = record {
      uppers = by_place n (n + p) (λ q. finite (x.upper ! q) ≡ true) (λ i j a b. (both i j a b).0);
      lowers = λ d a. (lower_both d a (h.lowers d a)).0;
    }

    pub second_factor : Finite n p y
    second_factor = record {
      uppers = by_place n (n + p) (λ q. finite (y.upper ! q) ≡ true) (λ i j a b. (both i j a b).1);
      lowers = λ d a. (lower_both d a (h.lowers d a)).1;
    }

-- an entry that is not finite stays so in the square
unless : (x y : Float) → (finite y ≡ true → finite x ≡ true) → finite x ≡ false → finite y ≡ false
unless x y f h = go (finite y) refl
  where
    go : (b : Bool) → finite y ≡ b → finite y ≡ false
    go true e = absurd (false≢true (sym h ∙ f e))
    go false e = e

pub never_upper : (n p : ℕ) (x : Blocks) (q : ℕ) → q < n * (n + p) → finite (x.upper ! q) ≡ false → finite ((block_mul n p x x).upper ! q) ≡ false
never_upper n p x =
    by_place n (n + p) (λ q. finite (x.upper ! q) ≡ false → finite ((block_mul n p x x).upper ! q) ≡ false)
    (λ i j a b. unless (at x.upper (n + p) i j) (at (block_mul n p x x).upper (n + p) i j) (λ h. (upper_both n p x x i j a b h).0))

pub never_lower : (n p : ℕ) (x : Blocks) (d : ℕ) → d < p → finite (x.lower ! d) ≡ false → finite ((block_mul n p x x).lower ! d) ≡ false
never_lower n p x d a = unless (x.lower ! d) ((block_mul n p x x).lower ! d) (λ h. (lower_both n p x x d a h).0)

-- what is divided
pub divided : (n p : ℕ) (x : Blocks) (d : Float) → Finite n p (block_div n p x d) → Finite n p x
unfolding block_div
divided n p x d h = record {
  uppers = λ q l. div_first (x.upper ! q) d (sym (ap finite (tab_at (n * (n + p)) _ q l)) ∙ h.uppers q l);
  lowers = λ e l. div_first (x.lower ! e) d (sym (ap finite (tab_at p _ e l)) ∙ h.lowers e l);
}
