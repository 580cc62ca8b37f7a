-- The first term of the series: the identity times the matrix, divided by 1, is the matrix, where -0.0 becomes +0.0. Assumes nothing.
use Rattle.std.proofs.Common.{ℕ, ◌+◌, ◌*◌, ◌/◌, ◌%◌, ◌<◌, ◌≡◌, ◌≢◌, refl, sym, ap, ◌∙◌, subst, true, List, T, eq-eqb, ne_eqb, div-add-mod', pos, Float}
use Rattle.std.proofs.Math.Arith.{digits_lt}
use lib.Count.{count_trailing_zeros}
use lib.Ieee.Fits.{add-fits, mul-fits}
use Rattle.std.specs.Float.Ieee.{binary64, fits, of_int, round, units, size, span, climb, odd, of_bits, of_fields}
use Rattle.loops.specs.Loop.{tab, ◌!◌}
use Rattle.loops.proofs.Stores.{is_tab}
use Rattle.loops.proofs.Places.{row_below, column_below}
use Rattle.float.specs.Arith.{◌⊕◌, ◌⊗◌, ◌⊘◌, zero+, one, finite}
use Rattle.matrix.specs.Matrix.{at, identity, next_term}
use Rattle.matrix.specs.Products.{dot}
use Rattle.matrix.proofs.Terms.{diag, identity_entry, next_entry, next_length}
use Rattle.matrix.proofs.Zeros.{Nil, single, good_zero, zero_times, one_times, over_one}

one_is : of_int binary64 (pos 1) ≡ one
unfolding of_int round units size span climb odd of_bits of_fields count_trailing_zeros
one_is = refl

diag_yes : (i : ℕ) → diag i i ≡ one
unfolding diag
diag_yes i = rw (eq-eqb i i refl)

diag_no : (i k : ℕ) → i ≢ k → diag i k ≡ zero+
unfolding diag
diag_no i k e = rw (ne_eqb i k e)

-- a matrix whose entries are finite doubles
module _ (n : ℕ) (a : List Float) (F : (p : ℕ) → p < n * n → finite (a ! p) ≡ true) (D : (p : ℕ) → p < n * n → T (fits binary64 (a ! p))) where
  -- a row of the identity and a column of the matrix
  apart : (i j k : ℕ) → i < n → j < n → k < n → k ≢ i → Nil (at (identity n) n i k ⊗ at a n k j)
  apart i j k h l m e = rw (identity_entry n i k h m, diag_no i k (λ d. e (sym d))) (zero_times (at a n k j) (F (k * n + j) (digits_lt m l)))

  here : (i j : ℕ) → i < n → j < n → at (identity n) n i i ⊗ at a n i j ≡ at a n i j
  here i j h l = rw (identity_entry n i i h h, diag_yes) (one_times (at a n i j) (D (i * n + j) (digits_lt h l)))

  pub first_entry : (i j : ℕ) → i < n → j < n → at (next_term (identity n) a n 1) n i j ≡ zero+ ⊕ at a n i j
  unfolding dot
  first_entry i j h l =
      next_entry n i j 1 a (identity n) h l
      ∙ ap (λ (z : Float). z ⊘ of_int binary64 (pos 1)) (single n i _ zero+ good_zero h (mul-fits binary64 _ _) (λ k m e. apart i j k h l m e))
      ∙ ap (λ (z : Float). (zero+ ⊕ z) ⊘ of_int binary64 (pos 1)) (here i j h l)
      ∙ ap (λ (d : Float). (zero+ ⊕ at a n i j) ⊘ d) one_is
      ∙ over_one (zero+ ⊕ at a n i j) (add-fits binary64 zero+ (at a n i j))

  pub first_term : next_term (identity n) a n 1 ≡ tab (n * n) (λ p. zero+ ⊕ a ! p)
  first_term = is_tab (n * n) _ _ (next_length (identity n) a n 1)
      (λ p h. subst (λ (q : ℕ). next_term (identity n) a n 1 ! q ≡ zero+ ⊕ a ! q) (div-add-mod' p n) (first_entry (p / n) (p % n) (row_below p n h) (column_below p n h)))
