-- A turn of the series on arrays is one on the matrices that they hold. Assumes nothing.
use Rattle.std.proofs.Common.{ℕ, suc, ◌+◌, ◌-◌, ◌*◌, ◌<◌, ◌≤◌, ◌≡◌, sym, ap, ◌∙◌, Bool, false, true, List, T, length, pos, arith, Float}
use Rattle.std.proofs.Math.Decide.{dec_lt}
use Rattle.std.specs.Float.Ieee.{binary64, fits, le, is_nan, of_int}
use Rattle.loops.specs.Loop.{tab, ◌!◌}
use Rattle.loops.proofs.Loops.{length-tab, tab_at, past_end}
use Rattle.loops.proofs.Places.{length-grid}
use Rattle.float.specs.Arith.{◌⊕◌, ◌⊘◌, zero+, one, two, finite, abs, most}
use Rattle.float.proofs.Signed.{sgn}
use Rattle.float.proofs.Sums.{most_ext}
use Rattle.float.proofs.Order.{zero_number, one_number}
use Rattle.matrix.specs.Matrix.{mat_mul, div_all, add_all, max_abs, identity, next_term, small}
use Rattle.matrix.specs.Calls.{positive, Begun, Added, Turned, Calm}
use Rattle.matrix.proofs.Zeros.{Over, zero_over, zero_and_zero, whole_over}
use Rattle.matrix.proofs.Begun.{begun, begun_low}
use Rattle.matrix.proofs.Series.{Left, left_bound, product_low, turned}
use Rattle.blocks.specs.Blocks.{block_most, block_identity}
use Rattle.blocks.specs.Storage.{places, split, joined, held, all_finite, times, Tame}
use Rattle.blocks.proofs.Whole.{by_test, to_test, from_whole, length-whole}
use Rattle.blocks.proofs.Products.{product_whole}
use Rattle.blocks.proofs.Entries.{both_whole, identity_whole}
use Rattle.blocks.proofs.Most.{most_split}
use Rattle.blocks.proofs.Largest.{largest_whole, zero_sign, one_sign}
use Rattle.blocks.proofs.First.{whole_fits}
use Rattle.blocks.proofs.Arrays.{split_upper, split_lower, held_joined, held_times, finite_split, split_finite}

module _ (n p : ℕ) where
  pub length-held : (x : List Float) → length (held n p x) ≡ (n + p) * (n + p)
  unfolding held
  length-held x = length-whole n p (split n p x)

  -- ---- made place by place, where two zeros make a zero
  held_made : (x y : List Float) (op : Float → Float → Float) → op zero+ zero+ ≡ zero+ → length x ≡ places n p
      → tab ((n + p) * (n + p)) (λ q. op (held n p x ! q) (held n p y ! q)) ≡ held n p (tab (length x) (λ q. op (x ! q) (y ! q)))
  unfolding held
  held_made x y op keep e =
      let z = tab (length x) (λ q. op (x ! q) (y ! q)) in
      both_whole n p (split n p x) (split n p y) (split n p z) op keep
      (λ q h. rw (split_upper n p z q h, split_upper n p x q h, split_upper n p y q h) (tab_at (length x) _ q (omega arith)))
      (λ d h. rw (split_lower n p z d, split_lower n p x d, split_lower n p y d) (tab_at (length x) _ (n * (n + p) + d) (omega arith)))

  pub div_held : (x : List Float) (d : Float) → Over d → length x ≡ places n p → div_all (held n p x) d ≡ held n p (div_all x d)
  unfolding div_all
  div_held x d o e = rw (length-held x) (held_made x x (λ v w. v ⊘ d) (zero_over d o) e)

  add_held : (x y : List Float) → length x ≡ places n p → add_all (held n p x) (held n p y) ≡ held n p (add_all x y)
  unfolding add_all
  add_held x y e = rw (length-held x) (held_made x y (λ v w. v ⊕ w) zero_and_zero e)

  positive_held : (x : List Float) → length x ≡ places n p → positive (held n p x) ≡ held n p (positive x)
  unfolding positive
  positive_held x e = rw (length-held x) (held_made x x (λ v w. zero+ ⊕ v) zero_and_zero e)

  -- ---- the largest magnitude, and the test at which the series stops
  max_held : (x : List Float) (z : Float) → is_nan z ≡ false → sgn z ≡ false → length x ≡ places n p → max_abs z (held n p x) ≡ max_abs z x
  unfolding held block_most max_abs
  max_held x z N S e =
      largest_whole n p (split n p x) z N S
      ∙ ap (most p _) (most_ext (n * (n + p)) _ (λ q. abs (x ! q)) z (λ q h. ap abs (split_upper n p x q h)))
      ∙ most_ext p _ _ _ (λ d h. ap abs (split_lower n p x d))
      ∙ sym (most_split (n * (n + p)) p (λ q. abs (x ! q)) z)
      ∙ ap (λ m. most m (λ q. abs (x ! q)) z) (sym e)

  small_held : (x y : List Float) → length x ≡ places n p → length y ≡ places n p → small (held n p x) (held n p y) ≡ small x y
  unfolding small
  small_held x y e f = rw (max_held x zero+ zero_number zero_sign e, max_held y one one_number one_sign f)

  length-added : (x y : List Float) → length (add_all x y) ≡ length x
  unfolding add_all
  length-added x y = length-tab (length x) _

  low_held : (x y : List Float) → length x ≡ places n p → le (max_abs one (add_all (held n p x) (held n p y))) two ≡ true → le (max_abs one (add_all x y)) two ≡ true
  low_held x y e h = rw (add_held x y e, max_held (add_all x y) one one_number one_sign (length-added x y ∙ e)) at h

  -- ---- the first term
  pub fits_held : (a : List Float) → ((q : ℕ) → T (fits binary64 (a ! q))) → (q : ℕ) → T (fits binary64 (held n p a ! q))
  unfolding held fits
  fits_held a f q = go (dec_lt q ((n + p) * (n + p)))
    where
      go : Dec (q < (n + p) * (n + p)) → T (fits binary64 (held n p a ! q))
      go (yes h) = whole_fits n p (split n p a) (λ r k. rw (split_upper n p a r k) (f r)) (λ d k. rw (split_lower n p a d) (f (n * (n + p) + d))) q h
      go (no h) = rw (past_end (held n p a) q (rw (length-held a) (omega arith))) tt

  identity_held : (o : List Float) → o ≡ joined (block_identity n p) → held n p o ≡ identity (n + p)
  unfolding block_identity
  identity_held o u = ap (held n p) u ∙ held_joined n p (block_identity n p) (length-grid n (n + p) _) ∙ sym (identity_whole n p)

  module _ (a o : List Float) (calm : Calm (held n p a) (n + p)) (l : length a ≡ places n p) (m : length o ≡ places n p) (fit : (q : ℕ) → T (fits binary64 (a ! q)))
      (u : o ≡ joined (block_identity n p)) where
    pub first_low : le (max_abs one (add_all o (positive a))) two ≡ true
    first_low = low_held o (positive a) m (rw (← positive_held a l) (begun_low (held n p a) (held n p o) (n + p) calm (length-held a) (fits_held a fit) (identity_held o u)))

    pub first_held : (y z : List Float) (r : Bool) → length y ≡ places n p → length z ≡ places n p → Begun a o y z r
        → Turned (held n p a) (identity (n + p)) (identity (n + p)) 1 (n + p) (held n p y) (held n p z) r
    first_held y z r e f b = begun (held n p a) (held n p o) (n + p) calm (length-held a) (fits_held a fit) (identity_held o u) (held n p y) (held n p z) r (record {
      term = ap (held n p) b.term ∙ sym (positive_held a l);
      added = ap (held n p) b.added ∙ sym (add_held o y m);
      last = b.last ∙ sym (small_held y z e f);
    })

  -- ---- a term from the last one
  number_over : (k : ℕ) → 1 ≤ k → Over (of_int binary64 (pos k))
  number_over k h = let e : suc (k - 1) ≡ k = omega arith in rw e at (whole_over (k - 1))

  pub product_held : (t a x : List Float) → length t ≡ places n p → length a ≡ places n p → all_finite t ≡ true → all_finite a ≡ true
      → x ≡ times n p t a → held n p x ≡ mat_mul (held n p t) (held n p a) (n + p)
  unfolding held
  product_held t a x e f h k u =
      ap (held n p) u ∙ held_times n p t a
      ∙ sym (product_whole n p (split n p t) (split n p a) (by_test n p (split n p t) (finite_split n p t e h)) (by_test n p (split n p a) (finite_split n p a f k)))

  module _ (a s t x : List Float) (k : ℕ) (c : 1 ≤ k) (l : length x ≡ places n p) (m : length s ≡ places n p)
      (u : held n p x ≡ mat_mul (held n p t) (held n p a) (n + p)) where
    pub turn_low : le (max_abs one (add_all (held n p s) (next_term (held n p t) (held n p a) (n + p) k))) two ≡ true
        → le (max_abs one (add_all s (div_all x (of_int binary64 (pos k))))) two ≡ true
    turn_low h =
        low_held s (div_all x (of_int binary64 (pos k))) m
        (rw (← div_held x (of_int binary64 (pos k)) (number_over k c) l) (product_low (held n p a) (held n p s) (held n p t) (held n p x) k (n + p) u h))

    pub turn_held : (y z : List Float) (r : Bool) → length y ≡ places n p → length z ≡ places n p → Added x s (of_int binary64 (pos k)) y z r
        → Turned (held n p a) (held n p s) (held n p t) k (n + p) (held n p y) (held n p z) r
    turn_held y z r e f b = turned (held n p a) (held n p s) (held n p t) (held n p x) (held n p y) (held n p z) k (n + p) r u (record {
      divided = ap (held n p) b.divided ∙ sym (div_held x (of_int binary64 (pos k)) (number_over k c) l);
      added = ap (held n p) b.added ∙ sym (add_held s y m);
      last = b.last ∙ sym (small_held y z e f);
    })

  -- ---- what is multiplied is finite
  by_entries : (x : List Float) → length x ≡ places n p → ((q : ℕ) → q < (n + p) * (n + p) → finite (held n p x ! q) ≡ true) → all_finite x ≡ true
  unfolding held
  by_entries x e h = split_finite n p x e (to_test n p (split n p x) (from_whole n p (split n p x) h))

  pub tame_finite : (a : List Float) → length a ≡ places n p → Tame n p a → all_finite a ≡ true
  tame_finite a e h = by_entries a e h.calm.numbers

  pub last_finite : (a t r : List Float) (k : ℕ) → length t ≡ places n p → Tame n p a → Left (held n p a) (n + p) (held n p t) (held n p r) k → all_finite t ≡ true
  last_finite a t r k e h left =
      let l : k ≤ 15 = left_bound left h.calm.stops in
      by_entries t e (λ q m. rw left.term (h.terms (k - 1) q (omega arith) m))
