-- Mirrored vectors and matrices, and the helpers on vectors. Assumes nothing.
use Rattle.std.proofs.Common.{ℕ, zero, suc, ◌+◌, ◌*◌, ◌/◌, ◌%◌, ◌≤◌, ◌<◌, arith, ◌≡◌, refl, ap, ap₂, ◌∙◌, subst, Bool, List, [], ◌∷◌, Float, length, replicate, drop, length-append}
use Rattle.std.proofs.Math.Decide.{dec_lt}
use Rattle.std.specs.Float.Ieee.{unlike}
use Rattle.loops.specs.Loop.{iter, every, tab, mat, fill, ◌!◌}
use Rattle.loops.proofs.Loops.{every_ext, past_end, append_past, length-tab, tab_at}
use Rattle.loops.proofs.Places.{row_below, column_below, place_row, place_column}
use Rattle.float.proofs.Signs.{inner1}
use Rattle.float.specs.Arith.{◌⊕◌, zero+, finite, sum_of}
use Rattle.evaluation.specs.Evaluation.{all_finite}
use Rattle.matrix.specs.Matrix.{at}
use Rattle.matrix.specs.Vector.{zeros, vec, mat_vec}
use Rattle.matrix.proofs.Vectors.{vec_at}
use Rattle.methods.specs.Vectors.{add, subtract, scale, axpy, axpy_all, combine}
use Rattle.mirror.proofs.Floats.{Mirror, m_nan, add_m, sub_m, mul_m, mul_same, finite_m, zero_m}

-- ---- what stands where

-- +0.0 or a NaN, and so mirrored by any sign
pub blank_at : (m : ℕ) (s : Bool) (p : ℕ) → Mirror s (replicate m zero+ ! p) (replicate m zero+ ! p)
blank_at zero s p = m_nan
blank_at (suc m) s zero = zero_m s
blank_at (suc m) s (suc p) = blank_at m s p

-- two lists by their entries, mirrored at every place
pub tab_mirror : (k k' : ℕ) (s : ℕ → Bool) (f g : ℕ → Float) → k ≡ k' → ((p : ℕ) → p < k → Mirror (s p) (f p) (g p)) → (p : ℕ) → Mirror (s p) (tab k f ! p) (tab k' g ! p)
tab_mirror k k' s f g e h p = go (dec_lt p k)
  where
    go : Dec (p < k) → Mirror (s p) (tab k f ! p) (tab k' g ! p)
    go (yes l) = let l' : p < k' = omega arith in rw (tab_at k f p l, tab_at k' g p l') (h p l)
    go (no l) =
        let z : length (tab k f) ≤ p = rw length-tab (omega arith) in
        let z' : length (tab k' g) ≤ p = rw length-tab (omega arith) in
        rw (past_end (tab k f) p z, past_end (tab k' g) p z') m_nan

-- ---- vectors: a sign for each component below n, and what stands past n is equal
pub record Vecs (n : ℕ) (σ : ℕ → Bool) (x y : List Float) : Type 0 where
  pub size : length x ≡ length y
  pub below : (i : ℕ) → i < n → Mirror (σ i) (x ! i) (y ! i)
  pub past : (i : ℕ) → n ≤ i → x ! i ≡ y ! i

-- ---- matrices: an entry flips if just one of its row and column does
abbrev pub cross : ℕ → (ℕ → Bool) → ℕ → Bool
cross n σ p = unlike (σ (p / n)) (σ (p % n))

pub record Mats (n : ℕ) (σ : ℕ → Bool) (a b : List Float) : Type 0 where
  pub size : length a ≡ length b
  pub place : (p : ℕ) → Mirror (cross n σ p) (a ! p) (b ! p)

pub m_sign : {s t : Bool} {x y : Float} → s ≡ t → Mirror s x y → Mirror t x y
m_sign {x = x} {y = y} e p = subst (λ (s : Bool). Mirror s x y) e p

pub cell : {n : ℕ} {σ : ℕ → Bool} {a b : List Float} → Mats n σ a b → (i j : ℕ) → j < n → Mirror (unlike (σ i) (σ j)) (at a n i j) (at b n i j)
cell {n} {σ} A i j h = m_sign (ap₂ (λ (k l : ℕ). unlike (σ k) (σ l)) (place_row i j n h) (place_column i j n h)) (A.place (i * n + j))

vec_size : (n : ℕ) (f g : ℕ → Float) → length (vec n f) ≡ length (vec n g)
unfolding vec fill
vec_size n f g = rw (length-append (tab n f) (drop n zeros), length-append (tab n g) (drop n zeros), length-tab n f, length-tab n g)

vec_past : (n : ℕ) (f g : ℕ → Float) (i : ℕ) → n ≤ i → vec n f ! i ≡ vec n g ! i
unfolding vec fill
vec_past n f g i h = append_past (tab n f) (tab n g) (drop n zeros) i (rw (length-tab n f, length-tab n g)) (rw length-tab h)

pub vec_m : (n : ℕ) (σ : ℕ → Bool) (f g : ℕ → Float) → ((i : ℕ) → i < n → Mirror (σ i) (f i) (g i)) → Vecs n σ (vec n f) (vec n g)
vec_m n σ f g p = record { size = vec_size n f g; below = λ i h. rw (vec_at n f i h, vec_at n g i h) (p i h); past = vec_past n f g }

pub tab_m : (n : ℕ) (σ : ℕ → Bool) (k k' : ℕ) (f g : ℕ → Float) → k ≡ k' → ((p : ℕ) → p < k → Mirror (cross n σ p) (f p) (g p)) → Mats n σ (tab k f) (tab k' g)
tab_m n σ k k' f g e h = record { size = rw (length-tab k f, length-tab k' g) e; place = tab_mirror k k' (cross n σ) f g e h }

pub mat_m : (n : ℕ) (σ : ℕ → Bool) (f g : ℕ → ℕ → Float) → ((i j : ℕ) → i < n → j < n → Mirror (unlike (σ i) (σ j)) (f i j) (g i j)) → Mats n σ (mat n f) (mat n g)
unfolding mat
mat_m n σ f g h = tab_m n σ (n * n) (n * n) _ _ refl (λ p l. h (p / n) (p % n) (row_below p n l) (column_below p n l))

-- ---- sums and largest values

step : (n i : ℕ) → i < n → i < suc n
step n i h = omega arith

-- products added to +0.0 one after another
pub iter_m : (s : Bool) (n : ℕ) (f g : ℕ → Float) → ((k : ℕ) → k < n → Mirror s (f k) (g k)) → Mirror s (iter n (λ k x. x ⊕ f k) zero+) (iter n (λ k x. x ⊕ g k) zero+)
unfolding iter
iter_m s zero f g p = zero_m s
iter_m s (suc n) f g p = add_m (iter_m s n f g (λ k h. p k (step n k h))) (p n (omega arith))

pub sum_m : (s : Bool) (n : ℕ) (f g : ℕ → Float) → ((k : ℕ) → k < n → Mirror s (f k) (g k)) → Mirror s (sum_of n f) (sum_of n g)
unfolding sum_of
sum_m s zero f g p = zero_m s
sum_m s (suc zero) f g p = p 0 (omega arith)
sum_m s (suc (suc n)) f g p = add_m (sum_m s (suc n) f g (λ k h. p k (step (suc n) k h))) (p (suc n) (omega arith))

-- ---- the helpers
-- a list of terms with the same coefficients
pub data Terms (n : ℕ) (σ : ℕ → Bool) : List (Float × List Float) → List (Float × List Float) → Type 0 where
  no_terms : Terms n σ [] []
  one_term : {x x' : List Float} {s s' : List (Float × List Float)} (c : Float) → Vecs n σ x x' → Terms n σ s s' → Terms n σ ((c, x) ∷ s) ((c, x') ∷ s')

module _ {n : ℕ} {σ : ℕ → Bool} where
  pub zeros_m : Vecs n σ zeros zeros
  unfolding zeros
  zeros_m = record { size = refl; below = λ i h. blank_at 16 (σ i) i; past = λ i h. refl }

  pub plus_m : {x x' y y' : List Float} → Vecs n σ x x' → Vecs n σ y y' → Vecs n σ (add n x y) (add n x' y')
  unfolding add
  plus_m p q = vec_m n σ _ _ (λ i h. add_m (p.below i h) (q.below i h))

  pub minus_m : {x x' y y' : List Float} → Vecs n σ x x' → Vecs n σ y y' → Vecs n σ (subtract n x y) (subtract n x' y')
  unfolding subtract
  minus_m p q = vec_m n σ _ _ (λ i h. sub_m (p.below i h) (q.below i h))

  pub scale_m : {x x' : List Float} (c : Float) → Vecs n σ x x' → Vecs n σ (scale n x c) (scale n x' c)
  unfolding scale
  scale_m c p = vec_m n σ _ _ (λ i h. mul_same c (p.below i h))

  pub axpy_m : {x x' y y' : List Float} (c : Float) → Vecs n σ x x' → Vecs n σ y y' → Vecs n σ (axpy n x c y) (axpy n x' c y')
  unfolding axpy
  axpy_m c p q = vec_m n σ _ _ (λ i h. add_m (p.below i h) (mul_same c (q.below i h)))

  axpy_all_m : {x x' : List Float} {s s' : List (Float × List Float)} → Vecs n σ x x' → Terms n σ s s' → Vecs n σ (axpy_all n x s) (axpy_all n x' s')
  unfolding axpy_all
  axpy_all_m X no_terms = X
  axpy_all_m {x = x} {x' = x'} X (one_term {x = x''} {x' = x'''} {s = s} {s' = s'} c Y S) = axpy_all_m {x = axpy n x c x''} {x' = axpy n x' c x'''} (axpy_m c X Y) S

  pub combine_m : {s s' : List (Float × List Float)} → Terms n σ s s' → Vecs n σ (combine n s) (combine n s')
  unfolding combine
  combine_m S = axpy_all_m zeros_m S

  pub mat_vec_m : {a a' x x' : List Float} → Mats n σ a a' → Vecs n σ x x' → Vecs n σ (mat_vec n a x) (mat_vec n a' x')
  unfolding mat_vec
  mat_vec_m A X = vec_m n σ _ _ (λ i h. sum_m (σ i) n _ _ (λ j k. m_sign (inner1 (σ i) (σ j)) (mul_m (cell A i j k) (X.below j k))))

  -- a component is finite in both runs or in neither
  finite_at : {x x' : List Float} → Vecs n σ x x' → (i : ℕ) → finite (x ! i) ≡ finite (x' ! i)
  finite_at {x} {x'} X i = go (dec_lt i n)
    where
      go : Dec (i < n) → finite (x ! i) ≡ finite (x' ! i)
      go (yes h) = finite_m (X.below i h)
      go (no h) = ap finite (X.past i (omega arith))

  pub all_finite_m : {x x' : List Float} → Vecs n σ x x' → all_finite x ≡ all_finite x'
  unfolding all_finite
  all_finite_m {x} {x'} X = every_ext (length x) _ _ (λ i h. finite_at X i) ∙ ap (λ (k : ℕ). every k (λ i. finite (x' ! i))) X.size
