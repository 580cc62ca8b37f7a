-- Sums of n numbers. Assumes nothing.
use Rattle.std.proofs.Common.{◌≡◌, refl, sym, ap, ◌∙◌, subst, inl, inr, ℕ, zero, suc, ◌+◌, ◌*◌, ◌≤◌, ◌<◌, zero-le, le_refl, le_of_eq, add-le-add, not-le_of_lt, eq-or-lt_of_le, zero-mul, suc-mul, mul-zero, mul-add, arith}

-- f 0 + f 1 + .., n of them
unfoldable pub total : ℕ → (ℕ → ℕ) → ℕ
total zero f = 0
total (suc n) f = total n f + f n

under-suc : {i n : ℕ} → i < n → i < suc n
under-suc h = omega arith

pub total_mono : (n : ℕ) (f g : ℕ → ℕ) → ((i : ℕ) → i < n → f i ≤ g i) → total n f ≤ total n g
unfolding total
total_mono zero f g h = le_refl 0
total_mono (suc n) f g h = add-le-add (total_mono n f g (λ i l. h i (under-suc l))) (h n (le_refl (suc n)))

pub total_add : (n : ℕ) (f g : ℕ → ℕ) → total n (λ i. f i + g i) ≡ total n f + total n g
unfolding total
total_add zero f g = refl
total_add (suc n) f g = let e = total_add n f g in omega arith

pub total_mul : (n c : ℕ) (f : ℕ → ℕ) → total n (λ i. c * f i) ≡ c * total n f
unfolding total
total_mul zero c f = sym (mul-zero c)
total_mul (suc n) c f = ap (λ (z : ℕ). z + c * f n) (total_mul n c f) ∙ sym (mul-add c (total n f) (f n))

pub total_const : (n c : ℕ) → total n (λ i. c) ≡ n * c
unfolding total
total_const zero c = sym (zero-mul c)
total_const (suc n) c = ap (λ (z : ℕ). z + c) (total_const n c) ∙ sym (suc-mul n c)

pub total_swap : (n m : ℕ) (f : ℕ → ℕ → ℕ) → total n (λ i. total m (f i)) ≡ total m (λ j. total n (λ i. f i j))
unfolding total
total_swap zero m f = sym (total_const m 0 ∙ mul-zero m)
total_swap (suc n) m f = ap (λ (z : ℕ). z + total m (f n)) (total_swap n m f) ∙ sym (total_add m (λ j. total n (λ i. f i j)) (f n))

last_or : {i n : ℕ} → i < suc n → i ≤ n
last_or h = omega arith

pub entry_le : (n : ℕ) (f : ℕ → ℕ) (i : ℕ) → i < n → f i ≤ total n f
unfolding total
entry_le zero f i h = absurd (not-le_of_lt h zero-le)
entry_le (suc n) f i h =
    elim (eq-or-lt_of_le (last_or h)) [ inl e ↦ subst (λ (z : ℕ). f z ≤ total n f + f n) (sym e) (right (total n f) (f n)) | inr l ↦ left (f i) (total n f) (f n) (entry_le n f i l) ]
  where
    right : (a b : ℕ) → b ≤ a + b
    right a b = omega arith

    left : (x a b : ℕ) → x ≤ a → x ≤ a + b
    left x a b h = omega arith

pub prefix_le : (n : ℕ) (f : ℕ → ℕ) (j : ℕ) → j ≤ n → total j f ≤ total n f
unfolding total
prefix_le zero f j h = le_of_eq (ap (λ (z : ℕ). total z f) (is_zero j h))
  where
    is_zero : (x : ℕ) → x ≤ 0 → x ≡ 0
    is_zero x h = omega arith
prefix_le (suc n) f j h = elim (eq-or-lt_of_le h) [ inl e ↦ le_of_eq (ap (λ (z : ℕ). total z f) e) | inr l ↦ left (total j f) (total n f) (f n) (prefix_le n f j (last_or l)) ]
  where
    left : (x a b : ℕ) → x ≤ a → x ≤ a + b
    left x a b h = omega arith
