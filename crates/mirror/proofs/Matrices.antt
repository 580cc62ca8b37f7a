-- The exponential of mirrored matrices, and its actions on mirrored vectors: norms and row sums are equal, so both runs square as often and stop at the same term. Assumes nothing.
use Rattle.std.proofs.Common.{ℕ, zero, suc, ◌+◌, ◌-◌, ◌≤◌, ◌<◌, arith, ◌≡◌, refl, sym, ap, ap₂, ◌∙◌, subst, Bool, true, false, cond, not, ◌&&◌, List, T, eqb, ltb, eqb→eq, ltb→lt, nltb→le, pos, Float, length, lt-ltb, le-ltb}
use Rattle.std.specs.Float.Ieee.{binary64, unlike, le, of_int}
use Rattle.loops.specs.Loop.{iter, ◌!◌}
use Rattle.loops.proofs.Loops.{every_ext}
use Rattle.float.proofs.Signs.{unlike_self, unlike_false, inner}
use Rattle.float.proofs.Sums.{most_ext}
use Rattle.float.specs.Arith.{◌⊗◌, zero+, one, epsilon, limit, finite, abs, most}
use Rattle.matrix.specs.Matrix.{at, identity, mat_mul, div_all, add_all, max_abs, row_sum, norm, admitted, squarings, power, scaled, next_term, small, Series, series, taylor, squared, exponential, reach}
use Rattle.matrix.specs.Vector.{zeros}
use Rattle.std.specs.Prelude.{Option, is_some}
use Rattle.matrix.specs.declared.Reach.{Reach}
use Rattle.methods.specs.Tally.{Tried}
use Rattle.methods.specs.Phi.{checked, over, augmented_entry, augmented, phi_action, phi_term, exp_action}
use Rattle.mirror.proofs.Floats.{Mirror, m_refl, add_m, mul_m, mul_same, div_m, abs_m, zero_m, agrees}
use Rattle.mirror.specs.Rows.{SameRowSums}
use Rattle.mirror.proofs.Rows.{same_row_sums}
use Rattle.mirror.proofs.Vectors.{Vecs, Mats, m_sign, cell, vec_m, tab_m, mat_m, iter_m, zeros_m, scale_m, mat_vec_m}

one_or_zero : (σ : ℕ → Bool) (i j : ℕ) → Mirror (unlike (σ i) (σ j)) (cond (eqb i j) one zero+) (cond (eqb i j) one zero+)
one_or_zero σ i j = go (eqb i j) (eqb→eq i j)
  where
    go : (b : Bool) → (T b → i ≡ j) → Mirror (unlike (σ i) (σ j)) (cond b one zero+) (cond b one zero+)
    go true e = rw (e tt, unlike_self (σ j)) (m_refl one)
    go false e = zero_m _

-- two series: mirrored sums, and as many terms
record Sums (n : ℕ) (σ : ℕ → Bool) (s s' : Series) : Type 0 where
  sums : Mats n σ s.sum s'.sum
  terms : s.terms ≡ s'.terms

abbrev stop : Bool → Series → Series → Series
stop b r s = elim b [ true ↦ r | false ↦ s ]

module _ {n : ℕ} {σ : ℕ → Bool} where
  mat_mul_m : {a a' b b' : List Float} → Mats n σ a a' → Mats n σ b b' → Mats n σ (mat_mul a b n) (mat_mul a' b' n)
  unfolding mat_mul
  mat_mul_m A B = mat_m n σ _ _ (λ i j h k. iter_m (unlike (σ i) (σ j)) n _ _ (λ l m. m_sign (inner (σ i) (σ l) (σ j)) (mul_m (cell A i l m) (cell B l j k))))

  identity_m : Mats n σ (identity n) (identity n)
  unfolding identity
  identity_m = mat_m n σ _ _ (λ i j h k. one_or_zero σ i j)

  div_all_m : {a a' : List Float} (d : Float) → Mats n σ a a' → Mats n σ (div_all a d) (div_all a' d)
  unfolding div_all
  div_all_m {a} {a'} d A = tab_m n σ (length a) (length a') _ _ A.size (λ p h. div_m (A.place p) d)

  add_all_m : {a a' b b' : List Float} → Mats n σ a a' → Mats n σ b b' → Mats n σ (add_all a b) (add_all a' b')
  unfolding add_all
  add_all_m {a} {a'} A B = tab_m n σ (length a) (length a') _ _ A.size (λ p h. add_m (A.place p) (B.place p))

  -- ---- what does not see the signs
  -- this is where the mirrored runs rest on the absolute values: norms, and so what is refused and how often is squared, come from the row sums alone
  row_sum_m : {a a' : List Float} → Mats n σ a a' → (i : ℕ) → i < n → row_sum a n i ≡ row_sum a' n i
  unfolding row_sum SameRowSums
  row_sum_m {a} {a'} A i h = same_row_sums n σ a a' (λ p l. agrees (A.place p)) i h

  norm_m : {a a' : List Float} → Mats n σ a a' → norm a n ≡ norm a' n
  unfolding norm
  norm_m A = most_ext n _ _ zero+ (row_sum_m A)

  admitted_m : {a a' : List Float} → Mats n σ a a' → admitted a n ≡ admitted a' n
  unfolding admitted
  admitted_m A = every_ext n _ _ (λ i h. ap (λ (x : Float). finite x && le x limit) (row_sum_m A i h))

  max_abs_m : {a a' : List Float} (x : Float) → Mats n σ a a' → max_abs x a ≡ max_abs x a'
  unfolding max_abs
  max_abs_m {a} {a'} x A = most_ext (length a) _ _ x (λ p h. abs_m (A.place p)) ∙ ap (λ (k : ℕ). most k (λ p. abs (a' ! p)) x) A.size

  small_m : {a a' b b' : List Float} → Mats n σ a a' → Mats n σ b b' → small a b ≡ small a' b'
  unfolding small
  small_m A B = ap₂ (λ (x y : Float). le x (epsilon ⊗ y)) (max_abs_m zero+ A) (max_abs_m one B)

  -- ---- the exponential
  stop_m : {r r' s s' : Series} (b b' : Bool) → b ≡ b' → Sums n σ r r' → Sums n σ s s' → Sums n σ (stop b r s) (stop b' r' s')
  stop_m {r} {r'} {s} {s'} b b' e R S = subst (λ (d : Bool). Sums n σ (stop b r s) (stop d r' s')) e (go b)
    where
      go : (d : Bool) → Sums n σ (stop d r s) (stop d r' s')
      go true = R
      go false = S

  series_m : (d : ℕ) {a a' t t' r r' : List Float} (k : ℕ) → Mats n σ a a' → Mats n σ t t' → Mats n σ r r' → Sums n σ (series d a n t r k) (series d a' n t' r' k)
  unfolding series next_term
  series_m zero k A T R = record { sums = R; terms = refl }
  series_m (suc d) k A T R =
      let T' = div_all_m (of_int binary64 (pos k)) (mat_mul_m T A) in
      let R' = add_all_m R T' in
      stop_m _ _ (small_m T' R') (record { sums = R'; terms = refl }) (series_m d (suc k) A T' R')

  squared_m : (s : ℕ) {a a' : List Float} → Mats n σ a a' → Mats n σ (squared s a n) (squared s a' n)
  unfolding squared iter
  squared_m zero A = A
  squared_m (suc s) A = let B = squared_m s A in mat_mul_m B B

  exp_at : (s s' : ℕ) → s ≡ s' → {a a' : List Float} → Mats n σ a a' → Mats n σ (squared s (taylor (scaled a s) n).sum n) (squared s' (taylor (scaled a' s') n).sum n)
  unfolding taylor scaled
  exp_at s s' e {a} {a'} A =
      subst (λ (z : ℕ). Mats n σ (squared s (taylor (scaled a s) n).sum n) (squared z (taylor (scaled a' z) n).sum n)) e
      (squared_m s (series_m 128 1 (div_all_m (power s) A) identity_m identity_m).sums)

  pub exp_m : {a a' : List Float} → Mats n σ a a' → Mats n σ (exponential a n).entries (exponential a' n).entries
  unfolding exponential
  exp_m A = exp_at _ _ (ap squarings (norm_m A)) A

  -- it goes as far
  terms_at : (s s' : ℕ) → s ≡ s' → {a a' : List Float} → Mats n σ a a' → (taylor (scaled a s) n).terms ≡ (taylor (scaled a' s') n).terms
  unfolding taylor scaled
  terms_at s s' e {a} {a'} A =
      subst (λ (z : ℕ). (taylor (scaled a s) n).terms ≡ (taylor (scaled a' z) n).terms) e (series_m 128 1 (div_all_m (power s) A) identity_m identity_m).terms

  pub reach_m : {a a' : List Float} → Mats n σ a a' → reach a n ≡ reach a' n
  unfolding reach exponential
  reach_m A = let s = ap squarings (norm_m A) in rw (admitted_m A, terms_at _ _ s A, s)

-- ---- actions
pub record Actions (n : ℕ) (σ : ℕ → Bool) (p q : Tried) : Type 0 where
  pub tallies : p.tally ≡ q.tally
  pub vs : Vecs n σ p.v q.v

checked_m : {n : ℕ} {σ : ℕ → Bool} (r r' : Option Reach) {x x' : List Float} → r ≡ r' → Vecs n σ x x' → Actions n σ (checked r x) (checked r' x')
unfolding checked
checked_m {n} {σ} r r' {x} {x'} e p = subst (λ (t : Option Reach). Actions n σ (checked r x) (checked t x')) e (record { tallies = refl; vs = go (is_some r) })
  where
    go : (c : Bool) → Vecs n σ (cond c x zeros) (cond c x' zeros)
    go true = p
    go false = zeros_m

-- σ below n, and no sign turned past it
ext : ℕ → (ℕ → Bool) → ℕ → Bool
ext n σ i = cond (ltb i n) (σ i) false

ext_below : (n : ℕ) (σ : ℕ → Bool) (i : ℕ) → i < n → ext n σ i ≡ σ i
unfolding ext
ext_below n σ i h = rw (lt-ltb i n h)

ext_past : (n : ℕ) (σ : ℕ → Bool) (i : ℕ) → n ≤ i → ext n σ i ≡ false
unfolding ext
ext_past n σ i h = rw (le-ltb i n h)

module _ {n : ℕ} {σ : ℕ → Bool} where
  augmented_m : {a a' x x' : List Float} (c : Float) (order : ℕ) → Mats n σ a a' → Vecs n σ x x' → Mats (n + order) (ext n σ) (augmented n a c order x) (augmented n a' c order x')
  unfolding augmented augmented_entry ext
  augmented_m {a} {a'} {x} {x'} c order A X = mat_m (n + order) (ext n σ) _ _ (λ i j h k. go i j (ltb i n) (ltb j n) (ltb→lt i n) (nltb→le i n) (ltb→lt j n))
    where
      ones : (i j : ℕ) (b : Bool) → (T b → j ≡ i + 1) → n ≤ i → j < n → Mirror (unlike false (σ j)) (cond b one zero+) (cond b one zero+)
      ones i j true e g h = absurd (bad (e tt) g h)
        where
          bad : j ≡ i + 1 → n ≤ i → j < n → ⊥
          bad e g h = omega arith
      ones i j false e g h = zero_m _

      column : (i : ℕ) (b : Bool) → i < n → Mirror (σ i) (cond b (x ! i) zero+) (cond b (x' ! i) zero+)
      column i true h = X.below i h
      column i false h = zero_m _

      go : (i j : ℕ) (b d : Bool) → (T b → i < n) → (T (not b) → n ≤ i) → (T d → j < n)
          → Mirror (unlike (cond b (σ i) false) (cond d (σ j) false))
          (cond b (cond d (c ⊗ at a n i j) (cond (eqb j n) (x ! i) zero+)) (cond (eqb j (i + 1)) one zero+))
          (cond b (cond d (c ⊗ at a' n i j) (cond (eqb j n) (x' ! i) zero+)) (cond (eqb j (i + 1)) one zero+))
      go i j true true f g h = mul_same c (cell A i j (h tt))
      go i j true false f g h = m_sign (sym (unlike_false (σ i))) (column i (eqb j n) (f tt))
      go i j false true f g h = ones i j (eqb j (i + 1)) (eqb→eq j (i + 1)) (g tt) (h tt)
      go i j false false f g h = m_refl _

  pub phi_action_m : {a a' x x' : List Float} (c : Float) (order : ℕ) → 0 < order → Mats n σ a a' → Vecs n σ x x' → Actions n σ (phi_action n a c order x) (phi_action n a' c order x')
  unfolding phi_action
  phi_action_m {a} {a'} {x} {x'} c order o A X =
      let M = augmented_m c order A X in
      let l : n + order - 1 < n + order = omega arith in
      let g : n ≤ n + order - 1 = omega arith in
      checked_m _ _ (reach_m M)
      (vec_m n σ _ _ (λ i h. m_sign (ap₂ unlike (ext_below n σ i h) (ext_past n σ (n + order - 1) g) ∙ unlike_false (σ i)) (cell (exp_m M) i (n + order - 1) l)))

  pub over_m : {f f' : List Float → List Float} {p p' : Tried} → Actions n σ p p' → ((x x' : List Float) → Vecs n σ x x' → Vecs n σ (f x) (f' x')) → Actions n σ (over f p) (over f' p')
  unfolding over
  over_m {p = p} {p' = p'} P F = record { tallies = P.tallies; vs = F p.v p'.v P.vs }

  pub phi_term_m : {a a' x x' : List Float} (c : Float) (order : ℕ) (k : Float) → 0 < order → Mats n σ a a' → Vecs n σ x x' → Actions n σ (phi_term n a c order k x) (phi_term n a' c order k x')
  unfolding phi_term
  phi_term_m c order k o A X = over_m (phi_action_m c order o A X) (λ v v' p. scale_m k p)

  pub exp_action_m : {a a' x x' : List Float} (c : Float) → Mats n σ a a' → Vecs n σ x x' → Actions n σ (exp_action n a c x) (exp_action n a' c x')
  unfolding exp_action
  exp_action_m c A X =
      let M = mat_m n σ _ _ (λ i j h k. mul_same c (cell A i j k)) in
      checked_m _ _ (reach_m M) (mat_vec_m (exp_m M) X)
