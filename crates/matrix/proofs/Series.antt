-- One term divided and added, and the loop that adds terms until one is small. Assumes nothing.
use Rattle.std.proofs.Common.{ℕ, zero, suc, ◌+◌, ◌-◌, ◌≤◌, ◌≡◌, refl, sym, ap, ◌∙◌, Bool, true, false, List, arith, length, Float}
use Rattle.std.proofs.Math.Numerals.{add-one}
use Rattle.std.proofs.Math.Nat.{le_refl, le_trans}
use Rattle.std.specs.Float.Ieee.{binary64, le, of_int}
use Rattle.std.proofs.Math.IntN.{pos}
use Rattle.std.proofs.Math.ListN.{set}
use Rattle.loops.specs.Loop.{iter, stores, tab, ◌!◌}
use Rattle.loops.proofs.Loops.{tab_at, stores_step0}
use Rattle.loops.proofs.Stores.{tab_ext, run_all, ahead}
use Rattle.float.specs.Arith.{◌⊕◌, ◌⊗◌, ◌⊘◌, one, two}
use Rattle.matrix.specs.Matrix.{identity, mat_mul, div_all, add_all, max_abs, next_term, term_at, small, series, taylor, scaled, squared}
use Rattle.matrix.specs.Calls.{inverse_power, Mapped, Added, Turned, Summed, Calm, Ready, Worked}
use Rattle.matrix.specs.Claims.{terms_added}
use Rattle.matrix.proofs.Powers.{by_power}

-- ---- a term made anew and added
module _ (f : Float → Float) (t₀ s₀ t s : List Float) (p : ℕ) (et : t ≡ stores (λ q x. f x) 0 p t₀) (es : s ≡ stores (λ q x. x ⊕ f (t₀ ! q)) 0 p s₀) where
  pub term_step : (y : Float) → y ≡ f (t ! p) → set t p y ≡ stores (λ q x. f x) 0 (p + 1) t₀
  term_step y e = rw e (stores_step0 (λ q x. f x) p t₀ t et)

  pub sum_step : (y : Float) → y ≡ f (t ! p) → set s p (s ! p ⊕ y) ≡ stores (λ q x. x ⊕ f (t₀ ! q)) 0 (p + 1) s₀
  sum_step y e = rw (e, ahead (λ q x. f x) p t₀ t et) (stores_step0 (λ q x. x ⊕ f (t₀ ! q)) p s₀ s es)

  pub mapped : p ≡ length t₀ → length s₀ ≡ length t₀ → Mapped t₀ s₀ f t s
  unfolding add_all
  mapped h l =
      let t' : t ≡ tab (length t₀) (λ q. f (t₀ ! q)) = run_all (λ q x. f x) t₀ t p et h in
      let s' : s ≡ tab (length s₀) (λ q. s₀ ! q ⊕ f (t₀ ! q)) = run_all (λ q x. x ⊕ f (t₀ ! q)) s₀ s p es (omega arith) in
      record { made = t'; added = s' ∙ tab_ext (length s₀) _ _ (λ q k. ap (λ z. s₀ ! q ⊕ z) (sym (rw t' (tab_at (length t₀) _ q (omega arith))))) }

-- divided by d
pub divided : (t s x y : List Float) (d : Float) (r : Bool) → Mapped t s (λ z. z ⊘ d) x y → r ≡ small x y → Added t s d x y r
unfolding div_all
divided t s x y d r m e = record { divided = m.made; added = m.added; last = e }

pub divided_low : (t s x y : List Float) (d : Float) → Mapped t s (λ z. z ⊘ d) x y → le (max_abs one (add_all s (div_all t d))) two ≡ true → le (max_abs one y) two ≡ true
unfolding div_all
divided_low t s x y d m h = rw (m.added, m.made) h

pub product_low : (a s t x : List Float) (k n : ℕ) → x ≡ mat_mul t a n → le (max_abs one (add_all s (next_term t a n k))) two ≡ true
    → le (max_abs one (add_all s (div_all x (of_int binary64 (pos k))))) two ≡ true
unfolding next_term
product_low a s t x k n e h = rw e h

pub turned : (a s t x y z : List Float) (k n : ℕ) (b : Bool) → x ≡ mat_mul t a n → Added x s (of_int binary64 (pos k)) y z b → Turned a s t k n y z b
unfolding next_term
turned a s t x y z k n b u v = record { term = rw u at v.divided; added = v.added; last = v.last }

-- ---- the series
pub series_stop : (d : ℕ) (a : List Float) (n : ℕ) (t r : List Float) (k : ℕ) → small (next_term t a n k) (add_all r (next_term t a n k)) ≡ true
    → series (suc d) a n t r k ≡ record { sum = add_all r (next_term t a n k); terms = k }
unfolding series
series_stop d a n t r k h = rw (h, series)

pub series_go : (d : ℕ) (a : List Float) (n : ℕ) (t r : List Float) (k : ℕ) → small (next_term t a n k) (add_all r (next_term t a n k)) ≡ false
    → series (suc d) a n t r k ≡ series d a n (next_term t a n k) (add_all r (next_term t a n k)) (suc k)
unfolding series
series_go d a n t r k h = rw (h, series)

-- the series counts from k on
series-from : (d : ℕ) (a : List Float) (n : ℕ) (t r : List Float) (k : ℕ) → k ≤ (series d a n t r k).terms
series-from zero a n t r k = unfold series in le_refl k
series-from (suc d) a n t r k = go (small t' r') refl (series-from d a n t' r' (suc k))
  where
    t' : List Float
    t' = next_term t a n k

    r' : List Float
    r' = add_all r t'

    go : (b : Bool) → small t' r' ≡ b → suc k ≤ (series d a n t' r' (suc k)).terms → k ≤ (series (suc d) a n t r k).terms
    go true e h = rw (series_stop d a n t r k e) (le_refl k)
    go false e h = rw (series_go d a n t r k e) (omega arith)

-- what is left of the series is the whole: t is the term before the k-th, r the sum up to it
pub record Left (a : List Float) (n : ℕ) (t r : List Float) (k : ℕ) : Type 0 where
  pub some : 1 ≤ k
  pub term : t ≡ term_at a n (k - 1)
  pub sum : r ≡ terms_added a n (k - 1)
  pub rest : series (129 - k) a n t r k ≡ taylor a n

pub left_all : (a : List Float) (n : ℕ) → Left a n (identity n) (identity n) 1
unfolding taylor term_at terms_added iter
left_all a n = record { some = omega arith; term = refl; sum = refl; rest = refl }

pub left_bound : {a : List Float} {n : ℕ} {t r : List Float} {k : ℕ} → Left a n t r k → (taylor a n).terms ≤ 15 → k ≤ 15
left_bound {a} {n} {t} {r} {k} e h = le_trans (rw e.rest at (series-from (129 - k) a n t r k)) h

-- one term more
pub next_is : (a : List Float) (n k : ℕ) → next_term (term_at a n k) a n (suc k) ≡ term_at a n (suc k)
unfolding term_at
next_is a n k = refl

pub added_step : (a : List Float) (n k : ℕ) → add_all (terms_added a n k) (term_at a n (suc k)) ≡ terms_added a n (suc k)
unfolding terms_added iter
added_step a n k = refl

module _ {a : List Float} {n : ℕ} {t r : List Float} {k : ℕ} (calm : Calm a n) (e : Left a n t r k) where
  before : suc (k - 1) ≡ k
  before = omega (arith, e.some)

  term_next : next_term t a n k ≡ term_at a n k
  term_next = rw e.term (rw before at (next_is a n (k - 1)))

  sum_next : add_all r (next_term t a n k) ≡ terms_added a n k
  sum_next = rw (e.sum, term_next) (rw before at (added_step a n (k - 1)))

  -- the sum with the next term has no entry above 2
  pub left_low : le (max_abs one (add_all r (next_term t a n k))) two ≡ true
  left_low = rw sum_next (calm.low k (left_bound e calm.stops))

  module _ (y s : List Float) (b : Bool) (u : Turned a r t k n y s b) where
    sum_is : s ≡ add_all r (next_term t a n k)
    sum_is = rw u.term at u.added

    test_is : b ≡ small (next_term t a n k) (add_all r (next_term t a n k))
    test_is = u.last ∙ rw (sum_is, u.term)

    more : 129 - k ≡ suc (129 - (k + 1))
    more = let l : k ≤ 15 = left_bound e calm.stops in omega arith

    pub left_step : b ≡ false → Left a n y s (k + 1)
    left_step f =
        let same : k + 1 - 1 ≡ k = omega arith in
        record {
          some = omega arith;
          term = rw (same, ← term_next) u.term;
          sum = rw (same, ← sum_next) sum_is;
          rest = rw (sum_is, u.term, add-one) (sym (series_go (129 - suc k) a n t r k (sym test_is ∙ f)) ∙ rw (more, add-one) at e.rest);
        }

    pub left_stop : b ≡ true → Summed a n s k
    left_stop f =
        let j : record { sum = add_all r (next_term t a n k); terms = k } ≡ taylor a n = sym (series_stop (129 - (k + 1)) a n t r k (sym test_is ∙ f)) ∙ rw more at e.rest in
        record { whole = sum_is ∙ ap (λ z. z.sum) j; number = ap (λ z. z.terms) j }

pub left-two : {a : List Float} {n : ℕ} {t r : List Float} (k : ℕ) → Left a n t r (k + 1 + 1) → Left a n t r (k + 2)
left-two k e = let s : k + 1 + 1 ≡ k + 2 = omega arith in rw s at e

-- ---- the five steps together
pub scaled_is : (m a : List Float) (c : ℕ) (f : Float) → f ≡ inverse_power c → a ≡ tab (length m) (λ p. m ! p ⊗ f) → a ≡ scaled m c
unfolding scaled div_all
scaled_is m a c f h e = e ∙ tab_ext (length m) _ _ (λ p _. rw (h, by_power))

pub still_calm : {m o : List Float} {n c : ℕ} (a : List Float) → Ready m o n c → a ≡ scaled m c → Calm a n
still_calm a r e = rw e r.calm

pub worked : (m a y : List Float) (c n t : ℕ) → a ≡ scaled m c → t ≡ (taylor a n).terms → y ≡ squared c (taylor a n).sum n → Worked m n c a y t
worked m a y c n t e u v = record { divided = e; output = rw (← e) v; number = rw (← e) u }
