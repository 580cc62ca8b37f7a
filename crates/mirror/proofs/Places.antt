-- Two lists of numbers, place by place: mirrored where in use, equal elsewhere. Assumes nothing.
use Rattle.std.proofs.Common.{ℕ, ◌+◌, ◌*◌, ◌/◌, ◌%◌, ◌≤◌, ◌<◌, le_trans, arith, ◌≡◌, refl, sym, ap, ap₂, ◌∙◌, subst, subst₂, ◌≢◌, Bool, true, false, ◌&&◌, ◌||◌, List, [], ltb, Float, length, replicate, take, length-take, get_or-take, lt-ltb, le-ltb, ltb-true, ltb-false}
use Rattle.std.proofs.Math.Nat.{min-le_left}
use Rattle.std.proofs.Math.Decide.{ℕ_discrete, dec_lt}
use Rattle.std.specs.Float.Ieee.{nan}
use Rattle.loops.specs.Loop.{every, tab, stores, ◌!◌}
use Rattle.loops.proofs.Loops.{every_ext, past_end, length-tab, tab_at}
use Rattle.loops.proofs.Stores.{length-stores}
use Rattle.loops.proofs.Places.{slot_row, slot_column}
use Rattle.float.specs.Arith.{zero+, finite, plus_zero}
use Rattle.evaluation.specs.Evaluation.{all_finite}
use Rattle.methods.specs.Pass.{answer}
use Rattle.session.specs.Session.{clear, clear_answers}
use Rattle.session.proofs.Clear.{stored_at, other_at}
use Rattle.mirror.specs.Mirror.{within}
use Rattle.mirror.proofs.Floats.{Mirror, m_nan, finite_m}
use Rattle.mirror.proofs.Vectors.{Vecs, Mats, cross, m_sign, blank_at, vec_m}

abbrev pub At : Bool → Bool → Float → Float → Type 0
At true s x y = Mirror s x y
At false s x y = x ≡ y

pub record Placed (used sign : ℕ → Bool) (x y : List Float) : Type 0 where
  pub size : length x ≡ length y
  pub at : (p : ℕ) → At (used p) (sign p) (x ! p) (y ! p)

pub at_nan : (b s : Bool) → At b s nan nan
at_nan true s = m_nan
at_nan false s = refl

at_same : (b s : Bool) (x : Float) → Mirror s x x → At b s x x
at_same true s x p = p
at_same false s x p = refl

at_finite : (b s : Bool) (x y : Float) → At b s x y → finite x ≡ finite y
at_finite true s x y p = finite_m p
at_finite false s x y p = ap finite p

at_clear : (b s : Bool) (x y : Float) → At b s x y → (b || plus_zero x) ≡ (b || plus_zero y)
at_clear true s x y p = refl
at_clear false s x y p = ap plus_zero p

-- the same places in use, said in another way
pub in_use_lem : {used used' sign : ℕ → Bool} {x y : List Float} → ((p : ℕ) → used p ≡ used' p) → Placed used sign x y → Placed used' sign x y
in_use_lem {sign = sign} {x = x} {y = y} e P = record { size = P.size; at = λ p. subst (λ (b : Bool). At b (sign p) (x ! p) (y ! p)) (e p) (P.at p) }

pub nil_m : (used sign : ℕ → Bool) → Placed used sign [] []
nil_m used sign = record { size = refl; at = λ p. at_nan (used p) (sign p) }

pub blank_m : (used sign : ℕ → Bool) (m : ℕ) → Placed used sign (replicate m zero+) (replicate m zero+)
blank_m used sign m = record { size = refl; at = λ p. at_same (used p) (sign p) _ (blank_at m (sign p) p) }

-- ---- what the tests see
pub finite_p : {used sign : ℕ → Bool} {x y : List Float} → Placed used sign x y → all_finite x ≡ all_finite y
unfolding all_finite
finite_p {used} {sign} {x} {y} P =
    every_ext (length x) _ _ (λ p h. at_finite (used p) (sign p) _ _ (P.at p)) ∙ ap (λ (k : ℕ). every k (λ p. finite (y ! p))) P.size

every-clear : {used sign : ℕ → Bool} {x y : List Float} → Placed used sign x y → every (length x) (λ p. used p || plus_zero (x ! p)) ≡ every (length y) (λ p. used p || plus_zero (y ! p))
every-clear {used} {sign} {x} {y} P =
    every_ext (length x) _ _ (λ p h. at_clear (used p) (sign p) _ _ (P.at p)) ∙ ap (λ (k : ℕ). every k (λ p. used p || plus_zero (y ! p))) P.size

pub clear_p : {sign : ℕ → Bool} {x y : List Float} (k : ℕ) → Placed (within k) sign x y → clear k x ≡ clear k y
unfolding clear
clear_p k P = every-clear P

-- the places of `count` answers, and their signs
abbrev pub slots : ℕ → ℕ → ℕ → Bool
slots count n p = ltb (p / 16) count && ltb (p % 16) n

abbrev pub slot : (ℕ → Bool) → ℕ → Bool
slot σ p = σ (p % 16)

pub clear-answers : {sign : ℕ → Bool} {x y : List Float} (c n : ℕ) → Placed (slots c n) sign x y → clear_answers c n x ≡ clear_answers c n y
unfolding clear_answers
clear-answers c n P = every-clear P

-- ---- vectors
module _ {n : ℕ} {σ : ℕ → Bool} {x y : List Float} where
  pub vecs : Placed (within n) σ x y → Vecs n σ x y
  vecs P = record {
    size = P.size;
    below = λ i h. subst (λ (b : Bool). At b (σ i) (x ! i) (y ! i)) (lt-ltb i n h) (P.at i);
    past = λ i h. subst (λ (b : Bool). At b (σ i) (x ! i) (y ! i)) (le-ltb i n h) (P.at i);
  }

  pub placed : Vecs n σ x y → Placed (within n) σ x y
  placed X = record { size = X.size; at = λ i. go i (ltb i n) (ltb-true i n) (ltb-false i n) }
    where
      go : (i : ℕ) (b : Bool) → (b ≡ true → i < n) → (b ≡ false → n ≤ i) → At b (σ i) (x ! i) (y ! i)
      go i true f g = X.below i (f refl)
      go i false f g = X.past i (g refl)

  -- the first n places, as a call writes them
  pub written_m : Vecs n σ x y → Placed (within n) σ (tab n (λ i. x ! i)) (tab n (λ i. y ! i))
  written_m X = record { size = rw (length-tab n (λ i. x ! i), length-tab n (λ i. y ! i)) refl; at = λ i. go i (ltb i n) (ltb-true i n) (ltb-false i n) }
    where
      go : (i : ℕ) (b : Bool) → (b ≡ true → i < n) → (b ≡ false → n ≤ i) → At b (σ i) (tab n (λ i. x ! i) ! i) (tab n (λ i. y ! i) ! i)
      go i true f g = let h : i < n = f refl in rw (tab_at n (λ i. x ! i) i h, tab_at n (λ i. y ! i) i h) (X.below i h)
      go i false f g =
          let h : n ≤ i = g refl in
          let a : length (tab n (λ i. x ! i)) ≤ i = rw length-tab h in
          let b : length (tab n (λ i. y ! i)) ≤ i = rw length-tab h in
          past_end (tab n (λ i. x ! i)) i a ∙ sym (past_end (tab n (λ i. y ! i)) i b)

-- ---- a Jacobian
pub mats : {n : ℕ} {σ : ℕ → Bool} {x y : List Float} → Placed (within (n * n)) (cross n σ) x y → Mats n σ (take (n * n) x) (take (n * n) y)
mats {n} {σ} {x} {y} P = record { size = rw (length-take (n * n) x, length-take (n * n) y, P.size) refl; place = λ p. go p (dec_lt p (n * n)) }
  where
    short : (z : List Float) (p : ℕ) → n * n ≤ p → take (n * n) z ! p ≡ nan
    short z p h = past_end (take (n * n) z) p (rw length-take (le_trans (min-le_left (n * n) (length z)) h))

    go : (p : ℕ) → Dec (p < n * n) → Mirror (cross n σ p) (take (n * n) x ! p) (take (n * n) y ! p)
    go p (yes h) = rw (get_or-take (n * n) x p nan h, get_or-take (n * n) y p nan h) (subst (λ (b : Bool). At b (cross n σ p) (x ! p) (y ! p)) (lt-ltb p (n * n) h) (P.at p))
    go p (no h) = rw (short x p (omega arith), short y p (omega arith)) m_nan

-- ---- the answers
pub answer_m : {n : ℕ} {σ : ℕ → Bool} {x y : List Float} (c : ℕ) → n ≤ 16 → Placed (slots c n) (slot σ) x y → (j : ℕ) → j < c → Vecs n σ (answer n x j) (answer n y j)
unfolding answer
answer_m {n} {σ} {x} {y} c N P j h = vec_m n σ _ _ (λ i l. go i l (omega arith))
  where
    go : (i : ℕ) → i < n → i < 16 → Mirror (σ i) (x ! (16 * j + i)) (y ! (16 * j + i))
    go i l m =
        let p = 16 * j + i in
        let u : slots c n p ≡ true = ap₂ (λ (a b : ℕ). ltb a c && ltb b n) (slot_row 16 j i m) (slot_column 16 j i m) ∙ ap₂ ◌&&◌ (lt-ltb j c h) (lt-ltb i n l) in
        m_sign (ap σ (slot_column 16 j i m)) (subst (λ (b : Bool). At b (slot σ p) (x ! p) (y ! p)) u (P.at p))

-- what stands at a place of an answer that was stored
same_below : (a c : ℕ) → a ≢ c → ltb a c ≡ ltb a (c + 1)
same_below a c ne = go (dec_lt a c)
  where
    go : Dec (a < c) → ltb a c ≡ ltb a (c + 1)
    go (yes h) = lt-ltb a c h ∙ sym (lt-ltb a (c + 1) (omega arith))
    go (no h) = le-ltb a c (omega arith) ∙ sym (le-ltb a (c + 1) (omega arith))

-- one answer more
pub store_m : (n : ℕ) (σ : ℕ → Bool) (c : ℕ) {r r' x x' : List Float} → Placed (slots c n) (slot σ) r r' → Placed (within n) σ x x'
    → Placed (slots (c + 1) n) (slot σ) (stores (λ i _. x ! i) (16 * c) 16 r) (stores (λ i _. x' ! i) (16 * c) 16 r')
store_m n σ c {r} {r'} {x} {x'} R X = record { size = length-stores _ (16 * c) 16 r ∙ R.size ∙ sym (length-stores _ (16 * c) 16 r'); at = λ p. go p (ℕ_discrete (p / 16) c) (dec_lt p (length r)) }
  where
    past : (y s : List Float) (p : ℕ) → length s ≤ p → stores (λ i _. y ! i) (16 * c) 16 s ! p ≡ nan
    past y s p h = past_end (stores (λ i _. y ! i) (16 * c) 16 s) p (rw (length-stores (λ i _. y ! i) (16 * c) 16 s) h)

    go : (p : ℕ) → Dec (p / 16 ≡ c) → Dec (p < length r) → At (slots (c + 1) n p) (slot σ p) (stores (λ i _. x ! i) (16 * c) 16 r ! p) (stores (λ i _. x' ! i) (16 * c) 16 r' ! p)
    go p (no ne) d =
        subst₂ (λ (a b : Float). At (slots (c + 1) n p) (slot σ p) a b) (sym (other_at x r c p ne)) (sym (other_at x' r' c p ne))
        (subst (λ (b : Bool). At (b && ltb (p % 16) n) (slot σ p) (r ! p) (r' ! p)) (same_below (p / 16) c ne) (R.at p))
    go p (yes e) (yes h) =
        let h' : p < length r' = omega (arith, R.size) in
        let l : p / 16 < c + 1 = omega arith in
        subst₂ (λ (a b : Float). At (slots (c + 1) n p) (slot σ p) a b) (sym (stored_at x r c p e h)) (sym (stored_at x' r' c p e h'))
        (subst (λ (b : Bool). At (b && ltb (p % 16) n) (slot σ p) (x ! (p % 16)) (x' ! (p % 16))) (sym (lt-ltb (p / 16) (c + 1) l)) (X.at (p % 16)))
    go p (yes e) (no h) =
        let k : length r ≤ p = omega arith in
        let k' : length r' ≤ p = omega (arith, R.size) in
        subst₂ (λ (a b : Float). At (slots (c + 1) n p) (slot σ p) a b) (sym (past x r p k)) (sym (past x' r' p k')) (at_nan (slots (c + 1) n p) (slot σ p))
