-- Places that are +0.0 and lists of finite numbers: of nothing, of a vector, and after one answer more. Assumes nothing.
use Rattle.std.proofs.Common.{ℕ, zero, suc, ◌+◌, ◌*◌, ◌/◌, ◌%◌, ◌<◌, arith, ◌≡◌, refl, sym, ap, ◌∙◌, ◌≢◌, Bool, true, false, ◌||◌, List, T, ltb, ℤ, Float, length, replicate, ext_get_or, lt-ltb, ltb-true, eq-eqb, eqb-true}
use Rattle.std.proofs.Math.Decide.{dec_lt, ℕ_discrete}
use Rattle.std.proofs.Math.Bool.{or-true, false≢true}
use lib.Count.{count_trailing_zeros}
use Rattle.std.specs.Float.Ieee.{nan, inf, fin, binary64, eq, fits, up, down, odd, of_bits, of_fields}
use Rattle.std.proofs.Math.ListN.{length-replicate, get_or-replicate}
use Rattle.loops.proofs.Bools.{both_true}
use Rattle.loops.specs.Loop.{stores, ◌!◌}
use Rattle.loops.proofs.Loops.{every_at, every_of}
use Rattle.loops.proofs.Stores.{length-stores, stores_in, stores_out}
use Rattle.float.specs.Arith.{zero+, finite, plus_zero, abs}
use Rattle.float.proofs.Floats.{abs-zero}
use Rattle.evaluation.specs.Evaluation.{all_finite}
use Rattle.engine.proofs.Differences.{zero-finite}
use Rattle.methods.specs.Shape.{Vector}
use Rattle.session.specs.Session.{clear, in_answers, clear_answers}
use Rattle.session.specs.Claims.{Doubles}

-- ---- +0.0
pub zero_plus : plus_zero zero+ ≡ true
unfolding plus_zero of_bits
zero_plus = refl

-- ---- lists that hold nothing
pub clear-zeros : (used k : ℕ) → clear used (replicate k zero+) ≡ true
unfolding clear
clear-zeros used k =
    every_of (length (replicate k zero+)) _ (λ i l.
    let h : i < k = omega (arith, length-replicate k zero+) in
    rw (get_or-replicate k i zero+ nan h, zero_plus) (or-true (ltb i used)))

pub clear-answers-zeros : (count n k : ℕ) → clear_answers count n (replicate k zero+) ≡ true
unfolding clear_answers
clear-answers-zeros count n k =
    every_of (length (replicate k zero+)) _ (λ i l.
    let h : i < k = omega (arith, length-replicate k zero+) in
    rw (get_or-replicate k i zero+ nan h, zero_plus) (or-true (in_answers count n i)))

pub finite-zeros : (k : ℕ) → all_finite (replicate k zero+) ≡ true
unfolding all_finite
finite-zeros k =
    every_of (length (replicate k zero+)) _ (λ i l.
    let h : i < k = omega (arith, length-replicate k zero+) in
    rw (get_or-replicate k i zero+ nan h) zero-finite)

-- ---- a vector is clear past n
pub vector_clear : {n : ℕ} {x : List Float} → Vector n x → clear n x ≡ true
unfolding clear
vector_clear {n} {x} v = every_of (length x) _ (λ i l. go i (omega (arith, v.places)) (dec_lt i n))
  where
    go : (i : ℕ) → i < 16 → Dec (i < n) → (ltb i n || plus_zero (x ! i)) ≡ true
    go i l (yes h) = rw (lt-ltb i n h)
    go i l (no h) = rw (v.clear i (omega arith) l, zero_plus) (or-true (ltb i n))

-- ---- one answer more
pub stored_at : (x r : List Float) (c p : ℕ) → p / 16 ≡ c → p < length r → stores (λ i _. x ! i) (16 * c) 16 r ! p ≡ x ! (p % 16)
stored_at x r c p e h =
    let q : 16 * c + p % 16 ≡ p = omega arith in
    let l : 16 * c + p % 16 < length r = omega arith in
    ap (λ (k : ℕ). stores (λ i _. x ! i) (16 * c) 16 r ! k) (sym q) ∙ stores_in (λ i _. x ! i) (16 * c) 16 r (p % 16) (omega arith) l

pub other_at : (x r : List Float) (c p : ℕ) → p / 16 ≢ c → stores (λ i _. x ! i) (16 * c) 16 r ! p ≡ r ! p
other_at x r c p ne = stores_out (λ i _. x ! i) (16 * c) 16 r p (λ j l. omega arith)

module _ (n count : ℕ) (x r : List Float) (sixteen : length x ≡ 16) where
  pub clear-answered : clear n x ≡ true → clear_answers count n r ≡ true → clear_answers (count + 1) n (stores (λ i _. x ! i) (16 * count) 16 r) ≡ true
  unfolding clear_answers clear
  clear-answered cx cr =
      every_of (length (stores (λ i _. x ! i) (16 * count) 16 r)) _ (λ p l. go p (rw (length-stores (λ i _. x ! i) (16 * count) 16 r) at l) (ℕ_discrete (p / 16) count))
    where
      -- a place with nothing in it stays so
      past : (a b z : Bool) → (a ≡ true → b ≡ true) → (a || z) ≡ true → (b || z) ≡ true
      past true b z f e = rw (f refl)
      past false b z f e = rw e (or-true b)

      wider : (p : ℕ) → in_answers count n p ≡ true → in_answers (count + 1) n p ≡ true
      wider p e =
          let q = both_true (ltb (p / 16) count) (ltb (p % 16) n) e in
          rw (lt-ltb (p / 16) (count + 1) (omega (arith, ltb-true (p / 16) count q.0)), q.1)

      new : (p : ℕ) → p / 16 ≡ count → ltb (p % 16) n ≡ true → in_answers (count + 1) n p ≡ true
      new p e q = rw (lt-ltb (p / 16) (count + 1) (omega arith), q)

      go : (p : ℕ) → p < length r → Dec (p / 16 ≡ count) → (in_answers (count + 1) n p || plus_zero (stores (λ i _. x ! i) (16 * count) 16 r ! p)) ≡ true
      go p l (yes e) =
          rw (stored_at x r count p e l)
          (past (ltb (p % 16) n) _ _ (new p e) (every_at (length x) _ cx (p % 16) (omega (arith, sixteen))))
      go p l (no ne) = rw (other_at x r count p ne) (past (in_answers count n p) _ _ (wider p) (every_at (length r) _ cr p l))

  pub finite-answered : all_finite x ≡ true → all_finite r ≡ true → all_finite (stores (λ i _. x ! i) (16 * count) 16 r) ≡ true
  unfolding all_finite
  finite-answered fx fr =
      every_of (length (stores (λ i _. x ! i) (16 * count) 16 r)) _ (λ p l. go p (rw (length-stores (λ i _. x ! i) (16 * count) 16 r) at l) (ℕ_discrete (p / 16) count))
    where
      go : (p : ℕ) → p < length r → Dec (p / 16 ≡ count) → finite (stores (λ i _. x ! i) (16 * count) 16 r ! p) ≡ true
      go p l (yes e) = rw (stored_at x r count p e l) (every_at (length x) _ fx (p % 16) (omega (arith, sixteen)))
      go p l (no ne) = rw (other_at x r count p ne) (every_at (length r) _ fr p l)

-- ---- a double that is +0.0 by the test is +0.0
is_true : (t : Bool) → T t → t ≡ true
is_true true h = refl
is_true false h = absurd h

zero_equal : (x : ℤ) → eq (fin false zero x) zero+ ≡ true
unfolding eq of_bits of_fields odd count_trailing_zeros
zero_equal x = rw (eq-eqb (0 * up x * 1) (0 * down x) (omega arith))

pub plus_zero_is : (x : Float) → T (fits binary64 x) → plus_zero x ≡ true → x ≡ zero+
plus_zero_is nan f e = absurd (false≢true (unfold plus_zero in e))
plus_zero_is (inf s) f e = absurd (false≢true (unfold plus_zero in e))
plus_zero_is (fin true m x) f e = absurd (false≢true (unfold plus_zero in e))
plus_zero_is (fin false zero x) f e = sym (unfold abs in abs-zero (fin false zero x) (is_true (fits binary64 (fin false zero x)) f) (zero_equal x))
plus_zero_is (fin false (suc m) x) f e = absurd (omega (arith, eqb-true (suc m) 0 (unfold plus_zero in e)))

-- a list of doubles that holds nothing is all +0.0
pub nothing_in : (k : ℕ) (x : List Float) → Doubles k x → ((i : ℕ) → i < k → plus_zero (x ! i) ≡ true) → x ≡ replicate k zero+
nothing_in k x d h =
    ext_get_or nan x (replicate k zero+) (d.places ∙ sym (length-replicate k zero+)) (λ i l.
    let j : i < k = omega (arith, d.places) in
    plus_zero_is (x ! i) (d.fit i) (h i j) ∙ sym (get_or-replicate k i zero+ nan j))
