-- The order of doubles that are no NaN, and what is never a NaN. Assumes nothing.
use Rattle.std.proofs.Common.{ℕ, zero, suc, ◌+◌, ◌*◌, ◌<◌, ◌≤◌, ◌≡◌, refl, sym, Bool, true, false, cond, ◌&&◌, ◌||◌, true≢false, arith, eqb, ltb, Float, ltb-true, ltb-false, lt-ltb, eqb-true, eq-eqb}
use Rattle.std.proofs.Math.Bool.{beq, false≢true}
use Rattle.std.proofs.Math.Decide.{dec_lt}
use Rattle.std.specs.Float.Ieee.{nan, inf, fin, up, down, below, level, lt, eq, le, is_nan, of_bits, of_fields, odd}
use Rattle.loops.proofs.Bools.{both_true, and_both, or_second, or_case}
use Rattle.float.specs.Arith.{zero+, one, epsilon, larger, most}

-- ---- numbers with a sign
-- a and b with one sign, the first not below the second
same_sign : (a b : ℕ) → ltb a b ≡ false → (ltb b a || (eqb b a && (true || eqb b 0))) ≡ true
same_sign a b h = go (dec_lt b a)
  where
    go : Dec (b < a) → (ltb b a || (eqb b a && true)) ≡ true
    go (yes l) = rw (lt-ltb b a l)
    go (no l) = let k : b ≤ a = ltb-false a b h in or_second (ltb b a) _ (and_both (eqb b a) true (eq-eqb b a (omega arith)) refl)

-- two zeros, whatever their signs
both_zero : (s : Bool) (a b : ℕ) → a ≡ 0 → b ≡ 0 → (eqb a b && (s || eqb a 0)) ≡ true
both_zero s a b h k = and_both (eqb a b) (s || eqb a 0) (eq-eqb a b (omega arith)) (or_second s (eqb a 0) (eq-eqb a 0 h))

-- what is not below another is above it or level with it
below_level : (s t : Bool) (a b : ℕ) → below s a t b ≡ false → (below t b s a || level t b s a) ≡ true
below_level false false a b h = same_sign a b h
below_level false true a b h = go (dec_lt 0 (b + a))
  where
    go : Dec (0 < b + a) → (ltb 0 (b + a) || (eqb b a && (false || eqb b 0))) ≡ true
    go (yes l) = rw (lt-ltb 0 (b + a) l)
    go (no l) = or_second (ltb 0 (b + a)) _ (both_zero false b a (omega arith) (omega arith))
below_level true false a b h = let z : a + b ≤ 0 = ltb-false 0 (a + b) h in both_zero false b a (omega arith) (omega arith)
below_level true true a b h = go (dec_lt a b)
  where
    go : Dec (a < b) → (ltb a b || (eqb b a && true)) ≡ true
    go (yes l) = rw (lt-ltb a b l)
    go (no l) = let k : a ≤ b = ltb-false b a h in or_second (ltb a b) _ (and_both (eqb b a) true (eq-eqb b a (omega arith)) refl)

-- what is below another is neither above it nor level with it
below_only : (s t : Bool) (a b : ℕ) → below s a t b ≡ true → (below t b s a || level t b s a) ≡ true → ⊥
below_only false false a b h k =
    or_case (ltb b a) _ k (λ q. omega (arith, ltb-true a b h, ltb-true b a q)) (λ q. omega (arith, ltb-true a b h, eqb-true b a (both_true (eqb b a) _ q).0))
below_only false true a b h k = false≢true h
below_only true false a b h k =
    let q = both_true (eqb b a) (eqb b 0) k in
    omega (arith, ltb-true 0 (a + b) h, eqb-true b a q.0, eqb-true b 0 q.1)
below_only true true a b h k =
    or_case (ltb a b) _ k (λ q. omega (arith, ltb-true b a h, ltb-true a b q)) (λ q. omega (arith, ltb-true b a h, eqb-true b a (both_true (eqb b a) _ q).0))

-- ---- doubles
-- of two numbers the first is below the second, or the second is at most the first
pub not_lt-le : (x y : Float) → is_nan x ≡ false → is_nan y ≡ false → lt x y ≡ false → le y x ≡ true
unfolding lt eq le is_nan
not_lt-le nan y p q h = absurd (true≢false p)
not_lt-le (inf s) nan p q h = absurd (true≢false q)
not_lt-le (inf false) (inf false) p q h = refl
not_lt-le (inf false) (inf true) p q h = refl
not_lt-le (inf true) (inf false) p q h = absurd (true≢false h)
not_lt-le (inf true) (inf true) p q h = refl
not_lt-le (inf false) (fin t n d) p q h = refl
not_lt-le (inf true) (fin t n d) p q h = absurd (true≢false h)
not_lt-le (fin s m e) nan p q h = absurd (true≢false q)
not_lt-le (fin s m e) (inf false) p q h = absurd (true≢false h)
not_lt-le (fin s m e) (inf true) p q h = refl
not_lt-le (fin s m e) (fin t n d) p q h = below_level s t (m * up e * down d) (n * up d * down e) h

-- both are never so
pub lt_not_le : (x y : Float) → lt x y ≡ true → le y x ≡ true → ⊥
unfolding lt eq le
lt_not_le nan y h k = false≢true h
lt_not_le (inf s) nan h k = false≢true h
lt_not_le (inf false) (inf t) h k = false≢true h
lt_not_le (inf true) (inf false) h k = false≢true k
lt_not_le (inf true) (inf true) h k = false≢true h
lt_not_le (inf false) (fin t n d) h k = false≢true h
lt_not_le (inf true) (fin t n d) h k = false≢true k
lt_not_le (fin s m e) nan h k = false≢true h
lt_not_le (fin s m e) (inf false) h k = false≢true k
lt_not_le (fin s m e) (inf true) h k = false≢true h
lt_not_le (fin s m e) (fin t n d) h k = below_only s t (m * up e * down d) (n * up d * down e) h k

-- a number is at most itself
pub le_self : (x : Float) → is_nan x ≡ false → le x x ≡ true
unfolding lt eq le is_nan
le_self nan p = absurd (true≢false p)
le_self (inf false) p = refl
le_self (inf true) p = refl
le_self (fin s m e) p = or_second (below s a s a) (level s a s a) (and_both (eqb a a) (beq s s || eqb a 0) (eq-eqb a a refl) (alike s))
  where
    a : ℕ
    a = m * up e * down e

    alike : (s : Bool) → (beq s s || eqb a 0) ≡ true
    alike true = refl
    alike false = refl

-- only numbers compare
pub le-number : (x y : Float) → le x y ≡ true → is_nan y ≡ false
unfolding lt eq le is_nan
le-number x (inf t) h = refl
le-number x (fin t n d) h = refl
le-number nan nan h = sym h
le-number (inf s) nan h = sym h
le-number (fin s m e) nan h = sym h

pub lt-number : (x y : Float) → lt x y ≡ true → is_nan y ≡ false
unfolding lt is_nan
lt-number x (inf t) h = refl
lt-number x (fin t n d) h = refl
lt-number nan nan h = sym h
lt-number (inf s) nan h = sym h
lt-number (fin s m e) nan h = sym h

-- the larger of a number and anything is a number
pub larger-number : (x y : Float) → is_nan x ≡ false → is_nan (larger x y) ≡ false
unfolding larger
larger-number x y h = rw h (go (lt x y) (lt-number x y))
  where
    go : (b : Bool) → (b ≡ true → is_nan y ≡ false) → is_nan (cond b y x) ≡ false
    go true k = k refl
    go false k = h

-- the largest of a number and any others is a number
pub most-number : (n : ℕ) (f : ℕ → Float) (x : Float) → is_nan x ≡ false → is_nan (most n f x) ≡ false
unfolding most
most-number zero f x h = h
most-number (suc n) f x h = larger-number (most n f x) (f n) (most-number n f x h)

-- the same of what a loop has found
pub is_number : (f : ℕ → Float) (x y : Float) (k : ℕ) → is_nan x ≡ false → y ≡ most k f x → is_nan y ≡ false
is_number f x y k h e = rw e (most-number k f x h)

pub zero_number : is_nan zero+ ≡ false
unfolding is_nan of_bits of_fields odd
zero_number = refl

pub one_number : is_nan one ≡ false
unfolding is_nan of_bits of_fields odd
one_number = refl

pub epsilon-number : is_nan epsilon ≡ false
unfolding is_nan of_bits of_fields odd
epsilon-number = refl
