-- Mirrored numbers: `Mirror s x y` says that y is x with its sign turned where s is true, zeros of either sign being equal; and what one rounding makes of them. Assumes nothing.
use Prim.Native.Nat.compare
use Rattle.std.proofs.Common.{ℕ, zero, suc, ◌+◌, ◌-◌, ◌*◌, ◌/◌, ◌^◌, ◌%◌, ◌≤◌, zero-mul, mul-zero, zero-add, add-zero, arith, ◌≡◌, refl, sym, ap, ◌∙◌, subst, subst₂, inl, inr, Bool, true, false, cond, not, ◌&&◌, T, ltb, eqb, nltb→le, ℤ, pos, Float}
use Prim.Native.Nat.{compare}
use Rattle.std.proofs.Math.Nat.{sub-zero, zero-div, zero-mod}
use Rattle.std.proofs.Math.Dec.{leb-zero, leb-suc-zero, leb-suc-suc}
use Rattle.std.specs.Float.Ieee.{nan, inf, fin, binary64, prec, emax, low, up, down, unlike, neg, add, sub, mul, div, sum, round, units, odd, size, span, climb, nearest, of_bits, of_fields}
use lib.Count.{count_trailing_zeros}
use Rattle.float.proofs.Signs.{unlike_mix, unlike_assoc, unlike_self, false_unlike, unlike_not}
use Rattle.float.specs.Arith.{zero+, abs, finite, ◌⊕◌, ◌⊖◌, ◌⊗◌, ◌⊘◌}
use Rattle.mirror.specs.Mirror.{flip, Zero, Agrees}

pub data Mirror (s : Bool) : Float → Float → Type 0 where
  m_nan : Mirror s nan nan
  m_inf : (t : Bool) → Mirror s (inf t) (inf (unlike s t))
  m_fin : (t : Bool) (m : ℕ) (e : ℤ) → Mirror s (fin t m e) (fin (unlike s t) m e)
  m_zero : (t u : Bool) → Mirror s (fin t 0 (pos 0)) (fin u 0 (pos 0))

-- ---- the relation
pub m_refl : (x : Float) → Mirror false x x
m_refl nan = m_nan
m_refl (inf true) = m_inf true
m_refl (inf false) = m_inf false
m_refl (fin true m e) = m_fin true m e
m_refl (fin false m e) = m_fin false m e

pub m_trans : {s r : Bool} {x y z : Float} → Mirror s x y → Mirror r y z → Mirror (unlike r s) x z
m_trans m_nan m_nan = m_nan
m_trans {s} {r} (m_inf t) (m_inf u) = rw (← unlike_assoc r s t) (m_inf t)
m_trans {s} {r} (m_fin t m e) (m_fin u n d) = rw (← unlike_assoc r s t) (m_fin t m e)
m_trans (m_fin t m e) (m_zero u v) = m_zero t v
m_trans (m_zero t u) (m_fin v m e) = m_zero t _
m_trans (m_zero t u) (m_zero v w) = m_zero t w

pub m_sym : {x y : Float} → Mirror false x y → Mirror false y x
m_sym m_nan = m_nan
m_sym (m_inf t) = rw false_unlike (m_refl (inf t))
m_sym (m_fin t m e) = rw false_unlike (m_refl (fin t m e))
m_sym (m_zero t u) = m_zero u t

pub m_then : {s : Bool} {x y z : Float} → Mirror s x y → Mirror false y z → Mirror s x z
m_then p q = rw false_unlike at (m_trans p q)

-- ---- rounding
odd_m : (s : Bool) (d : ℕ) (t : Bool) (q k l : ℕ) → Mirror s (odd d t q k l) (odd d (unlike s t) q k l)
unfolding odd
odd_m s d t zero k l = m_fin t 0 (pos 0)
odd_m s d t (suc q) k l = m_fin t _ _

units_m : (s t : Bool) (q k : ℕ) → Mirror s (units binary64 t q k) (units binary64 (unlike s t) q k)
unfolding units
units_m s t q k = go (ltb (q * 2 ^ k) (2 ^ (low binary64 + suc (emax binary64))))
  where
    go : (b : Bool) → Mirror s (cond b (odd (suc (prec binary64)) t q k (low binary64)) (inf t)) (cond b (odd (suc (prec binary64)) (unlike s t) q k (low binary64)) (inf (unlike s t)))
    go true = odd_m s (suc (prec binary64)) t q k (low binary64)
    go false = m_inf t

round_m : (s t : Bool) (a c : ℕ) → Mirror s (round binary64 t a c) (round binary64 (unlike s t) a c)
unfolding round
round_m s t a c =
    let n = a * 2 ^ low binary64 in
    let k = size (n / c) - prec binary64 in
    let u = c * 2 ^ k in
    units_m s t (nearest (n / u) (compare (n % u * 2) u)) k

near_zero : (u : ℕ) → nearest 0 (compare 0 u) ≡ 0
near_zero zero = refl
near_zero (suc u) = rw compare.zero-suc

round-zero : (t : Bool) (c : ℕ) → round binary64 t 0 c ≡ fin t 0 (pos 0)
unfolding round units odd size span climb
round-zero t c = simp (zero-mul, zero-div, zero-mod, near_zero)

round_0 : (s t u : Bool) (c : ℕ) → Mirror s (round binary64 t 0 c) (round binary64 u 0 c)
round_0 s t u c = rw (round-zero t c, round-zero u c) (m_zero t u)

-- ---- sums
tie : (a b : ℕ) → b ≤ a → a ≤ b → a - b ≡ 0
tie a b g h = omega arith

and_true : (b : Bool) → b && true ≡ b
and_true true = refl
and_true false = refl

opp_m : (s t u : Bool) (a b c : ℕ) (x y : Bool) → (T (not x) → b ≤ a) → (T (not y) → a ≤ b)
    → Mirror s (cond x (round binary64 u (b - a) c) (round binary64 (t && y) (a - b) c)) (cond x (round binary64 (unlike s u) (b - a) c) (round binary64 (unlike s t && y) (a - b) c))
opp_m s t u a b c true y g h = round_m s u (b - a) c
opp_m s t u a b c false true g h = rw (and_true t, and_true (unlike s t)) (round_m s t (a - b) c)
opp_m s t u a b c false false g h = rw (tie a b (g tt) (h tt)) (round_0 s _ _ c)

sum_m : (s t : Bool) (a : ℕ) (u : Bool) (b c : ℕ) → Mirror s (sum binary64 t a u b c) (sum binary64 (unlike s t) a (unlike s u) b c)
unfolding sum
sum_m true true a true b c = round_m true true (a + b) c
sum_m true true a false b c = opp_m true true false a b c (ltb a b) (ltb b a) (nltb→le a b) (nltb→le b a)
sum_m true false a true b c = opp_m true false true a b c (ltb a b) (ltb b a) (nltb→le a b) (nltb→le b a)
sum_m true false a false b c = round_m true false (a + b) c
sum_m false true a true b c = round_m false true (a + b) c
sum_m false true a false b c = opp_m false true false a b c (ltb a b) (ltb b a) (nltb→le a b) (nltb→le b a)
sum_m false false a true b c = opp_m false false true a b c (ltb a b) (ltb b a) (nltb→le a b) (nltb→le b a)
sum_m false false a false b c = round_m false false (a + b) c

-- a zero of either sign, added to v B / C
zero_sum : (t v : Bool) (b c : ℕ) → Mirror false (sum binary64 t 0 v b c) (round binary64 v b c)
unfolding sum
zero_sum true true b c = rw zero-add (m_refl _)
zero_sum false false b c = rw zero-add (m_refl _)
zero_sum true false zero c = round_0 false _ _ c
zero_sum true false (suc b) c = rw (leb-suc-suc 0 b, leb-zero b, sub-zero) (m_refl _)
zero_sum false true zero c = round_0 false _ _ c
zero_sum false true (suc b) c = rw (leb-suc-suc 0 b, leb-zero b, sub-zero) (m_refl _)

sum_zero : (t v : Bool) (a c : ℕ) → Mirror false (sum binary64 v a t 0 c) (round binary64 v a c)
unfolding sum
sum_zero true true a c = rw add-zero (m_refl _)
sum_zero false false a c = rw add-zero (m_refl _)
sum_zero true false zero c = round_0 false _ _ c
sum_zero true false (suc a) c = rw (leb-suc-zero (suc a), sub-zero) (m_refl _)
sum_zero false true zero c = round_0 false _ _ c
sum_zero false true (suc a) c = rw (leb-suc-zero (suc a), leb-suc-suc 0 a, leb-zero a, sub-zero) (m_refl _)

turn_left : (t u : Bool) (y : Float) → Mirror false (fin t 0 (pos 0) ⊕ y) (fin u 0 (pos 0) ⊕ y)
unfolding add
turn_left t u nan = m_nan
turn_left t u (inf v) = m_refl (inf v)
turn_left t u (fin v n d) = subst (λ (a : ℕ). Mirror false (sum binary64 t a v (n * up d * 1) (1 * down d)) (sum binary64 u a v (n * up d * 1) (1 * down d))) (sym (zero-mul (down d)))
    (m_then (zero_sum t v (n * up d * 1) (1 * down d)) (m_sym (zero_sum u v (n * up d * 1) (1 * down d))))

turn_right : (t u : Bool) (y : Float) → Mirror false (y ⊕ fin t 0 (pos 0)) (y ⊕ fin u 0 (pos 0))
unfolding add
turn_right t u nan = m_nan
turn_right t u (inf v) = m_refl (inf v)
turn_right t u (fin v n d) = subst (λ (a : ℕ). Mirror false (sum binary64 v (n * up d * 1) t a (down d * 1)) (sum binary64 v (n * up d * 1) u a (down d * 1))) (sym (zero-mul (down d)))
    (m_then (sum_zero t v (n * up d * 1) (down d * 1)) (m_sym (sum_zero u v (n * up d * 1) (down d * 1))))

-- ---- a mirrored number is the flipped one, or both are zeros
pub m_flip : (s : Bool) (x : Float) → Mirror s x (flip s x)
unfolding flip
m_flip s nan = m_nan
m_flip s (inf t) = m_inf t
m_flip s (fin t m e) = m_fin t m e

-- the same relation, as it is said of runs
pub agrees : {s : Bool} {x y : Float} → Mirror s x y → Agrees s x y
unfolding Agrees flip Zero
agrees m_nan = inl refl
agrees (m_inf t) = inl refl
agrees (m_fin t m e) = inl refl
agrees (m_zero t u) = inr ((t, refl), (u, refl))

pub mirrors : {s : Bool} {x y : Float} → Agrees s x y → Mirror s x y
unfolding Agrees Zero
mirrors {s} {x} (inl e) = subst (λ (y : Float). Mirror s x y) (sym e) (m_flip s x)
mirrors {s} (inr ((t, e), (u, d))) = subst₂ (λ (x y : Float). Mirror s x y) (sym e) (sym d) (m_zero _ _)

pub data Turn : Float → Float → Type 0 where
  same : (x : Float) → Turn x x
  turned : (t u : Bool) → Turn (fin t 0 (pos 0)) (fin u 0 (pos 0))

pub view : {s : Bool} {x y : Float} → Mirror s x y → Turn (flip s x) y
unfolding flip
view m_nan = same nan
view {s} (m_inf t) = same (inf (unlike s t))
view {s} (m_fin t m e) = same (fin (unlike s t) m e)
view {s} (m_zero t u) = turned (unlike s t) u

-- ---- sums
inf-inf : (s t u : Bool) → Mirror s (inf t ⊕ inf u) (inf (unlike s t) ⊕ inf (unlike s u))
unfolding add
inf-inf true true true = m_inf true
inf-inf true true false = m_nan
inf-inf true false true = m_nan
inf-inf true false false = m_inf false
inf-inf false true true = m_inf true
inf-inf false true false = m_nan
inf-inf false false true = m_nan
inf-inf false false false = m_inf false

add-flip : (s : Bool) (x y : Float) → Mirror s (x ⊕ y) (flip s x ⊕ flip s y)
unfolding add flip
add-flip s nan y = m_nan
add-flip s (inf t) nan = m_nan
add-flip s (inf t) (inf u) = inf-inf s t u
add-flip s (inf t) (fin u n d) = m_inf t
add-flip s (fin t m e) nan = m_nan
add-flip s (fin t m e) (inf u) = m_inf u
add-flip s (fin t m e) (fin u n d) = sum_m s t (m * up e * down d) u (n * up d * down e) (down e * down d)

add_turn_l : {x x' : Float} → Turn x x' → (y : Float) → Mirror false (x ⊕ y) (x' ⊕ y)
add_turn_l (same x) y = m_refl (x ⊕ y)
add_turn_l (turned t u) y = turn_left t u y

add_turn_r : {y y' : Float} → Turn y y' → (x : Float) → Mirror false (x ⊕ y) (x ⊕ y')
add_turn_r (same y) x = m_refl (x ⊕ y)
add_turn_r (turned t u) x = turn_right t u x

pub add_m : {s : Bool} {x x' y y' : Float} → Mirror s x x' → Mirror s y y' → Mirror s (x ⊕ y) (x' ⊕ y')
add_m {s} {x} {x'} {y} p q = m_then (m_then (add-flip s x y) (add_turn_l (view p) (flip s y))) (add_turn_r (view q) x')

pub neg_m : {s : Bool} {x y : Float} → Mirror s x y → Mirror s (neg x) (neg y)
unfolding neg
neg_m m_nan = m_nan
neg_m {s} (m_inf t) = rw (unlike_not s t) (m_inf (not t))
neg_m {s} (m_fin t m e) = rw (unlike_not s t) (m_fin (not t) m e)
neg_m (m_zero t u) = m_zero (not t) (not u)

pub sub_m : {s : Bool} {x x' y y' : Float} → Mirror s x x' → Mirror s y y' → Mirror s (x ⊖ y) (x' ⊖ y')
unfolding sub
sub_m p q = add_m p (neg_m q)

-- ---- products
cond_m : {s : Bool} {x x' y y' : Float} (b : Bool) → Mirror s x x' → Mirror s y y' → Mirror s (cond b x y) (cond b x' y')
cond_m true p q = p
cond_m false p q = q

mul-flip : (s r : Bool) (x y : Float) → Mirror (unlike s r) (x ⊗ y) (flip s x ⊗ flip r y)
unfolding mul flip
mul-flip s r nan y = m_nan
mul-flip s r (inf t) nan = m_nan
mul-flip s r (inf t) (inf u) = rw (unlike_mix s t r u) (m_inf (unlike t u))
mul-flip s r (inf t) (fin u n d) = rw (unlike_mix s t r u) (cond_m (eqb n 0) m_nan (m_inf (unlike t u)))
mul-flip s r (fin t m e) nan = m_nan
mul-flip s r (fin t m e) (inf u) = rw (unlike_mix s t r u) (cond_m (eqb m 0) m_nan (m_inf (unlike t u)))
mul-flip s r (fin t m e) (fin u n d) = subst (λ (b : Bool). Mirror (unlike s r) (round binary64 (unlike t u) (m * up e * (n * up d)) (down e * down d))
    (round binary64 b (m * up e * (n * up d)) (down e * down d))) (sym (unlike_mix s t r u))
    (round_m (unlike s r) (unlike t u) (m * up e * (n * up d)) (down e * down d))

mul_turn_l : {x x' : Float} → Turn x x' → (y : Float) → Mirror false (x ⊗ y) (x' ⊗ y)
unfolding mul
mul_turn_l (same x) y = m_refl (x ⊗ y)
mul_turn_l (turned t u) nan = m_nan
mul_turn_l (turned t u) (inf v) = m_nan
mul_turn_l (turned t u) (fin v n d) = subst (λ (a : ℕ). Mirror false (round binary64 (unlike t v) a (1 * down d)) (round binary64 (unlike u v) a (1 * down d))) (sym (zero-mul (n * up d)))
    (round_0 false (unlike t v) (unlike u v) (1 * down d))

mul_turn_r : {y y' : Float} → Turn y y' → (x : Float) → Mirror false (x ⊗ y) (x ⊗ y')
unfolding mul
mul_turn_r (same y) x = m_refl (x ⊗ y)
mul_turn_r (turned t u) nan = m_nan
mul_turn_r (turned t u) (inf v) = m_nan
mul_turn_r (turned t u) (fin v n d) = subst (λ (a : ℕ). Mirror false (round binary64 (unlike v t) a (down d * 1)) (round binary64 (unlike v u) a (down d * 1))) (sym (mul-zero (n * up d)))
    (round_0 false (unlike v t) (unlike v u) (down d * 1))

pub mul_m : {s r : Bool} {x x' y y' : Float} → Mirror s x x' → Mirror r y y' → Mirror (unlike s r) (x ⊗ y) (x' ⊗ y')
mul_m {s} {r} {x} {x'} {y} p q = m_then (m_then (mul-flip s r x y) (mul_turn_l (view p) (flip r y))) (mul_turn_r (view q) x')

-- a factor that both runs share
pub mul_same : {s : Bool} {y y' : Float} (x : Float) → Mirror s y y' → Mirror s (x ⊗ y) (x ⊗ y')
mul_same {s} x q = rw false_unlike at (mul_m (m_refl x) q)

-- ---- quotients by a divisor that both runs share
div-flip : (s : Bool) (x y : Float) → Mirror s (x ⊘ y) (flip s x ⊘ y)
unfolding div flip
div-flip s nan y = m_nan
div-flip s (inf t) nan = m_nan
div-flip s (inf t) (inf u) = m_nan
div-flip s (inf t) (fin u n d) = rw (unlike_assoc s t u) (m_inf (unlike t u))
div-flip s (fin t m e) nan = m_nan
div-flip s (fin t m e) (inf u) = m_zero (unlike t u) _
div-flip s (fin t m e) (fin u n d) =
    subst (λ (b : Bool). Mirror s (fin t m e ⊘ fin u n d) (cond (eqb n 0) (cond (eqb m 0) nan (inf b)) (round binary64 b (m * up e * down d) (n * up d * down e)))) (sym (unlike_assoc s t u))
    (cond_m (eqb n 0) (cond_m (eqb m 0) m_nan (m_inf (unlike t u))) (round_m s (unlike t u) (m * up e * down d) (n * up d * down e)))

div_turn : {x x' : Float} → Turn x x' → (y : Float) → Mirror false (x ⊘ y) (x' ⊘ y)
unfolding div
div_turn (same x) y = m_refl (x ⊘ y)
div_turn (turned t u) nan = m_nan
div_turn (turned t u) (inf v) = m_zero (unlike t v) (unlike u v)
div_turn (turned t u) (fin v n d) = cond_m (eqb n 0) m_nan
    (subst (λ (a : ℕ). Mirror false (round binary64 (unlike t v) a (n * up d * 1)) (round binary64 (unlike u v) a (n * up d * 1)))
    (sym (zero-mul (down d))) (round_0 false (unlike t v) (unlike u v) (n * up d * 1)))

pub div_m : {s : Bool} {x x' : Float} → Mirror s x x' → (y : Float) → Mirror s (x ⊘ y) (x' ⊘ y)
div_m {s} {x} p y = m_then (div-flip s x y) (div_turn (view p) y)

-- ---- what does not see the sign
pub abs_m : {s : Bool} {x y : Float} → Mirror s x y → abs x ≡ abs y
unfolding abs
abs_m m_nan = refl
abs_m (m_inf t) = refl
abs_m (m_fin t m e) = refl
abs_m (m_zero t u) = refl

pub finite_m : {s : Bool} {x y : Float} → Mirror s x y → finite x ≡ finite y
unfolding finite
finite_m m_nan = refl
finite_m (m_inf t) = refl
finite_m (m_fin t m e) = refl
finite_m (m_zero t u) = refl

pub zero_m : (s : Bool) → Mirror s zero+ zero+
unfolding of_bits of_fields odd count_trailing_zeros
zero_m s = m_zero false false

-- a square is the same to the bit
unlike_same : (s t : Bool) → unlike (unlike s t) (unlike s t) ≡ unlike t t
unlike_same true true = refl
unlike_same true false = refl
unlike_same false true = refl
unlike_same false false = refl

pub square_m : {s : Bool} {x y : Float} → Mirror s x y → x ⊗ x ≡ y ⊗ y
unfolding mul
square_m m_nan = refl
square_m {s} (m_inf t) = ap inf (sym (unlike_same s t))
square_m {s} (m_fin t m e) = ap (λ (b : Bool). round binary64 b (m * up e * (m * up e)) (down e * down e)) (sym (unlike_same s t))
square_m (m_zero t u) = ap (λ (b : Bool). round binary64 b 0 1) (unlike_self t ∙ sym (unlike_self u))
