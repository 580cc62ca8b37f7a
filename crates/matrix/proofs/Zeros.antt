-- A zero of either sign, added to a sum that is not -0.0, changes nothing; and a sum that starts at +0.0 never becomes -0.0. Assumes nothing.
use Rattle.std.proofs.Common.{ℕ, zero, suc, ◌+◌, ◌-◌, ◌*◌, ◌/◌, ◌%◌, ◌^◌, ◌≤◌, ◌<◌, ◌≡◌, ◌≢◌, add-suc, refl, sym, ap, ◌∙◌, subst, Bool, true, false, cond, true≢false, T, ltb, ltb→lt}
use Rattle.std.proofs.Common.{le_trans, le_of_eq, mul-pos, mul-one, one-mul, mul_comm, mul-le-mul_right, zero-mul, mul-zero, add-zero, zero-lt-suc, le-div_iff_mul-le, le-ltb, lt-ltb}
use Rattle.std.proofs.Common.{zero-le, eqb→eq, ne_eqb, arith, pow_pos, ℤ, pos, Float}
use Rattle.std.proofs.Math.Bool.{beq, false≢true}
use Rattle.std.proofs.Math.Nat.{not-suc-le-zero, zero-div, zero-mod, sub-zero}
use Prim.Native.Nat.{compare}
use lib.Count.{count_trailing_zeros}
use Rattle.std.specs.Float.Ieee.{nan, inf, fin, binary64, prec, emax, low, up, down, unlike, lt, add, mul, div, sum, round, units, odd, size, span, climb, nearest, of_int, fits, of_bits, of_fields}
use lib.Ieee.Digits.{size_reaches}
use lib.Ieee.Nearest.{nearest-ge}
use lib.Ieee.Fits.{up_pos, down_pos, add-fits}
use lib.Ieee.Exact.{HasValue, odd_sign}
use lib.Ieee.Scale.{round_same}
use Rattle.std.proofs.Math.Decide.{ℕ_discrete}
use Rattle.loops.specs.Loop.{iter}
use Rattle.loops.proofs.Loops.{iter_ext}
use Rattle.float.specs.Arith.{◌⊕◌, ◌⊗◌, ◌⊘◌, zero+, one, finite}
use Rattle.float.proofs.Signs.{false_unlike, unlike_false}
use Rattle.float.proofs.Floats.{zero_exponent}
use Rattle.float.proofs.Mag.{plus_cross, minus_cross, common}
use Rattle.float.proofs.Plus.{plus, round_plus}
use Rattle.float.proofs.Same.{round_back}
use Rattle.matrix.proofs.RowSums.{mag64, unit64}
use Rattle.matrix.proofs.Scaling.{fits_on}

-- ---- rounding 0, and rounding what is one unit at least
near_zero : (u : ℕ) → nearest 0 (compare 0 u) ≡ 0
near_zero zero = refl
near_zero (suc u) = rw Prim.Native.Nat.compare.zero-suc

pub round_zero : (t : Bool) (c : ℕ) → round binary64 t 0 c ≡ fin t 0 (pos 0)
unfolding round units odd size span climb
round_zero t c = simp (zero-mul, zero-div, zero-mod, near_zero)

-- x has the sign s and is not a zero
abbrev pub Some : Bool → Float → Type 0
Some s nan = ⊥
Some s (inf t) = t ≡ s
Some s (fin t m e) = (t ≡ s) × (0 < m)

value_some : (x : Float) (s : Bool) (a c : ℕ) → HasValue x s a c → 0 < a → Some s x
value_some nan s a c h p = absurd h
value_some (inf t) s a c h p = absurd h
value_some (fin t zero e) s a c h p = let l : 0 < a * down e = mul-pos p (down_pos e) in let z : 0 * up e * c ≡ 0 = simp zero-mul in absurd (omega (arith, h.1))
value_some (fin t (suc m) e) s a c h p = (h.0, zero-lt-suc m)

units_some : (s : Bool) (q k : ℕ) → 0 < q → Some s (units binary64 s q k)
unfolding units
units_some s q k h = go (ltb (q * 2 ^ k) (2 ^ (low binary64 + suc (emax binary64))))
  where
    go : (b : Bool) → Some s (cond b (odd (suc (prec binary64)) s q k (low binary64)) (inf s))
    go true = value_some (odd (suc (prec binary64)) s q k (low binary64)) s (q * 2 ^ k) (2 ^ low binary64) (odd_sign (suc (prec binary64)) s q k (low binary64)) (mul-pos h (pow_pos k))
    go false = refl

step_below : (n c : ℕ) → 0 < c → c ≤ n → c * 2 ^ (size (n / c) - 53) ≤ n
step_below n c C h = go (size (n / c) - 53) (λ k. size_reaches (n / c) (size (n / c) - 53) (less (size (n / c)) k))
  where
    less : (z : ℕ) → 0 < z - 53 → z - 53 < z
    less z h = omega arith

    go : (k : ℕ) → (0 < k → 2 ^ k ≤ n / c) → c * 2 ^ k ≤ n
    go zero f = le_trans (le_of_eq (mul-one c)) h
    go (suc k) f = le_trans (le_of_eq (mul_comm c (2 ^ suc k))) ((le-div_iff_mul-le C).0 (f (zero-lt-suc k)))

pub round_some : (s : Bool) (a c : ℕ) → 0 < c → c ≤ a * unit64 → Some s (round binary64 s a c)
unfolding round
round_some s a c C h =
    let n = a * unit64 in
    let k = size (n / c) - 53 in
    let u = c * 2 ^ k in
    let one : 1 ≤ n / u = (le-div_iff_mul-le (mul-pos C (pow_pos k))).1 (le_trans (le_of_eq (single u)) (step_below n c C h)) in
    units_some s (nearest (n / u) (compare (n % u * 2) u)) k (le_trans one (nearest-ge (n / u) (compare (n % u * 2) u)))
  where
    single : (z : ℕ) → 1 * z ≡ z
    single z = omega arith

-- ---- not -0.0
abbrev pub Plain : Float → Type 0
Plain nan = Unit {0}
Plain (inf s) = Unit {0}
Plain (fin false m e) = Unit {0}
Plain (fin true m e) = 0 < m

some_plain : (s : Bool) (x : Float) → Some s x → Plain x
some_plain s nan h = tt
some_plain s (inf t) h = tt
some_plain s (fin false m e) h = tt
some_plain s (fin true m e) h = h.1

plus_plain : (x : Float) → T (plus x) → Plain x
unfolding plus
plus_plain nan h = tt
plus_plain (inf s) h = tt
plus_plain (fin false m e) h = tt
plus_plain (fin true m e) h = absurd h

round_plain : (a c : ℕ) → Plain (round binary64 false a c)
round_plain a c = plus_plain (round binary64 false a c) (round_plus a c)

-- a fraction of whole units that is not 0 is one unit at least
unit_some : (a U X c : ℕ) → a * U ≡ X * c → 0 < a → 0 < U → c ≤ a * U
unit_some a U zero c h p q = let l : 0 < a * U = mul-pos p q in let z : 0 * c ≡ 0 = zero-mul c in absurd (omega arith)
unit_some a U (suc X) c h p q = le_trans (le_of_eq (sym (single c))) (le_trans (mul-le-mul_right c (zero-lt-suc X)) (le_of_eq (sym h)))
  where
    single : (z : ℕ) → 1 * z ≡ z
    single z = omega arith

-- A / c with the sign t, added to B / c with the sign u: all in whole units
module _ (A B c X Y : ℕ) (C : 0 < c) (h : A * unit64 ≡ X * c) (k : B * unit64 ≡ Y * c) where
  some_down : (a x : ℕ) → a * unit64 ≡ x * c → 0 < a → Plain (round binary64 true a c)
  some_down a x e p = some_plain true (round binary64 true a c) (round_some true a c C (unit_some a unit64 x c e p (pow_pos 1074)))

  less : (x y : ℕ) → x < y → 0 < y - x
  less x y h = omega arith

  more : (x y : ℕ) → 0 < x → 0 < x + y
  more x y h = omega arith

  down_up : (b : Bool) → (T b → A < B) → Plain (cond b (round binary64 true (B - A) c) (round binary64 false (A - B) c))
  down_up true f = some_down (B - A) (Y - X) (minus_cross B A c Y X unit64 k h) (less A B (f tt))
  down_up false f = round_plain (A - B) c

  up_down : (b d : Bool) → (T d → B < A) → Plain (cond b (round binary64 false (B - A) c) (round binary64 d (A - B) c))
  up_down true d f = round_plain (B - A) c
  up_down false true f = some_down (A - B) (X - Y) (minus_cross A B c X Y unit64 h k) (less B A (f tt))
  up_down false false f = round_plain (A - B) c

  sum_plain : (t u : Bool) → (T t → 0 < A) → Plain (sum binary64 t A u B c)
  unfolding sum
  sum_plain true true p = some_down (A + B) (X + Y) (plus_cross A B c X Y unit64 h k) (more A B (p tt))
  sum_plain true false p = up_down (ltb A B) (ltb B A) (ltb→lt B A)
  sum_plain false true p = down_up (ltb A B) (ltb→lt A B)
  sum_plain false false p = round_plain (A + B) c

add_plain : (x y : Float) → T (fits binary64 x) → T (fits binary64 y) → Plain x → Plain (x ⊕ y)
unfolding add
add_plain nan y f g h = tt
add_plain (inf s) nan f g h = tt
add_plain (inf s) (inf t) f g h = go (beq s t)
  where
    go : (b : Bool) → Plain (cond b (inf s) nan)
    go true = tt
    go false = tt
add_plain (inf s) (fin t n d) f g h = tt
add_plain (fin s m e) nan f g h = tt
add_plain (fin s m e) (inf t) f g h = tt
add_plain (fin s m e) (fin t n d) f g h =
    sum_plain (m * up e * down d) (n * up d * down e) (down e * down d) (mag64 (fin s m e)) (mag64 (fin t n d)) (mul-pos (down_pos e) (down_pos d))
    (common (m * up e) (down e) (down d) (mag64 (fin s m e)) unit64 (fits_on (fin s m e) f tt))
    (common (n * up d) (down d) (down e) (mag64 (fin t n d)) unit64 (fits_on (fin t n d) g tt) ∙ ap (λ (z : ℕ). mag64 (fin t n d) * z) (mul_comm (down d) (down e)))
    s t (λ b. mul-pos (mul-pos (positive s b h) (up_pos e)) (down_pos d))
  where
    positive : (s : Bool) → T s → Plain (fin s m e) → 0 < m
    positive true b h = h
    positive false b h = absurd b

-- ---- a zero of either sign, added
zero_one_way : (s : Bool) (e : ℤ) → T (fits binary64 (fin s zero e)) → e ≡ pos 0
unfolding fits
zero_one_way s e f = zero_exponent e (eqb→eq (up e * down e) 1 f)

sum_some : (s t : Bool) (a c : ℕ) → 0 < a → sum binary64 s a t 0 c ≡ round binary64 s a c
unfolding sum
sum_some true true a c h = rw add-zero
sum_some false false a c h = rw add-zero
sum_some true false a c h = let l : 0 ≤ a = zero-le in rw (le-ltb a 0 l, lt-ltb 0 a h, sub-zero)
sum_some false true a c h = let l : 0 ≤ a = zero-le in rw (le-ltb a 0 l, sub-zero)

sum_none : (t : Bool) (c : ℕ) → sum binary64 false 0 t 0 c ≡ fin false 0 (pos 0)
unfolding sum
sum_none true c = round_zero false c
sum_none false c = round_zero false c

-- a double that is not -0.0
abbrev pub Good : Float → Type 0
Good x = T (fits binary64 x) × Plain x

pub keeps : (x : Float) (t : Bool) → Good x → x ⊕ fin t 0 (pos 0) ≡ x
unfolding add
keeps nan t g = refl
keeps (inf s) t g = refl
keeps (fin true zero e) t g = absurd (not-suc-le-zero g.1)
keeps (fin false zero e) t g =
    ap (λ (a : ℕ). sum binary64 false a t (0 * down e) (down e * 1)) (simp zero-mul)
    ∙ ap (λ (b : ℕ). sum binary64 false 0 t b (down e * 1)) (zero-mul (down e))
    ∙ sum_none t (down e * 1)
    ∙ ap (λ (z : ℤ). fin false 0 z) (sym (zero_one_way false e g.0))
keeps (fin s (suc m) e) t g =
    ap (λ (b : ℕ). sum binary64 s (suc m * up e * 1) t b (down e * 1)) (zero-mul (down e))
    ∙ sum_some s t (suc m * up e * 1) (down e * 1) (mul-pos (mul-pos (zero-lt-suc m) (up_pos e)) (zero-lt-suc 0))
    ∙ round_same binary64 s (suc m * up e * 1) (down e * 1) (suc m * up e) (down e) (mul-pos (down_pos e) (zero-lt-suc 0)) (down_pos e) (simp mul-one)
    ∙ round_back s (suc m) e g.0

pub zero_is : zero+ ≡ fin false 0 (pos 0)
unfolding of_bits of_fields odd count_trailing_zeros
zero_is = refl

pub good_zero : Good zero+
unfolding of_bits of_fields odd count_trailing_zeros fits
good_zero = (tt, tt)

pub good_add : (x y : Float) → Good x → T (fits binary64 y) → Good (x ⊕ y)
good_add x y g f = (add-fits binary64 x y, add_plain x y g.0 f g.1)

-- ---- products and quotients with a zero
-- a zero of either sign
abbrev pub Nil : Float → Type 0
Nil z = (s : Bool) × (z ≡ fin s 0 (pos 0))

pub zero_times : (y : Float) → finite y ≡ true → Nil (zero+ ⊗ y)
unfolding mul finite of_bits of_fields odd count_trailing_zeros
zero_times nan h = absurd (false≢true h)
zero_times (inf t) h = absurd (false≢true h)
zero_times (fin t n d) h = (unlike false t, rw zero-mul (round_zero (unlike false t) (1 * down d)))

pub times_zero : (x : Float) → finite x ≡ true → Nil (x ⊗ zero+)
unfolding mul finite of_bits of_fields odd count_trailing_zeros
times_zero nan h = absurd (false≢true h)
times_zero (inf t) h = absurd (false≢true h)
times_zero (fin t n d) h = (unlike t false, rw mul-zero (round_zero (unlike t false) (down d * 1)))

-- a positive number, or +infinity
abbrev pub Over : Float → Type 0
Over d = Some false d

pub zero_over : (d : Float) → Over d → zero+ ⊘ d ≡ zero+
unfolding div of_bits of_fields odd count_trailing_zeros
zero_over nan h = absurd h
zero_over (inf true) h = absurd (true≢false h)
zero_over (inf false) h = refl
zero_over (fin true m e) h = absurd (true≢false h.0)
zero_over (fin false zero e) h = absurd (not-suc-le-zero h.1)
zero_over (fin false (suc m) e) h = rw (ne_eqb (suc m) 0 (λ k. omega (arith, k)), zero-mul) (round_zero false (suc m * up e * 1))

pub above_over : (d : Float) → lt zero+ d ≡ true → Over d
unfolding lt of_bits of_fields odd count_trailing_zeros
above_over nan h = absurd (false≢true h)
above_over (inf true) h = absurd (false≢true h)
above_over (inf false) h = refl
above_over (fin true m e) h = absurd (false≢true h)
above_over (fin false zero e) h = let z : 0 * up e ≡ 0 = zero-mul (up e) in absurd (omega (arith, ltb→lt (0 * down e) (0 * up e * 1) (subst T (sym h) tt)))
above_over (fin false (suc m) e) h = (refl, zero-lt-suc m)

pub zero_and_zero : zero+ ⊕ zero+ ≡ zero+
zero_and_zero = ap (λ (z : Float). zero+ ⊕ z) zero_is ∙ keeps zero+ false good_zero

-- ---- 1.0 as a factor and as a divisor
pub one_times : (x : Float) → T (fits binary64 x) → one ⊗ x ≡ x
unfolding mul of_bits of_fields odd count_trailing_zeros
one_times nan f = refl
one_times (inf true) f = refl
one_times (inf false) f = refl
one_times (fin s m e) f = rw (false_unlike, one-mul, one-mul) (round_back s m e f)

pub over_one : (x : Float) → T (fits binary64 x) → x ⊘ one ≡ x
unfolding div of_bits of_fields odd count_trailing_zeros
over_one nan f = refl
over_one (inf true) f = refl
over_one (inf false) f = refl
over_one (fin s m e) f = rw (unlike_false, mul-one, one-mul) (round_back s m e f)

-- a whole number above 0
pub whole_over : (k : ℕ) → Over (of_int binary64 (pos (suc k)))
unfolding of_int
whole_over k = round_some false (suc k) 1 (zero-lt-suc 0) (mul-pos (zero-lt-suc k) (pow_pos 1074))

-- ---- sums, one item after the other
abbrev pub run : ℕ → (ℕ → Float) → Float → Float
run n f x = iter n (λ k z. z ⊕ f k) x

pub run_ext : (n : ℕ) (f g : ℕ → Float) (x : Float) → ((k : ℕ) → k < n → f k ≡ g k) → run n f x ≡ run n g x
run_ext n f g x h = iter_ext n (λ k z. z ⊕ f k) (λ k z. z ⊕ g k) x (λ k l z. ap (λ y. z ⊕ y) (h k l))

pub run_split : (n p : ℕ) (f : ℕ → Float) (x : Float) → run (n + p) f x ≡ run p (λ k. f (n + k)) (run n f x)
unfolding iter
run_split n zero f x = rw add-zero
run_split n (suc p) f x = rw add-suc (ap (λ (z : Float). z ⊕ f (n + p)) (run_split n p f x))

pub run_good : (n : ℕ) (f : ℕ → Float) (x : Float) → Good x → ((k : ℕ) → T (fits binary64 (f k))) → Good (run n f x)
unfolding iter
run_good zero f x g h = g
run_good (suc n) f x g h = good_add (run n f x) (f n) (run_good n f x g h) (h n)

-- zeros leave a sum as it is
pub skip : (n : ℕ) (f : ℕ → Float) (x : Float) → Good x → ((k : ℕ) → k < n → Nil (f k)) → run n f x ≡ x
unfolding iter
skip zero f x g h = refl
skip (suc n) f x g h =
    let z = h n (omega arith) in
    rw (skip n f x g (λ k l. h k (omega arith)), z.1) (keeps x z.0 g)

-- one item among zeros
pub single : (n j : ℕ) (f : ℕ → Float) (x : Float) → Good x → j < n → T (fits binary64 (f j)) → ((k : ℕ) → k < n → k ≢ j → Nil (f k)) → run n f x ≡ x ⊕ f j
unfolding iter
single zero j f x g l w h = absurd (not-suc-le-zero l)
single (suc n) j f x g l w h = go (ℕ_discrete n j) (λ m. single n j f x g m w (λ k o d. h k (omega arith) d))
  where
    go : Dec (n ≡ j) → (j < n → run n f x ≡ x ⊕ f j) → run n f x ⊕ f n ≡ x ⊕ f j
    go (yes e) ih = ap (λ (z : Float). z ⊕ f n) (skip n f x g (λ k m. h k (omega arith) (λ d. omega arith))) ∙ ap (λ (z : ℕ). x ⊕ f z) e
    go (no e) ih =
        let z = h n (omega arith) e in
        rw (ih (omega arith), z.1) (keeps (x ⊕ f j) z.0 (good_add x (f j) g w))
