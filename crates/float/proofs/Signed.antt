-- Values with their signs, in units: a value is `plus x` - `minus x`, of which one is 0. What one rounding of a sum, product or quotient can change. Assumes nothing.
use Rattle.std.proofs.Common.{◌≡◌, refl, sym, ap, ◌∙◌, subst, ℕ, suc, ◌+◌, ◌-◌, ◌*◌, ◌^◌, ◌≤◌, ◌<◌, le_trans, le_of_eq, le_of_lt, le_refl, add-mul, mul-one, mul_comm, mul-le-mul_right, le_of_mul-le-mul_right, mul-pos, one-mul, arith, Bool, true, false, not, cond, T, eqb, ltb, eqb→eq, ltb→lt, nltb→le, pow-add, pow_pos, Float}
use Rattle.std.specs.Float.Ieee.{nan, inf, fin, Format, prec, emax, low, up, down, unlike, round, sum, add, mul, div}
use lib.Ieee.Digits.{Equals}
use lib.Ieee.Fits.{down_pos, up_pos, round_is}
use lib.Ieee.Exact.{HasValue, units_val}
use lib.Ieee.Order.{drop, kept}
use lib.Ieee.Scale.{grid, overflow, round_same}
use lib.Ieee.Positive.{first_pos}
use Rattle.float.proofs.Signs.{unlike_false}
use Rattle.float.proofs.Round.{half, grid_up, grid_down}
use Rattle.float.proofs.Mag.{Near, near_cancel, mag, On, equals_mag, equals_on, value_equals, rough, fits_in, cross, div_cross, plus_cross, minus_cross, common}

-- g with the sign s, as a difference
abbrev pub pp : Bool → ℕ → ℕ
pp false g = g
pp true g = 0

abbrev pub nn : Bool → ℕ → ℕ
nn false g = 0
nn true g = g

abbrev pub sgn : Float → Bool
sgn nan = false
sgn (inf s) = s
sgn (fin s m e) = s

abbrev pub plus : Format → Float → ℕ
plus f x = pp (sgn x) (mag f x)

abbrev pub minus : Format → Float → ℕ
minus f x = nn (sgn x) (mag f x)

pub parts : (s : Bool) (g : ℕ) → pp s g + nn s g ≡ g
parts false g = omega arith
parts true g = omega arith

-- p - n and p' - n' differ by at most e
abbrev pub Off : ℕ → ℕ → ℕ → ℕ → ℕ → Type 0
Off p n p' n' e = (p + n' ≤ p' + n + e) × (p' + n ≤ p + n' + e)

-- ---- one rounding, with its sign
value_sgn : (x : Float) (s : Bool) (a c : ℕ) → HasValue x s a c → sgn x ≡ s
value_sgn nan s a c h = absurd h
value_sgn (inf t) s a c h = absurd h
value_sgn (fin t m e) s a c h = h.0

round-value : (f : Format) (s : Bool) (a c : ℕ) → 0 < c → a * 2 ≤ c * 2 ^ emax f → HasValue (round f s a c) s (grid f a c) (2 ^ low f)
round-value f s a c C h =
    let g = grid f a c in
    let n : Near (half f) (a * 2 ^ low f) c g = (grid_up f a c C, grid_down f a c C) in
    let l : g < 2 ^ low f * (2 ^ emax f * 2) = fits_in a c g (2 ^ low f) (2 ^ emax f) C (mul-pos (pow_pos (low f)) (pow_pos (emax f))) h
    (rough (half f) (a * 2 ^ low f) c g (pow_pos (prec f - 1)) n) in
    let o : 2 ^ low f * (2 ^ emax f * 2) ≡ overflow f = ap (λ (z : ℕ). 2 ^ low f * z) (sym (native.Mathlib.Nat.pow-suc 2 (emax f))) ∙ sym (pow-add 2 (low f) (suc (emax f))) in
    subst (λ (z : Float). HasValue z s g (2 ^ low f)) (sym (round_is f s a c))
    (units_val f s (kept (prec f) (a * 2 ^ low f) c) (drop (prec f) (a * 2 ^ low f) c) (subst (λ (z : ℕ). g < z) o l))

-- x is v / c with the sign s, rounded once
abbrev pub Rounds : Format → Float → Bool → ℕ → ℕ → Type 0
Rounds f x s v c = On f x × (sgn x ≡ s) × Near (half f) v c (mag f x)

round_rounds : (f : Format) (s : Bool) (a c : ℕ) → 0 < c → a * 2 ≤ c * 2 ^ low f * 2 ^ emax f → Rounds f (round f s a (c * 2 ^ low f)) s a c
round_rounds f s a c C h =
    let U = 2 ^ low f in
    let d = c * U in
    let D : 0 < d = mul-pos C (pow_pos (low f)) in
    let x = round f s a d in
    let v = round-value f s a d D h in
    let q : mag f x ≡ grid f a d = equals_mag f x (grid f a d) (value_equals x s (grid f a d) U v) in
    let n : Near (half f) (a * U) d (grid f a d) = (grid_up f a d D, grid_down f a d D) in (
      equals_on f x (grid f a d) (value_equals x s (grid f a d) U v),
      value_sgn x s (grid f a d) U v,
      subst (λ (z : ℕ). Near (half f) a c z)
          (sym q) (near_cancel (half f) a c U (grid f a d) (pow_pos (low f)) n),
    )

-- ---- the product
mul_is : (f : Format) (x y : Float) (X Y : ℕ) → Equals x X (2 ^ low f) → Equals y Y (2 ^ low f) → mul f x y ≡ round f (unlike (sgn x) (sgn y)) (X * Y) (2 ^ low f * 2 ^ low f)
unfolding mul
mul_is f nan y X Y h k = absurd h
mul_is f (inf s) y X Y h k = absurd h
mul_is f (fin s m e) nan X Y h k = absurd k
mul_is f (fin s m e) (inf t) X Y h k = absurd k
mul_is f (fin s m e) (fin t n d) X Y h k =
    round_same f (unlike s t) (m * up e * (n * up d)) (down e * down d) (X * Y) (2 ^ low f * 2 ^ low f) (mul-pos (down_pos e) (down_pos d)) (mul-pos (pow_pos (low f)) (pow_pos (low f)))
    (cross (m * up e) (n * up d) (down e) (down d) X Y (2 ^ low f) h k)

pub mul_rounds : (f : Format) (x y : Float) → On f x → On f y → mag f x * mag f y * 2 ≤ 2 ^ low f * 2 ^ low f * 2 ^ emax f
    → Rounds f (mul f x y) (unlike (sgn x) (sgn y)) (mag f x * mag f y) (2 ^ low f)
mul_rounds f x y h k l =
    let s = unlike (sgn x) (sgn y) in
    subst (λ (z : Float). Rounds f z s (mag f x * mag f y) (2 ^ low f)) (sym (mul_is f x y (mag f x) (mag f y) h k)) (round_rounds f s (mag f x * mag f y) (2 ^ low f) (pow_pos (low f)) l)

-- ---- the quotient by a whole number above zero
div_is : (f : Format) (x y : Float) (X K : ℕ) → Equals x X (2 ^ low f) → 0 < K → HasValue y false K 1 → div f x y ≡ round f (sgn x) X (K * 2 ^ low f)
unfolding div
div_is f nan y X K h p k = absurd h
div_is f (inf s) y X K h p k = absurd h
div_is f (fin s m e) nan X K h p k = absurd k
div_is f (fin s m e) (inf t) X K h p k = absurd k
div_is f (fin s m e) (fin t n d) X K h p k =
    let n_pos : 0 < n = first_pos n (up d) (subst (λ (z : ℕ). 0 < z) (mul-one (n * up d)) (subst (λ (z : ℕ). 0 < z) (sym k.1) (mul-pos p (down_pos d)))) in
    let den-pos' : 0 < n * up d * down e = mul-pos (mul-pos n_pos (up_pos d)) (down_pos e) in
    pick (eqb n 0) (λ t. no_zero n n_pos (eqb→eq n 0 t)) (cond (eqb m 0) nan (inf (unlike s t))) (round f (unlike s t) (m * up e * down d) (n * up d * down e))
    ∙ ap (λ (b : Bool). round f b (m * up e * down d) (n * up d * down e)) (ap (λ (b : Bool). unlike s b) k.0 ∙ unlike_false s)
    ∙ round_same f s (m * up e * down d) (n * up d * down e) X (K * 2 ^ low f) den-pos' (mul-pos p (pow_pos (low f)))
    (div_cross (m * up e) (n * up d) (down e) (down d) X K (2 ^ low f) h k.1)
  where
    no_zero : (z : ℕ) → 0 < z → z ≡ 0 → ⊥
    no_zero z a b = omega arith

    pick : (b : Bool) → (T b → ⊥) → (u v : Float) → cond b u v ≡ v
    pick true c u v = absurd (c tt)
    pick false c u v = refl

pub div_rounds : (f : Format) (x y : Float) (K : ℕ) → On f x → 0 < K → HasValue y false K 1 → mag f x * 2 ≤ K * 2 ^ low f * 2 ^ emax f → Rounds f (div f x y) (sgn x) (mag f x) K
div_rounds f x y K h p k l = subst (λ (z : Float). Rounds f z (sgn x) (mag f x) K) (sym (div_is f x y (mag f x) K h p k)) (round_rounds f (sgn x) (mag f x) K p l)

-- ---- the sum
abbrev SignedSum : Format → Float → Bool → ℕ → Bool → ℕ → Type 0
SignedSum f z s X t Y = (r : Bool) × (D : ℕ) × (D ≤ X + Y) × (z ≡ round f r D (1 * 2 ^ low f)) × (pp r D + (nn s X + nn t Y) ≡ nn r D + (pp s X + pp t Y))

one_unit : (f : Format) (r : Bool) (N c D : ℕ) → 0 < c → N * 2 ^ low f ≡ D * c → round f r N c ≡ round f r D (1 * 2 ^ low f)
one_unit f r N c D C h = round_same f r N c D (1 * 2 ^ low f) C (mul-pos (pow_pos 0) (pow_pos (low f))) (ap (λ (z : ℕ). N * z) (one-mul (2 ^ low f)) ∙ h)

ordered : (A B c X Y U : ℕ) → 0 < c → A * U ≡ X * c → B * U ≡ Y * c → A ≤ B → X ≤ Y
ordered A B c X Y U C h k l = le_of_mul-le-mul_right (le_trans (le_of_eq (sym h)) (le_trans (mul-le-mul_right U l) (le_of_eq k))) C

module _ (f : Format) (A B c X Y : ℕ) (C : 0 < c) (h : A * 2 ^ low f ≡ X * c) (k : B * 2 ^ low f ≡ Y * c) where
  sum_signed : (s t : Bool) → SignedSum f (sum f s A t B c) s X t Y
  unfolding sum
  sum_signed false false = (false, X + Y, le_refl (X + Y), one_unit f false (A + B) c (X + Y) C (plus_cross A B c X Y (2 ^ low f) h k), omega arith)
  sum_signed true true = (true, X + Y, le_refl (X + Y), one_unit f true (A + B) c (X + Y) C (plus_cross A B c X Y (2 ^ low f) h k), omega arith)
  sum_signed false true = go (ltb A B) (λ u. ordered A B c X Y (2 ^ low f) C h k (le_of_lt (ltb→lt A B u))) (λ u. ordered B A c Y X (2 ^ low f) C k h (nltb→le A B u))
    where
      go : (b : Bool) → (T b → X ≤ Y) → (T (not b) → Y ≤ X) → SignedSum f (cond b (round f true (B - A) c) (round f false (A - B) c)) false X true Y
      go true u v = let l = u tt in (true, Y - X, omega arith, one_unit f true (B - A) c (Y - X) C (minus_cross B A c Y X (2 ^ low f) k h), omega arith)
      go false u v = let l = v tt in (false, X - Y, omega arith, one_unit f false (A - B) c (X - Y) C (minus_cross A B c X Y (2 ^ low f) h k), omega arith)
  sum_signed true false = go (ltb A B) (ltb B A) (λ u. ordered A B c X Y (2 ^ low f) C h k (le_of_lt (ltb→lt A B u)))
      (λ u. ordered B A c Y X (2 ^ low f) C k h (nltb→le A B u)) (λ u. ordered A B c X Y (2 ^ low f) C h k (nltb→le B A u))
    where
      go : (b b' : Bool) → (T b → X ≤ Y) → (T (not b) → Y ≤ X) → (T (not b') → X ≤ Y) → SignedSum f (cond b (round f false (B - A) c) (round f b' (A - B) c)) true X false Y
      go true b' u v w = let l = u tt in (false, Y - X, omega arith, one_unit f false (B - A) c (Y - X) C (minus_cross B A c Y X (2 ^ low f) k h), omega arith)
      go false true u v w = let l = v tt in (true, X - Y, omega arith, one_unit f true (A - B) c (X - Y) C (minus_cross A B c X Y (2 ^ low f) h k), omega arith)
      go false false u v w = let l = v tt in let m = w tt in (false, X - Y, omega arith, one_unit f false (A - B) c (X - Y) C (minus_cross A B c X Y (2 ^ low f) h k), omega arith)

add_signed : (f : Format) (x y : Float) (X Y : ℕ) → Equals x X (2 ^ low f) → Equals y Y (2 ^ low f) → SignedSum f (add f x y) (sgn x) X (sgn y) Y
unfolding add
add_signed f nan y X Y h k = absurd h
add_signed f (inf s) y X Y h k = absurd h
add_signed f (fin s m e) nan X Y h k = absurd k
add_signed f (fin s m e) (inf t) X Y h k = absurd k
add_signed f (fin s m e) (fin t n d) X Y h k =
    sum_signed f (m * up e * down d) (n * up d * down e) (down e * down d) X Y (mul-pos (down_pos e) (down_pos d)) (common (m * up e) (down e) (down d) X (2 ^ low f) h)
    (common (n * up d) (down d) (down e) Y (2 ^ low f) k ∙ ap (λ (z : ℕ). Y * z) (mul_comm (down d) (down e))) s t

-- E bounds half a unit and one part in 2 * Q of anything up to W
cap2 : (Q v W E g : ℕ) → 0 < Q → Near Q v 1 g → v ≤ W → W + Q ≤ E * (2 * Q) → (g ≤ v + E) × (v ≤ g + E)
cap2 Q v W E g q h k l =
    let e : (v + E) * (2 * Q) ≡ v * (2 * Q) + E * (2 * Q) = add-mul v E (2 * Q) in
    let e' : (g + E) * (2 * Q) ≡ g * (2 * Q) + E * (2 * Q) = add-mul g E (2 * Q) in
    let o : g * 1 * (2 * Q) ≡ g * (2 * Q) = ap (λ (z : ℕ). z * (2 * Q)) (mul-one g) in
    let a = h.0 in
    let b = h.1 in
    (le_of_mul-le-mul_right (omega arith) (twice_pos Q q), le_of_mul-le-mul_right (omega arith) (twice_pos Q q))
  where
    twice_pos : (x : ℕ) → 0 < x → 0 < 2 * x
    twice_pos x p = omega arith

off_sign : (s : Bool) (g v E P N : ℕ) → g ≤ v + E → v ≤ g + E → pp s v + N ≡ nn s v + P → Off (pp s g) (nn s g) P N E
off_sign false g v E P N a b e = (omega arith, omega arith)
off_sign true g v E P N a b e = (omega arith, omega arith)

pub add_off : (f : Format) (x y : Float) (E : ℕ) → On f x → On f y → (mag f x + mag f y) * 2 ≤ 2 ^ low f * 2 ^ emax f → mag f x + mag f y + half f ≤ E * (2 * half f)
    → On f (add f x y) × Off (plus f (add f x y)) (minus f (add f x y)) (plus f x + plus f y) (minus f x + minus f y) E
add_off f x y E h k l w =
    let X = mag f x in
    let Y = mag f y in
    let r = add_signed f x y X Y h k in
    let s = r.0 in
    let D = r.1 in
    let z = round f s D (1 * 2 ^ low f) in
    let R = round_rounds f s D 1 (pow_pos 0) (le_trans (mul-le-mul_right 2 r.2) (le_trans l (le_of_eq (one_more (2 ^ low f) (2 ^ emax f))))) in
    let c = cap2 (half f) D (X + Y) E (mag f z) (pow_pos (prec f - 1)) R.2 r.2 w in
    let P = plus f x + plus f y in
    let N = minus f x + minus f y in
    subst (λ (u : Float). On f u × Off (plus f u) (minus f u) P N E) (sym r.3)
    (R.0, subst (λ (b : Bool). Off (pp b (mag f z)) (nn b (mag f z)) P N E) (sym R.1) (off_sign s (mag f z) D E P N c.0 c.1 r.4))
  where
    one_more : (U E : ℕ) → U * E ≡ 1 * U * E
    one_more U E = ap (λ (z : ℕ). z * E) (sym (one-mul U))

-- ---- the magnitudes alone
off_mag : (s : Bool) (g P N E : ℕ) → Off (pp s g) (nn s g) P N E → g ≤ P + N + E
off_mag false g P N E h = let a = h.0 in omega arith
off_mag true g P N E h = let a = h.1 in omega arith

pub add-le : (f : Format) (x y : Float) (E : ℕ) → Off (plus f (add f x y)) (minus f (add f x y)) (plus f x + plus f y) (minus f x + minus f y) E → mag f (add f x y) ≤ mag f x + mag f y + E
add-le f x y E h =
    let a = off_mag (sgn (add f x y)) (mag f (add f x y)) (plus f x + plus f y) (minus f x + minus f y) E h in
    let u = parts (sgn x) (mag f x) in
    let v = parts (sgn y) (mag f y) in
    omega arith
