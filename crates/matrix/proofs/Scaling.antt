-- The scaled matrix: where 2 ^ s is twice the largest row sum at least, the rows of the matrix divided by 2 ^ s sum to little more than a half. Assumes nothing.
use Rattle.std.proofs.Common.{◌≡◌, refl, sym, ap, ◌∙◌, subst, inl, inr, ℕ, zero, suc, ◌+◌, ◌-◌, ◌*◌, ◌/◌, ◌%◌, ◌^◌, ◌≤◌, ◌<◌, le_trans, le_refl, le_of_eq, eq-or-lt_of_le, zero-lt-suc, zero-mul, add-mul, mul-one, mul_comm, mul_assoc, mul_left_comm, mul_right_comm, mul-le-mul_right, mul-le-mul_left, mul-pos, le_of_mul-le-mul_right, le_of_suc-le-suc, one-mul, arith, Bool, true, false, cond, ◌&&◌, true≢false, T, leb, ltb, eqb, leb→le, pow_pos, pow-add, pos, negsuc, Float}
use Rattle.std.proofs.Math.Nat.{le-suc}
use Rattle.std.proofs.Math.Bool.{beq}
use Rattle.std.specs.Float.Ieee.{nan, inf, fin, binary64, emax, up, down, fits, add, round, sum}
use lib.Ieee.Digits.{back}
use lib.Ieee.Fits.{down_pos, and_l, and_r}
use lib.Ieee.Exact.{HasValue}
use lib.Ieee.Scale.{finite, grid, round_same, round_under, round_val}
use Rattle.float.specs.Arith.{◌⊕◌, ◌⊘◌, abs, sum_of}
use Rattle.matrix.specs.Matrix.{power}
use Rattle.float.proofs.Round.{half, grid_up, grid_down}
use Rattle.float.proofs.Mag.{Near, near_cancel, equals_on, equals_mag, value_equals, plus_cross, common}
use Rattle.float.proofs.Signed.{sgn, Rounds, div_rounds}
use Rattle.float.proofs.Total.{total, entry_le}
use Rattle.matrix.proofs.RowSums.{On64, mag64, unit64, lit_left, crude, spread, big_unit}
use Rattle.float.proofs.Same.{below}
use Rattle.matrix.proofs.Stop.{Pos64, abs_pos, abs_mag}

-- ---- a binary64 value that is finite is a whole number of units
neg_exp : (m k l : ℕ) → suc k ≤ l → m * 1 * 2 ^ l ≡ m * 2 ^ (l - suc k) * 2 ^ suc k
neg_exp m k l h = ap (λ (z : ℕ). z * 2 ^ l) (mul-one m) ∙ ap (λ (z : ℕ). m * z) (ap (λ (z : ℕ). 2 ^ z) (sym (back l (suc k) h)) ∙ pow-add 2 (l - suc k) (suc k))
    ∙ sym (mul_assoc m (2 ^ (l - suc k)) (2 ^ suc k))

pub fits_on : (x : Float) → T (fits binary64 x) → T (finite x) → On64 x
unfolding fits
fits_on nan f t = absurd t
fits_on (inf s) f t = absurd t
fits_on (fin s zero e) f t = equals_on binary64 (fin s 0 e) 0 (ap (λ (z : ℕ). z * unit64) (zero-mul (up e)) ∙ zero-mul unit64 ∙ sym (zero-mul (down e)))
fits_on (fin s (suc m) (pos k)) f t = equals_on binary64 (fin s (suc m) (pos k)) (suc m * 2 ^ k * unit64) (sym (mul-one (suc m * 2 ^ k * unit64)))
fits_on (fin s (suc m) (negsuc k)) f t =
    let a : Bool = eqb (suc m % 2) 1 in
    let b : Bool = ltb (suc m) (2 ^ 53) in
    let c : Bool = leb (2 ^ suc k) unit64 in
    let d : Bool = ltb (suc m * 1) (2 ^ 1024 * 2 ^ suc k) in
    let l : suc k ≤ 1074 = below (suc k) 1074 (leb→le (2 ^ suc k) unit64 (and_r (a && b) c (and_l (a && b && c) d f))) in
    equals_on binary64 (fin s (suc m) (negsuc k)) (suc m * 2 ^ (1074 - suc k)) (neg_exp (suc m) k 1074 l)

-- ---- the sum of two values that are not negative
finite_sum : (x y : Float) → T (finite (x ⊕ y)) → T (finite x) × T (finite y)
unfolding add
finite_sum nan y t = absurd t
finite_sum (inf s) nan t = absurd t
finite_sum (inf s) (inf s') t = absurd (never (beq s s') t)
  where
    never : (b : Bool) → T (finite (cond b (inf s) nan)) → ⊥
    never true t = t
    never false t = t
finite_sum (inf s) (fin s' n d) t = absurd t
finite_sum (fin s m e) nan t = absurd t
finite_sum (fin s m e) (inf s') t = absurd t
finite_sum (fin s m e) (fin s' n d) t = (tt, tt)

finite-abs : (x : Float) → T (finite (abs x)) → T (finite x)
unfolding abs
finite-abs nan t = t
finite-abs (inf s) t = t
finite-abs (fin s m e) t = tt

add-eq : (x y : Float) (X Y : ℕ) → HasValue x false X unit64 → HasValue y false Y unit64 → x ⊕ y ≡ round binary64 false (X + Y) unit64
unfolding add sum
add-eq nan y X Y h k = absurd h
add-eq (inf s) y X Y h k = absurd h
add-eq (fin true m e) y X Y h k = absurd (true≢false h.0)
add-eq (fin false m e) nan X Y h k = absurd k
add-eq (fin false m e) (inf s) X Y h k = absurd k
add-eq (fin false m e) (fin true n d) X Y h k = absurd (true≢false k.0)
add-eq (fin false m e) (fin false n d) X Y h k =
    let c = down e * down d in
    round_same binary64 false (m * up e * down d + n * up d * down e) c (X + Y) unit64 (mul-pos (down_pos e) (down_pos d)) (pow_pos 1074)
    (plus_cross (m * up e * down d) (n * up d * down e) c X Y unit64 (common (m * up e) (down e) (down d) X unit64 h.1)
    (common (n * up d) (down d) (down e) Y unit64 k.1 ∙ ap (λ (z : ℕ). Y * z) (mul_comm (down d) (down e))))

pub add_pos : (x y : Float) → Pos64 x → Pos64 y → T (finite (x ⊕ y)) → Pos64 (x ⊕ y) × Near (half binary64) (mag64 x + mag64 y) 1 (mag64 (x ⊕ y))
add_pos x y h k t =
    let v = mag64 x + mag64 y in
    let e = add-eq x y (mag64 x) (mag64 y) h k in
    let g = grid binary64 v unit64 in
    let r = round_val binary64 v unit64 (round_under binary64 v unit64 (subst (λ (z : Float). T (finite z)) e t)) in
    let z = round binary64 false v unit64 in
    let q : mag64 z ≡ g = equals_mag binary64 z g (value_equals z false g unit64 r) in
    let n : Near (half binary64) (v * unit64) unit64 g = (grid_up binary64 v unit64 (pow_pos 1074), grid_down binary64 v unit64 (pow_pos 1074)) in
    subst (λ (w : Float). Pos64 w × Near (half binary64) v 1 (mag64 w)) (sym e)
    (subst (λ (w : ℕ). HasValue z false w unit64 × Near (half binary64) v 1 w) (sym q)
    (r, near_cancel (half binary64) v 1 unit64 g (pow_pos 1074) (subst (λ (w : ℕ). Near (half binary64) (v * unit64) w g) (sym (one-mul unit64)) n)))

-- ---- the sum of a row: the exact sum is little more than the rounded one
loss : (v g : ℕ) → Near (half binary64) v 1 g → v * 1048576 ≤ g * 1048577 + 1048576
loss v g h = let u = h.1 in let e : g * 1 * (2 * half binary64) ≡ g * (2 * half binary64) = ap (λ (z : ℕ). z * (2 * half binary64)) (mul-one g) in omega arith

-- w is 1024 + j, for j up to 20
grow : (A a g v g' w j : ℕ) → 1024 * A ≤ g * w + 2048 * j → v ≡ g + a → v * 1048576 ≤ g' * 1048577 + 1048576 → 1024 ≤ w → w ≤ 1044 → 1024 * (A + a) ≤ g' * suc w + 2048 * suc j
grow A a g v g' w j h e l lo hi =
    let p : v * w ≡ g * w + a * w = ap (λ (z : ℕ). z * w) e ∙ add-mul g a w in
    let q : a * 1024 ≤ a * w = mul-le-mul_left a lo in
    let r : v * w * 1048576 ≤ g' * w * 1048577 + 1048576 * w = le_trans (le_of_eq (mul_right_comm v w 1048576))
    (le_trans (mul-le-mul_right w l) (le_of_eq (add-mul (g' * 1048577) 1048576 w ∙ ap (λ (z : ℕ). z + 1048576 * w) (mul_right_comm g' 1048577 w)))) in
    let s : g' * w ≤ g' * 1044 = mul-le-mul_left g' hi in
    let t : g' * suc w ≡ g' * w + g' = native.Mathlib.Nat.mul-suc g' w in
    let one : v * w ≤ g' * w + g' + 1050 = omega arith in
    omega arith

pub abs_sum : (k : ℕ) (f : ℕ → Float) → suc k ≤ 20 → ((j : ℕ) → j < suc k → T (fits binary64 (f j))) → T (finite (sum_of (suc k) (λ j. abs (f j))))
    → ((j : ℕ) → j < suc k → On64 (f j)) × Pos64 (sum_of (suc k) (λ j. abs (f j))) × (1024 * total (suc k) (λ j. mag64 (f j)) ≤ mag64 (sum_of (suc k) (λ j. abs (f j))) * (1024 + suc k) + 2048 * suc k)
unfolding sum_of total
abs_sum zero f l fit t =
    let o = fits_on (f 0) (fit 0 (zero-lt-suc 0)) (finite-abs (f 0) t) in
    (λ j h. subst (λ (z : ℕ). On64 (f z)) (sym (only j h)) o, abs_pos (f 0) o, base (mag64 (f 0)) (mag64 (abs (f 0))) (abs_mag (f 0)))
  where
    only : (j : ℕ) → j < 1 → j ≡ 0
    only j h = omega arith

    base : (x y : ℕ) → y ≡ x → 1024 * (0 + x) ≤ y * (1024 + 1) + 2048 * 1
    base x y e = omega arith
abs_sum (suc k) f l fit t =
    let s = sum_of (suc k) (λ j. abs (f j)) in
    let y = abs (f (suc k)) in
    let ft = finite_sum s y t in
    let ih = abs_sum k f (le_trans (le-suc (suc k)) l) (λ j h. fit j (le_trans h (le-suc (suc k)))) ft.0 in
    let o = fits_on (f (suc k)) (fit (suc k) (le_refl (suc (suc k)))) (finite-abs (f (suc k)) ft.1) in
    let ad = add_pos s y ih.1 (abs_pos (f (suc k)) o) t in
    let v = mag64 s + mag64 y in (
      λ j h. pick j h ih.0 o,
      ad.0,
      subst (λ (z : ℕ). 1024 * (total (suc k) (λ j. mag64 (f j)) + mag64 (f (suc k))) ≤ mag64 (s ⊕ y) * z + 2048 * suc (suc k)) (sym (native.Mathlib.Nat.add-suc 1024 (suc k)))
          (grow (total (suc k) (λ j. mag64 (f j))) (mag64 (f (suc k))) (mag64 s) v (mag64 (s ⊕ y)) (1024 + suc k) (suc k) ih.2 (ap (λ (z : ℕ). mag64 s + z) (abs_mag (f (suc k))))
          (loss v (mag64 (s ⊕ y)) ad.1) (low1 (suc k)) (high1 (suc k) (le_trans (le-suc (suc k)) l))),
    )
  where
    low1 : (x : ℕ) → 1024 ≤ 1024 + x
    low1 x = omega arith

    high1 : (x : ℕ) → x ≤ 20 → 1024 + x ≤ 1044
    high1 x h = omega arith

    pick : (j : ℕ) → j < suc (suc k) → ((i : ℕ) → i < suc k → On64 (f i)) → On64 (f (suc k)) → On64 (f j)
    pick j h a b = elim (eq-or-lt_of_le (le_of_suc-le-suc h)) [ inl e ↦ subst (λ (z : ℕ). On64 (f z)) (sym e) b | inr q ↦ a j q ]

-- ---- one row, scaled
two-pow-value : (s : ℕ) → HasValue (power s) false (2 ^ s) 1
two-pow-value s = (refl, ap (λ (z : ℕ). z * 1) (one-mul (2 ^ s)))

tail : (k A g : ℕ) → k ≤ 20 → 1024 * A ≤ g * (1024 + k) + 2048 * k → 1024 * A ≤ g * 1044 + 40960
tail k A g h l = let a : g * (1024 + k) ≤ g * 1044 = mul-le-mul_left g (up' k h) in omega arith
  where
    up' : (x : ℕ) → x ≤ 20 → 1024 + x ≤ 1044
    up' x h = omega arith

fair : (A g w : ℕ) → 1024 * A ≤ g * 1044 + 40960 → g * 2 ≤ w → 1048576 ≤ w → A ≤ w
fair A g w h l k = omega arith

-- z is 2 ^ s, zb is z * B, and w is z units
shrunk : (zb A g w z n : ℕ) → n ≤ 20 → zb * 1024 ≤ 1025 * A + n * (z * 1024) → 1024 * A ≤ g * 1044 + 40960 → g * 2 ≤ w → 1048576 * z ≤ w → 0 < z → zb * 1024 ≤ 530 * w
shrunk zb A g w z n n20 h a l k p =
    let m : n * (z * 1024) ≤ 20 * (z * 1024) = mul-le-mul_right (z * 1024) n20 in
    let a' : 1024 * A ≤ w * 522 + 40960 = omega arith in
    let b : zb * 1048576 ≤ 1025 * (1024 * A) + 20971520 * z = omega arith in
    finish zb (1024 * A) w z a' b k p
  where
    finish : (zb A w z : ℕ) → A ≤ w * 522 + 40960 → zb * 1048576 ≤ 1025 * A + 20971520 * z → 1048576 * z ≤ w → 0 < z → zb * 1024 ≤ 530 * w
    finish zb A w z a b k p = omega arith

abbrev pub β64 : ℕ
β64 = unit64 * 530 / 1024

pub scaled_row : (k s : ℕ) (f : ℕ → Float) → suc k ≤ 20 → ((j : ℕ) → j < suc k → T (fits binary64 (f j)))
    → T (finite (sum_of (suc k) (λ j. abs (f j)))) → mag64 (sum_of (suc k) (λ j. abs (f j))) * 2 ≤ 2 ^ s * unit64
    → ((j : ℕ) → j < suc k → On64 (f j ⊘ power s)) × (total (suc k) (λ j. mag64 (f j ⊘ power s)) * 1024 ≤ unit64 * 530)
scaled_row k s f n20 fit t l =
    let n = suc k in
    let y = power s in
    let z = 2 ^ s in
    let r = abs_sum k f n20 fit t in
    let A = total n (λ j. mag64 (f j)) in
    let g = mag64 (sum_of n (λ j. abs (f j))) in
    let w = z * unit64 in
    let ta : 1024 * A ≤ g * 1044 + 40960 = tail n A g n20 r.2 in
    let zw : 1048576 * z ≤ w = le_trans (le_of_eq (mul_comm 1048576 z)) (mul-le-mul_left z big_unit) in
    let bw : 1048576 ≤ w = le_trans (le_of_eq (sym (mul-one 1048576))) (le_trans (mul-le-mul_left 1048576 (pow_pos s)) zw) in
    let q : (j : ℕ) → j < n → Rounds binary64 (f j ⊘ y) (sgn (f j)) (mag64 (f j)) z = λ j hj.
    div_rounds binary64 (f j) y z (r.0 j hj) (pow_pos s) (two-pow-value s)
    (le_trans (mul-le-mul_right 2 (le_trans (entry_le n (λ i. mag64 (f i)) j hj) (fair A g w ta l bw))) (lit_left w 2 (2 ^ emax binary64) tt)) in
    let B = total n (λ j. mag64 (f j ⊘ y)) in
    let sp : z * 1024 * B ≤ 1025 * A + n * (z * 1024) = spread n (z * 1024) 1025 (z * 1024) (λ j. mag64 (f j ⊘ y)) (λ j. mag64 (f j)) (λ j hj. crude (mag64 (f j)) z (mag64 (f j ⊘ y)) (q j hj).2) in
    let sp' : z * B * 1024 ≤ 1025 * A + n * (z * 1024) = le_trans (le_of_eq (mul_right_comm z B 1024)) sp in
    let sh : z * B * 1024 ≤ 530 * w = shrunk (z * B) A g w z n n20 sp' ta l zw (pow_pos s) in
    (λ j hj. (q j hj).0, le_of_mul-le-mul_right (le_trans (le_of_eq (turn B z)) (le_trans sh (le_of_eq (turn' z unit64)))) (pow_pos s))
  where
    turn : (B z : ℕ) → B * 1024 * z ≡ z * B * 1024
    turn B z = simp (mul_assoc, mul_comm, mul_left_comm)

    turn' : (z U : ℕ) → 530 * (z * U) ≡ U * 530 * z
    turn' z U = simp (mul_assoc, mul_comm, mul_left_comm)
