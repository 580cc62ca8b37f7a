-- Where q is the whole part of a number's root, to 53 digits, the remainder tells `nearest_root`. And what `root` gives, by what number its argument is. Assumes nothing.
use Rattle.std.proofs.Common.{◌≡◌, refl, sym, ap, ◌∙◌, subst, ℕ, zero, suc, ◌+◌, ◌-◌, ◌*◌, ◌/◌, ◌^◌, ◌≤◌, ◌<◌, le_trans, le_of_eq, le_of_lt, lt_of_lt_of_le, lt_of_le_of_lt, lt_irrefl, mul_assoc, mul_right_comm, mul-pos, mul-le-mul_right, mul-lt-mul_of_pos_right, mul-div_cancel, zero-mul, add-one, arith, Bool, true, false, not, cond, ℤ, T, ltb, ltb→lt, nltb→le, le→leb, eqb→eq, leb→le, lit≤, pow-add, pow_pos, Float}
use Prim.Native.Nat.{compare, Ordering}
use Rattle.std.proofs.Math.Nat.{pow-le-pow_left, div-eq_of_lt-le}
use Rattle.std.proofs.Math.Dec.{is_le, compare_is_eq}
use Rattle.std.specs.Float.Ieee.{nan, inf, fin, Format, binary64, low, up, down, size, nearest, odd}
use lib.Ieee.Digits.{size-lt, size-le}
use lib.Ieee.Fits.{down_pos}
use lib.Ieee.Exact.{HasValue}
use Rattle.float.specs.Root.{square, floor_root, nearest_root, root}
use Rattle.float.proofs.Square.{square-suc, square_odd, square-mul, floor_is, floor_div, pow_lt_back}
use Rattle.float.specs.Digits.{Rooted}

-- ---- what `compare` says
compare_lt : (a b : ℕ) → a < b → compare a b ≡ Ordering.lt
compare_lt a b h = go (compare a b) (le→leb a b (le_of_lt h)) (eqb→eq a b)
  where
    go : (o : Ordering) → T (is_le o) → (T (compare_is_eq o) → a ≡ b) → o ≡ Ordering.lt
    go Ordering.lt t e = refl
    go Ordering.eq t e = absurd (lt_irrefl b (subst (λ (x : ℕ). x < b) (e tt) h))
    go Ordering.gt t e = absurd t

compare_gt : (a b : ℕ) → b < a → compare a b ≡ Ordering.gt
compare_gt a b h = go (compare a b) (leb→le a b)
  where
    go : (o : Ordering) → (T (is_le o) → a ≤ b) → o ≡ Ordering.gt
    go Ordering.lt l = absurd (lt_irrefl b (lt_of_lt_of_le h (l tt)))
    go Ordering.eq l = absurd (lt_irrefl b (lt_of_lt_of_le h (l tt)))
    go Ordering.gt l = refl

-- ---- the digits that are kept, and how many are dropped
both : (z k : ℕ) → z ≤ 53 + k → 52 + k < z → z - 53 ≡ k
both z k a b = omega arith

dropped : (w q k : ℕ) → 2 ^ 52 ≤ q → q < 2 ^ 53 → q * 2 ^ k ≤ w → w < suc q * 2 ^ k → size w - 53 ≡ k
dropped w q k a b c d =
    let lo : 2 ^ (52 + k) ≤ w = le_trans (le_of_eq (pow-add 2 52 k)) (le_trans (mul-le-mul_right (2 ^ k) a) c) in
    let hi : w < 2 ^ (53 + k) = lt_of_lt_of_le d (le_trans (mul-le-mul_right (2 ^ k) b) (le_of_eq (sym (pow-add 2 53 k)))) in
    both (size w) k (size-le w (53 + k) hi) (pow_lt_back (52 + k) (size w) (lt_of_le_of_lt lo (size-lt w)))

kept : (w q k : ℕ) → q * 2 ^ k ≤ w → w < suc q * 2 ^ k → w / 2 ^ k ≡ q
kept w q k c d = div-eq_of_lt-le (2 ^ k) c (subst (λ (x : ℕ). w < x * 2 ^ k) (sym (add-one q)) d)

-- ---- the square of what lies midway between q and q + 1, and the number: there is no tie
pub midway_below : (n q rest : ℕ) → Rooted n q rest → q < rest → square (2 * q + 1) < 4 * n
midway_below n q rest h k = omega (arith, h.whole, square_odd q)

pub midway_above : (n q rest : ℕ) → Rooted n q rest → rest ≤ q → 4 * n < square (2 * q + 1)
midway_above n q rest h k = omega (arith, h.whole, square_odd q)

-- both multiplied by the square of p
pub scale-lt : (a b p : ℕ) → 0 < p → square a < 4 * b → square (a * p) < 4 * (b * square p)
scale-lt a b p P h = lt_of_le_of_lt (le_of_eq (square-mul a p)) (lt_of_lt_of_le (mul-lt-mul_of_pos_right h (mul-pos P P)) (le_of_eq (mul_assoc 4 b (square p))))

pub scale_gt : (a b p : ℕ) → 0 < p → 4 * b < square a → 4 * (b * square p) < square (a * p)
scale_gt a b p P h = lt_of_le_of_lt (le_of_eq (sym (mul_assoc 4 b (square p)))) (lt_of_lt_of_le (mul-lt-mul_of_pos_right h (mul-pos P P)) (le_of_eq (sym (square-mul a p))))

pick : (n q rest k : ℕ) → Rooted n q rest → nearest q (compare (4 * (n * square (2 ^ k))) (square ((2 * q + 1) * 2 ^ k))) ≡ cond (ltb q rest) (suc q) q
pick n q rest k h = go (ltb q rest) (ltb→lt q rest) (nltb→le q rest)
  where
    go : (b : Bool) → (T b → q < rest) → (T (not b) → rest ≤ q) → nearest q (compare (4 * (n * square (2 ^ k))) (square ((2 * q + 1) * 2 ^ k))) ≡ cond b (suc q) q
    go true y o = ap (nearest q) (compare_gt (4 * (n * square (2 ^ k))) (square ((2 * q + 1) * 2 ^ k)) (scale-lt (2 * q + 1) n (2 ^ k) (pow_pos k) (midway_below n q rest h (y tt))))
    go false y o = ap (nearest q) (compare_lt (4 * (n * square (2 ^ k))) (square ((2 * q + 1) * 2 ^ k)) (scale_gt (2 * q + 1) n (2 ^ k) (pow_pos k) (midway_above n q rest h (o tt))))

-- `nearest_root`, from its w on
abbrev from : ℕ → ℕ → ℕ → ℕ → Float
from n w k q = odd 53 false (nearest q (compare (4 * n) (square ((2 * q + 1) * 2 ^ k)))) k 1074

opened : (n : ℕ) → nearest_root binary64 n ≡ from n (floor_root (size n) n) (size (floor_root (size n) n) - 53) (floor_root (size n) n / 2 ^ (size (floor_root (size n) n) - 53))
unfolding nearest_root
opened n = refl

whole_below : (n q rest : ℕ) → Rooted n q rest → square q ≤ n
whole_below n q rest h = omega (arith, h.whole)

whole_above : (n q rest : ℕ) → Rooted n q rest → n < square (suc q)
whole_above n q rest h = omega (arith, h.whole, h.short, square-suc q)

pub nearest_is : (n q rest k : ℕ) → 2 ^ 52 ≤ q → q < 2 ^ 53 → Rooted n q rest → nearest_root binary64 (n * square (2 ^ k)) ≡ odd 53 false (cond (ltb q rest) (suc q) q) k 1074
nearest_is n q rest k a b h =
    let N = n * square (2 ^ k) in
    let P : 0 < square (2 ^ k) = mul-pos (pow_pos k) (pow_pos k) in
    let w = floor_root (size N) N in
    let f = floor_is (size N) N (lt_of_lt_of_le (size-lt N) (pow-le-pow_left (lit≤ tt) (size N))) in
    let i = floor_div N q (2 ^ k) w (pow_pos k) f.0 f.1
    (le_trans (le_of_eq (square-mul q (2 ^ k))) (mul-le-mul_right (square (2 ^ k)) (whole_below n q rest h)))
    (lt_of_lt_of_le (mul-lt-mul_of_pos_right (whole_above n q rest h) P) (le_of_eq (sym (square-mul (suc q) (2 ^ k))))) in
    opened N
    ∙ ap (λ (x : ℕ). from N w x (w / 2 ^ x)) (dropped w q k a b i.0 i.1)
    ∙ ap (λ (x : ℕ). from N w k x) (kept w q k i.0 i.1)
    ∙ ap (λ (x : ℕ). odd 53 false x k 1074) (pick n q rest k h)

-- ---- what `root` gives
none_left : (m a d u l : ℕ) → m ≡ 0 → m * u * l ≡ a * d → 0 < a → 0 < d → ⊥
none_left m a d u l z e A D =
    lt_irrefl 0 (lt_of_lt_of_le (mul-pos A D) (le_of_eq (sym e ∙ ap (λ (x : ℕ). x * u * l) z ∙ ap (λ (x : ℕ). x * l) (zero-mul u) ∙ zero-mul l)))

pub in_squares_lem : (m a : ℕ) (e : ℤ) (l : ℕ) → m * up e * l ≡ a * down e → m * up e * (l * l) / down e ≡ a * l
in_squares_lem m a e l h =
    ap (λ (x : ℕ). x / down e) (sym (mul_assoc (m * up e) l l) ∙ ap (λ (x : ℕ). x * l) h ∙ mul_right_comm a (down e) l)
    ∙ mul-div_cancel (a * l) (down_pos e)

pub root-positive : (f : Format) (x : Float) (a : ℕ) → HasValue x false a (2 ^ low f) → 0 < a → root f x ≡ nearest_root f (a * 2 ^ low f)
unfolding root
root-positive f nan a h p = absurd h
root-positive f (inf s) a h p = absurd h
root-positive f (fin s zero e) a h p = absurd (none_left 0 a (down e) (up e) (2 ^ low f) refl h.1 p (down_pos e))
root-positive f (fin true (suc m) e) a h p = absurd (subst (λ (b : Bool). T (not b)) (sym h.0) tt)
root-positive f (fin false (suc m) e) a h p = ap (nearest_root f) (in_squares_lem (suc m) a e (2 ^ low f) h.1)

pub root_negative : (f : Format) (x : Float) (a : ℕ) → HasValue x true a (2 ^ low f) → 0 < a → root f x ≡ nan
unfolding root
root_negative f nan a h p = absurd h
root_negative f (inf s) a h p = absurd h
root_negative f (fin s zero e) a h p = absurd (none_left 0 a (down e) (up e) (2 ^ low f) refl h.1 p (down_pos e))
root_negative f (fin true (suc m) e) a h p = refl
root_negative f (fin false (suc m) e) a h p = absurd (subst T (sym h.0) tt)
