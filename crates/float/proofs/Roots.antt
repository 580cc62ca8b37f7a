-- The laws of the square root at binary64, for every double that is above zero and finite: its root is enclosed, it is the double nearest to the exact root, and the only one; it fits, and it
-- is no subnormal. And the root of any double fits. Assumes nothing.
use Rattle.std.proofs.Common.{◌≡◌, refl, sym, ap, ◌∙◌, subst, ℕ, zero, suc, ◌+◌, ◌-◌, ◌*◌, ◌/◌, ◌%◌, ◌^◌, ◌≤◌, ◌<◌, le_trans, le_of_eq, le_antisymm, le_of_mul-le-mul_right, mul-le-mul_left, mul_assoc, mul_comm, sub-add_cancel, pow-suc, zero-lt-suc, lt_of_lt_of_le, lt_of_not-le, mul-one, mul-le-mul, eq-zero-or-pos, add-sub_of_le, arith, ⊎_elim, inl, inr, Bool, true, false, not, cond, T, leb, ltb, eqb, ltb→lt, lt→ltb, nltb→le, le→leb, lit≤, pow-add, pow_pos, ℤ, Float}
use Rattle.std.proofs.Math.Decide.{dec_le}
use Rattle.std.proofs.Math.Nat.{pow-le-pow_left}
use lib.Count.{count_leading_zeros}
use Rattle.std.specs.Float.Ieee.{nan, inf, fin, binary64, size, odd, fits, of_fields, of_bits, to_bits}
use lib.Ieee.Bits.{is_true, of_bits-to_bits, to_bits-lt}
use lib.Ieee.Digits.{size-lt}
use lib.Ieee.Fits.{nan-fits, inf-fits}
use lib.Ieee.Exact.{HasValue, odd_sign}
use lib.Ieee.Positive.{positive}
use Rattle.float.specs.Root.{square, floor_root, root, sqrt, in_units, in_squares, Reaches, Enclosed, IsRoot}
use Rattle.float.proofs.Square.{square-suc, square_odd, square-mul, square_mono, floor_is}
use Rattle.float.specs.Digits.{Rooted, Split, Halved, squares_of}
use Rattle.float.proofs.Steps.{low_is, high_is, unpack_low, unpack_high, halve_even, halve_odd}
use Rattle.float.proofs.Bits.{of_bits_is, plus, reads_low, reads_high}
use Rattle.float.proofs.Midway.{in_squares_lem}
use Rattle.float.proofs.Strict.{Strict, parts_enclosed, parts_root, parts_power}
use Rattle.float.proofs.Cases.{root_of_bits}
use Rattle.float.proofs.Nearest.{NearestTo, odd_units, fits_in, odd_positive, enclosed_nearest, nearest_only}

-- ---- the pattern of a double that is above zero and finite
odd_minus : (q k : ℕ) → T (positive (odd 53 true q k 1074)) → ⊥
unfolding odd
odd_minus zero k p = p
odd_minus (suc q) k p = p

none_below : (x t : ℕ) → T (positive (of_fields binary64 true x t)) → ⊥
unfolding of_fields
none_below zero t p = odd_minus t 0 p
none_below (suc x) t p = go (eqb (suc x) 2047) (eqb t 0) p
  where
    go : (u v : Bool) → T (positive (cond u (cond v (inf true) nan) (odd 53 true (2 ^ 52 + t) x 1074))) → ⊥
    go true true p = p
    go true false p = p
    go false v p = odd_minus (2 ^ 52 + t) x p

none_at_ones : (t : ℕ) → T (positive (of_fields binary64 false 2047 t)) → ⊥
unfolding of_fields
none_at_ones t p = go (eqb t 0) p
  where
    go : (v : Bool) → T (positive (cond v (inf false) nan)) → ⊥
    go true p = p
    go false p = p

none_at_zero : T (positive (of_bits binary64 0)) → ⊥
unfolding of_bits of_fields odd
none_at_zero p = p

positive_bits : (b : ℕ) → b < 2 ^ 64 → T (positive (of_bits binary64 b)) → (0 < b) × (b < 0x7ff0_0000_0000_0000)
positive_bits b h p =
    (⊎_elim (λ z. absurd (none_at_zero (subst (λ (x : ℕ). T (positive (of_bits binary64 x))) z p))) (λ l. l) (eq-zero-or-pos b), lt_of_not-le (λ (g : 0x7ff0_0000_0000_0000 ≤ b). big g))
  where
    ones : (b : ℕ) → 0x7ff0_0000_0000_0000 ≤ b → b < 2 ^ 63 → b / 2 ^ 52 ≡ 2047
    ones b g l = omega arith

    big : 0x7ff0_0000_0000_0000 ≤ b → ⊥
    big g = go (ltb b (2 ^ 63)) (ltb→lt b (2 ^ 63)) (nltb→le b (2 ^ 63))
      where
        go : (t : Bool) → (T t → b < 2 ^ 63) → (T (not t) → 2 ^ 63 ≤ b) → ⊥
        go true y o = none_at_ones (b % 2 ^ 52) (subst (λ (v : Float). T (positive v)) (plus b (y tt) ∙ ap (λ (x : ℕ). of_fields binary64 false x (b % 2 ^ 52)) (ones b g (y tt))) p)
        go false y o =
            none_below (b % 2 ^ 63 / 2 ^ 52) (b % 2 ^ 52)
            (subst (λ (v : Float). T (positive v)) (of_bits_is b ∙ ap (λ (s : Bool). of_fields binary64 s (b % 2 ^ 63 / 2 ^ 52) (b % 2 ^ 52)) (is_true (leb (2 ^ 63) b) (le→leb (2 ^ 63) b (o tt)))) p)

-- ---- its number
squares_value : (x : Float) (s : Bool) (a : ℕ) → HasValue x s a (2 ^ 1074) → in_squares x ≡ a * 2 ^ 1074
unfolding in_squares
squares_value nan s a h = absurd h
squares_value (inf t) s a h = absurd h
squares_value (fin t m e) s a h = in_squares_lem m a e (2 ^ 1074) h.1

bits_squares : (b : ℕ) → b < 0x7ff0_0000_0000_0000 → in_squares (of_bits binary64 b) ≡ squares_of b
bits_squares b h = go (ltb b (2 ^ 52)) (ltb→lt b (2 ^ 52)) (nltb→le b (2 ^ 52))
  where
    go : (t : Bool) → (T t → b < 2 ^ 52) → (T (not t) → 2 ^ 52 ≤ b) → in_squares (of_bits binary64 b) ≡ squares_of b
    go true y o =
        ap in_squares (reads_low b (y tt))
        ∙ squares_value (odd 53 false b 0 1074) false (b * 2 ^ 0) (odd_sign 53 false b 0 1074)
        ∙ ap (λ (x : ℕ). x * 2 ^ 1074) (mul-one b)
        ∙ sym (low_is b (y tt))
    go false y o =
        let q = b % 2 ^ 52 + 2 ^ 52 in
        let k = b / 2 ^ 52 - 1 in
        ap in_squares (reads_high b (o tt) h) ∙ squares_value (odd 53 false q k 1074) false (q * 2 ^ k) (odd_sign 53 false q k 1074) ∙ sym (high_is b (o tt))

-- ---- its parts
split : (b : ℕ) → 0 < b → b < 0x7ff0_0000_0000_0000 → (d : ℕ) × (p : ℕ) × Split (squares_of b) d p
split b p h = go (ltb b (2 ^ 52)) (ltb→lt b (2 ^ 52)) (nltb→le b (2 ^ 52))
  where
    go : (t : Bool) → (T t → b < 2 ^ 52) → (T (not t) → 2 ^ 52 ≤ b) → (d : ℕ) × (p : ℕ) × Split (squares_of b) d p
    go true y o = (b * 2 ^ (count_leading_zeros 64 b - 11) % 2 ^ 64, 1074 - (count_leading_zeros 64 b - 11), unpack_low b p (y tt))
    go false y o = (b % 2 ^ 52 + 2 ^ 52, b / 2 ^ 52 + 1073, unpack_high b (o tt) h)

halved : (n d p : ℕ) → Split n d p → (v : ℕ) × (h : ℕ) × Halved (d * 2 ^ p) v h
halved n d p s = go (p % 2) refl
  where
    odd_one : (r : ℕ) → p % 2 ≡ suc r → p % 2 ≡ 0 → ⊥
    odd_one r e z = omega arith

    go : (r : ℕ) → p % 2 ≡ r → (v : ℕ) × (h : ℕ) × Halved (d * 2 ^ p) v h
    go zero e = (d, p / 2, halve_even d p e s.lead s.room s.least s.most)
    go (suc r) e = (d * 2, p / 2, halve_odd d p (odd_one r e) s.lead s.room s.least s.most)

rooted : (n : ℕ) → (q : ℕ) × (rest : ℕ) × Rooted n q rest
rooted n =
    let w = floor_root (size n) n in
    let f = floor_is (size n) n (lt_of_lt_of_le (size-lt n) (pow-le-pow_left (lit≤ tt) (size n))) in
    (w, n - square w, record { whole = add-sub_of_le f.0; short = omega (arith, f.1, square-suc w) })

-- a root's 53 digits and the power that goes with them
pub record Parts (x : Float) : Type 0 where
  pub q : ℕ
  pub k : ℕ
  pub encloses : Strict (in_squares x) q k
  pub least : 485 ≤ k
  pub most : k < 2045
  pub is : root binary64 x ≡ odd 53 false q k 1074

bits_parts : (b : ℕ) → 0 < b → b < 0x7ff0_0000_0000_0000 → Parts (of_bits binary64 b)
bits_parts b p h =
    let s = split b p h in
    let e = halved (squares_of b) s.0 s.1 s.2 in
    let r = rooted (e.0 * 4 ^ 26) in record {
      q = cond (ltb r.0 r.1) (suc r.0) r.0;
      k = e.1 - 26;
      encloses =
          subst (λ (n : ℕ). Strict n (cond (ltb r.0 r.1) (suc r.0) r.0) (e.1 - 26)) (sym (bits_squares b h))
          (parts_enclosed (squares_of b) s.0 s.1 e.0 e.1 r.0 r.1 s.2 e.2 r.2);
      least = omega (arith, e.2.least);
      most = parts_power e.1 e.2.most;
      is = root_of_bits b p h ∙ parts_root (squares_of b) s.0 s.1 e.0 e.1 r.0 r.1 s.2 e.2 r.2;
    }

-- ---- the laws
module _ (x : Float) (f : T (fits binary64 x)) (p : T (positive x)) where
  -- the root is enclosed
  pub root_enclosed : Parts x
  root_enclosed =
      let b = to_bits binary64 x in
      let e : of_bits binary64 b ≡ x = of_bits-to_bits binary64 x f in
      let r = positive_bits b (to_bits-lt binary64 x f) (subst (λ (v : Float). T (positive v)) (sym e) p) in
      subst Parts e (bits_parts b r.0 r.1)

  -- of all doubles it is nearest to the exact root
  pub root_nearest : NearestTo (in_squares x) (root binary64 x)
  root_nearest =
      let r = root_enclosed in
      subst (NearestTo (in_squares x)) (sym r.is)
      (enclosed_nearest (in_squares x) r.q r.k (odd 53 false r.q r.k 1074) r.encloses (fits_in r.q r.k r.encloses.room r.most)
      (odd_positive r.q r.k (lt_of_lt_of_le (lit≤ tt) r.encloses.lead)) (odd_units false r.q r.k))

  -- and no other double is
  pub root-only : (r : Float) → NearestTo (in_squares x) r → r ≡ root binary64 x
  root-only r h = nearest_only (in_squares x) r (root binary64 x) h root_nearest

  -- nor is any other double above zero enclosed
  pub enclosed_only : (r : Float) (q k : ℕ) → T (fits binary64 r) → T (positive r) → in_units r ≡ q * 2 ^ k → Strict (in_squares x) q k → r ≡ root binary64 x
  enclosed_only r q k h l u e = root-only r (enclosed_nearest (in_squares x) q k r e h l u)

  -- it is no subnormal: the least normal double is 2 ^ 52 units
  pub root_normal : 2 ^ 52 ≤ in_units (root binary64 x)
  root_normal =
      let r = root_enclosed in
      subst (λ (n : ℕ). 2 ^ 52 ≤ n) (sym (ap in_units r.is ∙ odd_units false r.q r.k)) (mul-le-mul r.encloses.lead (pow_pos r.k))

-- the root of any double is a double
pub root_fits : (x : Float) → T (fits binary64 x) → T (fits binary64 (root binary64 x))
unfolding root
root_fits nan f = nan-fits binary64
root_fits (inf true) f = nan-fits binary64
root_fits (inf false) f = inf-fits binary64 false
root_fits (fin s zero e) f = f
root_fits (fin true (suc m) e) f = nan-fits binary64
root_fits (fin false (suc m) e) f = (root_nearest (fin false (suc m) e) f (lt→ltb 0 (suc m) (zero-lt-suc m))).held

-- ---- no double's root lies midway between two doubles, so the tie rule of `Enclosed` is never called on
no_tie : (o c i e : ℕ) → o % 2 ≡ 1 → c < o → o * 2 ^ i ≡ c * 2 ^ e → ⊥
no_tie o c i e h l t = go (dec_le e i)
  where
    even : (y d : ℕ) → y * 2 ^ suc d % 2 ≡ 0
    even y d = let k : y * 2 ^ suc d ≡ y * 2 ^ d * 2 = ap (λ (x : ℕ). y * x) (pow-suc 2 d) ∙ sym (mul_assoc y (2 ^ d) 2) in omega arith

    go : Dec (e ≤ i) → ⊥
    go (yes k) =
        let d = i - e in
        let w : o * 2 ^ d * 2 ^ e ≡ c * 2 ^ e =
        mul_assoc o (2 ^ d) (2 ^ e) ∙ ap (λ (x : ℕ). o * x) (sym (pow-add 2 d e) ∙ ap (λ (x : ℕ). 2 ^ x) (sub-add_cancel k)) ∙ t in
        let v : o * 2 ^ d ≤ c = le_of_mul-le-mul_right (le_of_eq w) (pow_pos e) in
        let u : o * 1 ≤ o * 2 ^ d = mul-le-mul_left o (pow_pos d) in
        omega (arith, mul-one o)
    go (no k) =
        let d = e - suc i in
        let s : suc d + i ≡ e = omega arith in
        let w : c * 2 ^ suc d * 2 ^ i ≡ o * 2 ^ i = mul_assoc c (2 ^ suc d) (2 ^ i) ∙ ap (λ (x : ℕ). c * x) (sym (pow-add 2 (suc d) i) ∙ ap (λ (x : ℕ). 2 ^ x) s) ∙ sym t in
        let v : o ≡ c * 2 ^ suc d = le_antisymm (le_of_mul-le-mul_right (le_of_eq (sym w)) (pow_pos i)) (le_of_mul-le-mul_right (le_of_eq w) (pow_pos i)) in
        let z : c * 2 ^ suc d % 2 ≡ 0 = even c d in
        let y : o % 2 ≡ 0 = subst (λ (x : ℕ). x % 2 ≡ 0) (sym v) z in
        omega arith

untied : (a k n c e p : ℕ) → 2 ^ 52 ≤ 2 * a + 1 → n ≡ c * 2 ^ e → c < 2 ^ 53 → square ((2 * a + 1) * 2 ^ k) ≡ 2 ^ p * n → ⊥
untied a k n c e p l h r t =
    no_tie (square (2 * a + 1)) c (k + k) (e + p) (odd_square a) (lt_of_lt_of_le r (le_trans (lit≤ tt) (square_mono (2 ^ 52) (2 * a + 1) l)))
    (ap (λ (x : ℕ). square (2 * a + 1) * x) (pow-add 2 k k)
    ∙ sym (square-mul (2 * a + 1) (2 ^ k))
    ∙ t
    ∙ mul_comm (2 ^ p) n
    ∙ ap (λ (x : ℕ). x * 2 ^ p) h
    ∙ mul_assoc c (2 ^ e) (2 ^ p)
    ∙ ap (λ (x : ℕ). c * x) (sym (pow-add 2 e p)))
  where
    odd_square : (a : ℕ) → square (2 * a + 1) % 2 ≡ 1
    odd_square a = omega (arith, square_odd a)

-- a double's number has at most 53 digits
abbrev Short : ℕ → Type 0
Short n = (c : ℕ) × (e : ℕ) × (n ≡ c * 2 ^ e) × (c < 2 ^ 53)

bits_short : (b : ℕ) → Short (squares_of b)
bits_short b = go (ltb b (2 ^ 52)) (ltb→lt b (2 ^ 52)) (nltb→le b (2 ^ 52))
  where
    digits : (b : ℕ) → b % 2 ^ 52 + 2 ^ 52 < 2 ^ 53
    digits b = omega arith

    go : (t : Bool) → (T t → b < 2 ^ 52) → (T (not t) → 2 ^ 52 ≤ b) → Short (squares_of b)
    go true y o = (b, 1074, low_is b (y tt), lt_of_lt_of_le (y tt) (lit≤ tt))
    go false y o =
        let q = b % 2 ^ 52 + 2 ^ 52 in
        let k = b / 2 ^ 52 - 1 in
        (q, k + 1074, high_is b (o tt) ∙ mul_assoc q (2 ^ k) (2 ^ 1074) ∙ ap (λ (x : ℕ). q * x) (sym (pow-add 2 k 1074)), digits b)

reached : (q a b : ℕ) → (a ≡ b → ⊥) → Reaches q a b → a < b
reached q a b h (inl l) = l
reached q a b h (inr t) = absurd (h t.0)

strict : (n q k : ℕ) → Short n → Enclosed n q k → Strict n q k
strict n q k (c, e, h, r) i = record {
  lead = i.lead;
  room = i.room;
  above = reached q _ _ (λ t. untied (q - 1) k n c e 2 (below q i.lead) h r (ap (λ (x : ℕ). square (x * 2 ^ k)) (sym (less q i.lead)) ∙ t)) i.above;
  below = reached q _ _ (λ t. untied q k n c e 2 (over q i.lead) h r (sym t)) i.below;
  edge = λ z. reached q _ _ (λ t. untied (2 * q - 1) k n c e 4 (far q i.lead) h r (ap (λ (x : ℕ). square (x * 2 ^ k)) (sym (edge_less q i.lead)) ∙ t)) (i.edge z);
}
  where
    less : (q : ℕ) → 2 ^ 52 ≤ q → 2 * q - 1 ≡ 2 * (q - 1) + 1
    less q l = omega arith

    edge_less : (q : ℕ) → 2 ^ 52 ≤ q → 4 * q - 1 ≡ 2 * (2 * q - 1) + 1
    edge_less q l = omega arith

    below : (q : ℕ) → 2 ^ 52 ≤ q → 2 ^ 52 ≤ 2 * (q - 1) + 1
    below q l = omega arith

    over : (q : ℕ) → 2 ^ 52 ≤ q → 2 ^ 52 ≤ 2 * q + 1
    over q l = omega arith

    far : (q : ℕ) → 2 ^ 52 ≤ q → 2 ^ 52 ≤ 2 * (2 * q - 1) + 1
    far q l = omega arith

loose : (n q k : ℕ) → Strict n q k → Enclosed n q k
loose n q k i = record { lead = i.lead; room = i.room; above = inl i.above; below = inl i.below; edge = λ z. inl (i.edge z) }

squares_short : (x : Float) → T (fits binary64 x) → T (positive x) → Short (in_squares x)
squares_short x f p =
    let b = to_bits binary64 x in
    let e : of_bits binary64 b ≡ x = of_bits-to_bits binary64 x f in
    let r = positive_bits b (to_bits-lt binary64 x f) (subst (λ (v : Float). T (positive v)) (sym e) p) in
    subst Short (sym (bits_squares b r.1) ∙ ap in_squares e) (bits_short b)

-- ---- THE CLAIMS: of every double, `sqrt` is the root, and there is no other
positive-root : (x : Float) (f : T (fits binary64 x)) (p : T (positive x))
    → T (fits binary64 (sqrt x)) × T (positive (sqrt x)) × ((q : ℕ) × (k : ℕ) × (in_units (sqrt x) ≡ q * 2 ^ k) × Enclosed (in_squares x) q k)
positive-root x f p =
    let r = root_enclosed x f p in
    let n = root_nearest x f p in
    (n.held, n.plus, (r.q, r.k, ap in_units r.is ∙ odd_units false r.q r.k, loose (in_squares x) r.q r.k r.encloses))

above_zero : (m : ℕ) (e : ℤ) → T (positive (fin false (suc m) e))
above_zero m e = lt→ltb 0 (suc m) (zero-lt-suc m)

pub root_is : (x : Float) → T (fits binary64 x) → IsRoot x (sqrt x)
unfolding IsRoot root
root_is nan f = refl
root_is (inf true) f = refl
root_is (inf false) f = refl
root_is (fin s zero e) f = refl
root_is (fin true (suc m) e) f = refl
root_is (fin false (suc m) e) f = positive-root (fin false (suc m) e) f (above_zero m e)

pub root_unique : (x r : Float) → T (fits binary64 x) → IsRoot x r → r ≡ sqrt x
unfolding IsRoot root
root_unique nan r f h = h
root_unique (inf true) r f h = h
root_unique (inf false) r f h = h
root_unique (fin s zero e) r f h = h
root_unique (fin true (suc m) e) r f h = h
root_unique (fin false (suc m) e) r f h =
    let x : Float = fin false (suc m) e in
    let p = above_zero m e in
    let q = h.2.0 in
    let k = h.2.1 in
    enclosed_only x f p r q k h.0 h.1 h.2.2 (strict (in_squares x) q k (squares_short x f p) h.2.3)
