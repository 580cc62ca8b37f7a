-- Of all doubles the root is nearest to the exact root, and it is the only one that is. Of two doubles of a and c units the exact root √n lies nearer to the larger one just where
-- (a + c) / 2 is below it: where the square of a + c is below 4 * n. Assumes nothing.
use Rattle.std.proofs.Common.{◌≡◌, sym, ap, ◌∙◌, subst, ℕ, zero, suc, ◌+◌, ◌-◌, ◌*◌, ◌/◌, ◌%◌, ◌^◌, ◌≤◌, ◌<◌, zero-mul, zero-lt-suc, le_of_suc-le-suc, add_comm, le_refl, le_trans, le_of_eq, le_of_lt, le_antisymm, lt_of_lt_of_le, lt_of_le_of_lt, lt_of_not-le, lt_trans, lt_irrefl, add-mul, add-le-add, mul-add, mul_comm, mul_assoc, mul-le-mul_right, mul-pos, mul-div_cancel, mod-lt, lt_of_mul-lt-mul_right, sub-add_cancel, arith, Bool, true, false, not, cond, T, leb, ltb, eqb, ltb→lt, lt→ltb, nltb→le, lit≤, pow-add, pow_pos, pow_mono, shl_lt, Float}
use Rattle.std.specs.Float.Ieee.{nan, inf, fin, binary64, up, down, size, odd, fits, of_fields, of_bits, to_bits}
use lib.Ieee.Bits.{of_bits-to_bits}
use lib.Ieee.Fits.{down_pos, odd-fits}
use lib.Ieee.Exact.{HasValue, odd_sign}
use lib.Ieee.Scale.{finite}
use lib.Ieee.Positive.{positive}
use Rattle.float.specs.Root.{square, in_units}
use Rattle.float.proofs.Square.{square_mono, pow_lt_back}
use Rattle.float.proofs.Bits.{of_bits_is}
use Rattle.float.proofs.Strict.{Strict}

pub record NearestTo (n : ℕ) (r : Float) : Type 0 where
  pub held : T (fits binary64 r)
  pub plus : T (positive r)
  pub lower : (y : Float) → T (fits binary64 y) → T (finite y) → in_units y < in_units r → square (in_units y + in_units r) < 4 * n
  pub higher : (y : Float) → T (fits binary64 y) → T (finite y) → in_units r < in_units y → 4 * n < square (in_units y + in_units r)

-- ---- what a double is in units
pub units_value : (y : Float) (s : Bool) (a : ℕ) → HasValue y s a (2 ^ 1074) → in_units y ≡ a
unfolding in_units
units_value nan s a h = absurd h
units_value (inf t) s a h = absurd h
units_value (fin t m e) s a h = ap (λ (x : ℕ). x / down e) h.1 ∙ mul-div_cancel a (down_pos e)

pub odd_units : (s : Bool) (q k : ℕ) → in_units (odd 53 s q k 1074) ≡ q * 2 ^ k
odd_units s q k = units_value (odd 53 s q k 1074) s (q * 2 ^ k) (odd_sign 53 s q k 1074)

-- at most 53 digits and a power
abbrev Grid : ℕ → Type 0
Grid a = (c : ℕ) × (j : ℕ) × (a ≡ c * 2 ^ j) × (c < 2 ^ 53)

fields_grid : (s : Bool) (x t : ℕ) → t < 2 ^ 52 → T (finite (of_fields binary64 s x t)) → Grid (in_units (of_fields binary64 s x t))
unfolding of_fields
fields_grid s zero t h f = (t, 0, odd_units s t 0, lt_of_lt_of_le h (lit≤ tt))
fields_grid s (suc x) t h f = go (eqb (suc x) 2047) f
  where
    none : (u : Bool) → T (finite (cond u (inf s) nan)) → ⊥
    none true f = f
    none false f = f

    go : (u : Bool) → T (finite (cond u (cond (eqb t 0) (inf s) nan) (odd 53 s (2 ^ 52 + t) x 1074))) → Grid (in_units (cond u (cond (eqb t 0) (inf s) nan) (odd 53 s (2 ^ 52 + t) x 1074)))
    go true f = absurd (none (eqb t 0) f)
    go false f = (2 ^ 52 + t, x, odd_units s (2 ^ 52 + t) x, omega arith)

pub grid : (y : Float) → T (fits binary64 y) → T (finite y) → Grid (in_units y)
grid y h f =
    let b = to_bits binary64 y in
    let e : y ≡ of_fields binary64 (leb (2 ^ 63) b) (b % 2 ^ 63 / 2 ^ 52) (b % 2 ^ 52) = sym (of_bits-to_bits binary64 y h) ∙ of_bits_is b in
    subst (λ (v : Float). Grid (in_units v)) (sym e)
    (fields_grid (leb (2 ^ 63) b) (b % 2 ^ 63 / 2 ^ 52) (b % 2 ^ 52) (mod-lt b (lit≤ tt)) (subst (λ (v : Float). T (finite v)) e f))

-- ---- from 2 ^ 52 * 2 ^ k up the doubles are multiples of 2 ^ k
drop_53 : (k j : ℕ) → 52 + k < 53 + j → k ≤ j
drop_53 k j h = omega arith

multiple : (a k : ℕ) → Grid a → 2 ^ 52 * 2 ^ k ≤ a → (d : ℕ) × (a ≡ d * 2 ^ k)
multiple a k (c, j, e, l) h =
    let k-le : k ≤ j = drop_53 k j (pow_lt_back (52 + k) (53 + j) (lt_of_le_of_lt (le_trans (le_of_eq (pow-add 2 52 k)) (le_trans h (le_of_eq e))) (shl_lt 53 j l))) in
    (c * 2 ^ (j - k), e ∙ ap (λ (x : ℕ). c * x) (ap (λ (x : ℕ). 2 ^ x) (sym (sub-add_cancel k-le)) ∙ pow-add 2 (j - k) k) ∙ sym (mul_assoc c (2 ^ (j - k)) (2 ^ k)))

-- so the next one below q * 2 ^ k is (q - 1) * 2 ^ k at most, or for the least q half as far, and the next one above (q + 1) * 2 ^ k at least
below_multiple : (a q k : ℕ) → Grid a → 2 ^ 52 < q → a < q * 2 ^ k → a ≤ (q - 1) * 2 ^ k
below_multiple a q k g l h = go (ltb a (2 ^ 52 * 2 ^ k)) (ltb→lt a (2 ^ 52 * 2 ^ k)) (nltb→le a (2 ^ 52 * 2 ^ k))
  where
    pred-le : (d q : ℕ) → d < q → d ≤ q - 1
    pred-le d q h = omega arith

    go : (t : Bool) → (T t → a < 2 ^ 52 * 2 ^ k) → (T (not t) → 2 ^ 52 * 2 ^ k ≤ a) → a ≤ (q - 1) * 2 ^ k
    go true y o = le_trans (le_of_lt (y tt)) (mul-le-mul_right (2 ^ k) (pred-le (2 ^ 52) q l))
    go false y o =
        let m = multiple a k g (o tt) in
        le_trans (le_of_eq m.1) (mul-le-mul_right (2 ^ k) (pred-le m.0 q (lt_of_mul-lt-mul_right (2 ^ k) (subst (λ (x : ℕ). x < q * 2 ^ k) m.1 h))))

twice_grid : (a : ℕ) → Grid a → Grid (2 * a)
twice_grid a (c, j, e, l) = (c, j + 1, ap (λ (x : ℕ). 2 * x) e ∙ mul_comm 2 (c * 2 ^ j) ∙ mul_assoc c (2 ^ j) 2 ∙ ap (λ (x : ℕ). c * x) (sym (pow-add 2 j 1)), l)

below_edge : (a q k : ℕ) → Grid a → 2 ^ 52 ≤ q → a < q * 2 ^ k → 2 * a ≤ (2 * q - 1) * 2 ^ k
below_edge a q k g l h = below_multiple (2 * a) (2 * q) k (twice_grid a g) (omega arith) (lt_of_lt_of_le (twice a (q * 2 ^ k) h) (le_of_eq (sym (mul_assoc 2 q (2 ^ k)))))
  where
    twice : (a b : ℕ) → a < b → 2 * a < 2 * b
    twice a b h = omega arith

above_multiple : (a q k : ℕ) → Grid a → 2 ^ 52 ≤ q → q * 2 ^ k < a → suc q * 2 ^ k ≤ a
above_multiple a q k g l h =
    let m = multiple a k g (le_trans (mul-le-mul_right (2 ^ k) l) (le_of_lt h)) in
    le_trans (mul-le-mul_right (2 ^ k) (lt_of_mul-lt-mul_right (2 ^ k) (subst (λ (x : ℕ). q * 2 ^ k < x) m.1 h))) (le_of_eq (sym m.1))

-- ---- an enclosed root is the nearest double
module _ (n q k : ℕ) (e : Strict n q k) (a : ℕ) (g : Grid a) where
  lower_sum : a ≤ (q - 1) * 2 ^ k → a + q * 2 ^ k ≤ (2 * q - 1) * 2 ^ k
  lower_sum h = le_trans (add-le-add h (le_refl (q * 2 ^ k))) (le_of_eq (sym (add-mul (q - 1) q (2 ^ k)) ∙ ap (λ (x : ℕ). x * 2 ^ k) (joined q e.lead)))
    where
      joined : (q : ℕ) → 2 ^ 52 ≤ q → q - 1 + q ≡ 2 * q - 1
      joined q l = omega arith

  edge_sum : 2 * a ≤ (2 * q - 1) * 2 ^ k → 2 * (a + q * 2 ^ k) ≤ (4 * q - 1) * 2 ^ k
  edge_sum h =
      le_trans (le_of_eq (mul-add 2 a (q * 2 ^ k)))
      (le_trans (add-le-add h (le_of_eq (sym (mul_assoc 2 q (2 ^ k))))) (le_of_eq (sym (add-mul (2 * q - 1) (2 * q) (2 ^ k)) ∙ ap (λ (x : ℕ). x * 2 ^ k) (joined q e.lead))))
    where
      joined : (q : ℕ) → 2 ^ 52 ≤ q → 2 * q - 1 + 2 * q ≡ 4 * q - 1
      joined q l = omega arith

  fourth : (s m : ℕ) → square (2 * s) < 16 * m → square s < 4 * m
  fourth s m h = omega arith

  nearest_lower : a < q * 2 ^ k → square (a + q * 2 ^ k) < 4 * n
  nearest_lower h = go (ltb (2 ^ 52) q) (ltb→lt (2 ^ 52) q) (nltb→le (2 ^ 52) q)
    where
      go : (t : Bool) → (T t → 2 ^ 52 < q) → (T (not t) → q ≤ 2 ^ 52) → square (a + q * 2 ^ k) < 4 * n
      go true y o = lt_of_le_of_lt (square_mono (a + q * 2 ^ k) ((2 * q - 1) * 2 ^ k) (lower_sum (below_multiple a q k g (y tt) h))) e.above
      go false y o =
          fourth (a + q * 2 ^ k) n
          (lt_of_le_of_lt (square_mono (2 * (a + q * 2 ^ k)) ((4 * q - 1) * 2 ^ k) (edge_sum (below_edge a q k g e.lead h))) (e.edge (le_antisymm (o tt) e.lead)))

  nearest_higher : q * 2 ^ k < a → 4 * n < square (a + q * 2 ^ k)
  nearest_higher h =
      lt_of_lt_of_le e.below
      (square_mono ((2 * q + 1) * 2 ^ k) (a + q * 2 ^ k)
      (le_trans (le_of_eq (ap (λ (x : ℕ). x * 2 ^ k) (joined q) ∙ add-mul (suc q) q (2 ^ k))) (add-le-add (above_multiple a q k g e.lead h) (le_refl (q * 2 ^ k)))))
    where
      joined : (q : ℕ) → 2 * q + 1 ≡ suc q + q
      joined q = omega arith

pub fits_in : (q k : ℕ) → q < 2 ^ 53 → k < 2045 → T (fits binary64 (odd 53 false q k 1074))
fits_in q k l h = odd-fits binary64 53 false q k l (le_of_lt l) (lt_of_lt_of_le (shl_lt 53 k l) (pow_mono (most k h)))
  where
    most : (k : ℕ) → k < 2045 → 53 + k ≤ 1074 + 1024
    most k h = omega arith

pub odd_positive : (q k : ℕ) → 0 < q → T (positive (odd 53 false q k 1074))
odd_positive q k p = go (odd 53 false q k 1074) (odd_sign 53 false q k 1074)
  where
    first : (m u l a : ℕ) → m * u * l ≡ a → 0 < a → 0 < m
    first zero u l a e p = absurd (lt_irrefl 0 (lt_of_lt_of_le p (le_of_eq (sym e ∙ ap (λ (x : ℕ). x * l) (zero-mul u) ∙ zero-mul l))))
    first (suc m) u l a e p = zero-lt-suc m

    go : (x : Float) → HasValue x false (q * 2 ^ k) (2 ^ 1074) → T (positive x)
    go nan h = h
    go (inf s) h = h
    go (fin true m e) h = absurd (subst T h.0 tt)
    go (fin false m e) h = lt→ltb 0 m (first m (up e) (2 ^ 1074) (q * 2 ^ k * down e) h.1 (mul-pos (mul-pos p (pow_pos k)) (down_pos e)))

pub enclosed_nearest : (n q k : ℕ) (r : Float) → Strict n q k → T (fits binary64 r) → T (positive r) → in_units r ≡ q * 2 ^ k → NearestTo n r
enclosed_nearest n q k r e f p u = record {
  held = f;
  plus = p;
  lower = λ y v w l. subst (λ (c : ℕ). square (in_units y + c) < 4 * n) (sym u) (nearest_lower n q k e (in_units y) (grid y v w) (subst (λ (c : ℕ). in_units y < c) u l));
  higher = λ y v w l. subst (λ (c : ℕ). 4 * n < square (in_units y + c)) (sym u) (nearest_higher n q k e (in_units y) (grid y v w) (subst (λ (c : ℕ). c < in_units y) u l));
}

-- ---- there is one
same_bits : (x y : Float) → T (positive x) → T (positive y) → in_units x ≡ in_units y → to_bits binary64 x ≡ to_bits binary64 y
unfolding to_bits in_units
same_bits nan y p q e = absurd p
same_bits (inf s) y p q e = absurd p
same_bits (fin true m d) y p q e = absurd p
same_bits (fin false m d) nan p q e = absurd q
same_bits (fin false m d) (inf s) p q e = absurd q
same_bits (fin false m d) (fin true n c) p q e = absurd q
same_bits (fin false m d) (fin false n c) p q e = ap (λ (x : ℕ). 0 + (size x - 53) * 2 ^ 52 + x / 2 ^ (size x - 53)) e

is_finite : (x : Float) → T (positive x) → T (finite x)
is_finite nan p = absurd p
is_finite (inf s) p = absurd p
is_finite (fin s m e) p = tt

pub nearest_only : (n : ℕ) (r s : Float) → NearestTo n r → NearestTo n s → r ≡ s
nearest_only n r s h k =
    sym (of_bits-to_bits binary64 r h.held) ∙ ap (of_bits binary64) (same_bits r s h.plus k.plus (le_antisymm (no_less s r k h) (no_less r s h k))) ∙ of_bits-to_bits binary64 s k.held
  where
    no_less : (r s : Float) → NearestTo n r → NearestTo n s → in_units s ≤ in_units r
    no_less r s h k = le_of_suc-le-suc (lt_of_not-le (λ (g : in_units r < in_units s).
        lt_irrefl (4 * n) (lt_trans (h.higher s k.held (is_finite s k.plus) g)
        (subst (λ (x : ℕ). square x < 4 * n) (add_comm (in_units r) (in_units s)) (k.lower r h.held (is_finite r h.plus) g)))))
