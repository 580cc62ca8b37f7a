-- The rounded root is enclosed by the squares of the points midway to the doubles next to it. With q its 53 digits and k the power that goes with them, these are (2 * q - 1) * 2 ^ k / 2 and
-- (2 * q + 1) * 2 ^ k / 2. At the least q the double below is only half as far, so there the point below is (4 * q - 1) * 2 ^ k / 4. There is no tie. Assumes nothing.
use Rattle.std.proofs.Common.{◌≡◌, sym, ap, ◌∙◌, subst, ℕ, zero, suc, ◌+◌, ◌-◌, ◌*◌, ◌^◌, ◌≤◌, ◌<◌, le_of_eq, lt_of_lt_of_le, lt_of_le_of_lt, lt_of_not-le, mul_assoc, mul-pos, mul-lt-mul_of_pos_right, add-sub_of_le, arith, Bool, true, false, not, cond, T, ltb, ltb→lt, nltb→le, lit≤, pow-add, pow_pos}
use Rattle.std.specs.Float.Ieee.{binary64, odd}
use Rattle.float.specs.Root.{square, nearest_root}
use Rattle.float.proofs.Square.{square-suc, square_odd, square-mul}
use Rattle.float.specs.Digits.{Rooted, Split, Halved}
use Rattle.float.proofs.Steps.{root-least, root-lt}
use Rattle.float.proofs.Midway.{scale-lt, scale_gt, midway_below, midway_above, nearest_is}

pub record Strict (n q k : ℕ) : Type 0 where
  pub lead : 2 ^ 52 ≤ q
  pub room : q < 2 ^ 53
  pub above : square ((2 * q - 1) * 2 ^ k) < 4 * n
  pub below : 4 * n < square ((2 * q + 1) * 2 ^ k)
  pub edge : q ≡ 2 ^ 52 → square ((4 * q - 1) * 2 ^ k) < 16 * n

-- the root of v with 26 digits after the point
root_in : (v q rest : ℕ) → 2 ^ 52 ≤ v → v + 2 ≤ 2 ^ 54 → Rooted (v * 4 ^ 26) q rest → (2 ^ 52 ≤ q) × (q < 2 ^ 53)
root_in v q rest a b h = (root-least (v * 4 ^ 26) q rest (2 ^ 52) h (omega arith), root-lt (v * 4 ^ 26) q rest (2 ^ 53) h (omega arith))

pub digits_lt : (v q rest : ℕ) → 2 ^ 52 ≤ v → v + 2 ≤ 2 ^ 54 → Rooted (v * 4 ^ 26) q rest → q < 2 ^ 53
digits_lt v q rest a b h = (root_in v q rest a b h).1

-- a root just below 2 ^ 53 is not rounded up to it
full : (q : ℕ) → q < 2 ^ 53 → 2 ^ 53 ≤ suc q → q ≡ 2 ^ 53 - 1
full q a b = omega arith

no_carry : (v q rest : ℕ) → v + 2 ≤ 2 ^ 54 → Rooted (v * 4 ^ 26) q rest → q < 2 ^ 53 → q < rest → suc q < 2 ^ 53
no_carry v q rest b h l g = lt_of_not-le (λ (f : 2 ^ 53 ≤ suc q). absurd (clash f))
  where
    clash : 2 ^ 53 ≤ suc q → ⊥
    clash f = let e : q ≡ 2 ^ 53 - 1 = full q l f in omega (arith, h.whole, ap square e)

-- the midpoints of the one that is rounded down, and of the one that is rounded up
less : (n q rest : ℕ) → 0 < q → Rooted n q rest → square (2 * q - 1) < 4 * n
less n zero rest p h = elim p [ ]
less n (suc q) rest p h = omega (arith, h.whole, square-suc q, square_odd q, ap square (same q))
  where
    same : (q : ℕ) → 2 * suc q - 1 ≡ 2 * q + 1
    same q = omega arith

less_up : (n q rest : ℕ) → Rooted n q rest → q < rest → square (2 * suc q - 1) < 4 * n
less_up n q rest h g = omega (arith, midway_below n q rest h g, ap square (same q))
  where
    same : (q : ℕ) → 2 * suc q - 1 ≡ 2 * q + 1
    same q = omega arith

more_up : (n q rest : ℕ) → Rooted n q rest → 4 * n < square (2 * suc q + 1)
more_up n q rest h = omega (arith, h.whole, h.short, square_odd (suc q), square-suc q)

not_least : (q : ℕ) → 2 ^ 52 ≤ q → suc q ≡ 2 ^ 52 → ⊥
not_least q a e = omega arith

at_least : (n q rest : ℕ) → 0 < q → Rooted n q rest → square (4 * q - 1) < 16 * n
at_least n zero rest p h = elim p [ ]
at_least n (suc q) rest p h = omega (arith, h.whole, square-suc q, square_open q, ap square (same q))
  where
    same : (q : ℕ) → 4 * suc q - 1 ≡ 4 * q + 3
    same q = omega arith

    square_open : (q : ℕ) → square (4 * q + 3) ≡ 16 * square q + 24 * q + 9
    square_open q = omega arith

scale_edge : (a b p : ℕ) → 0 < p → square a < 16 * b → square (a * p) < 16 * (b * square p)
scale_edge a b p P h = lt_of_le_of_lt (le_of_eq (square-mul a p)) (lt_of_lt_of_le (mul-lt-mul_of_pos_right h (mul-pos P P)) (le_of_eq (mul_assoc 16 b (square p))))

pub enclosed : (v q rest k : ℕ) → 2 ^ 52 ≤ v → v + 2 ≤ 2 ^ 54 → Rooted (v * 4 ^ 26) q rest → Strict (v * 4 ^ 26 * square (2 ^ k)) (cond (ltb q rest) (suc q) q) k
enclosed v q rest k a b h = go (root_in v q rest a b h) (ltb q rest) (ltb→lt q rest) (nltb→le q rest)
  where
    go : (2 ^ 52 ≤ q) × (q < 2 ^ 53) → (t : Bool) → (T t → q < rest) → (T (not t) → rest ≤ q) → Strict (v * 4 ^ 26 * square (2 ^ k)) (cond t (suc q) q) k
    go i true y o = record {
      lead = omega (arith, i.0);
      room = no_carry v q rest b h i.1 (y tt);
      above = scale-lt (2 * suc q - 1) (v * 4 ^ 26) (2 ^ k) (pow_pos k) (less_up (v * 4 ^ 26) q rest h (y tt));
      below = scale_gt (2 * suc q + 1) (v * 4 ^ 26) (2 ^ k) (pow_pos k) (more_up (v * 4 ^ 26) q rest h);
      edge = λ e. absurd (not_least q i.0 e);
    }
    go i false y o = record {
      lead = i.0;
      room = i.1;
      above = scale-lt (2 * q - 1) (v * 4 ^ 26) (2 ^ k) (pow_pos k) (less (v * 4 ^ 26) q rest (lt_of_lt_of_le (lit≤ tt) i.0) h);
      below = scale_gt (2 * q + 1) (v * 4 ^ 26) (2 ^ k) (pow_pos k) (midway_above (v * 4 ^ 26) q rest h (o tt));
      edge = λ e. scale_edge (4 * q - 1) (v * 4 ^ 26) (2 ^ k) (pow_pos k) (at_least (v * 4 ^ 26) q rest (lt_of_lt_of_le (lit≤ tt) i.0) h);
    }

-- ---- 52 of the power's digits go to the number
regroup : (v p : ℕ) → 26 ≤ p → v * square (2 ^ p) ≡ v * 4 ^ 26 * square (2 ^ (p - 26))
regroup v p h =
    ap (λ (x : ℕ). v * x) (ap (λ (x : ℕ). square (2 ^ x)) (sym (add-sub_of_le h)) ∙ ap square (pow-add 2 26 (p - 26)) ∙ square-mul (2 ^ 26) (2 ^ (p - 26)))
    ∙ sym (mul_assoc v (4 ^ 26) (square (2 ^ (p - 26))))

module _ (n d p v h q rest : ℕ) (s : Split n d p) (e : Halved (d * 2 ^ p) v h) (r : Rooted (v * 4 ^ 26) q rest) where
  pub parts_are : n ≡ v * 4 ^ 26 * square (2 ^ (h - 26))
  parts_are = sym s.value ∙ sym e.value ∙ regroup v h (omega (arith, e.least))

  pub parts_enclosed : Strict n (cond (ltb q rest) (suc q) q) (h - 26)
  parts_enclosed = subst (λ (x : ℕ). Strict x (cond (ltb q rest) (suc q) q) (h - 26)) (sym parts_are) (enclosed v q rest (h - 26) e.lead e.room r)

  pub parts_root : nearest_root binary64 n ≡ odd 53 false (cond (ltb q rest) (suc q) q) (h - 26) 1074
  parts_root =
      let i = root_in v q rest e.lead e.room r in
      ap (nearest_root binary64) parts_are ∙ nearest_is (v * 4 ^ 26) q rest (h - 26) i.0 i.1 r

pub parts_power : (h : ℕ) → h ≤ 1559 → h - 26 < 2045
parts_power h e = omega arith
