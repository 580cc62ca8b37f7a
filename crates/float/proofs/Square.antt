-- Squares of whole numbers, and the whole part of a root. Assumes nothing.
use Rattle.std.proofs.Common.{◌≡◌, ap, ◌∙◌, subst, ℕ, zero, suc, ◌+◌, ◌*◌, ◌/◌, ◌^◌, ◌≤◌, ◌<◌, le_of_suc-le-suc, lt_of_le_of_lt, lt_of_not-le, not-le_of_lt, zero-lt-suc, suc-mul, mul-suc, mul-le-mul, pow-suc, div-lt_iff_lt-mul, lt_of_lt_of_le, lt_irrefl, arith, Bool, true, false, not, cond, pow_mono, T, leb, leb→le}
use Rattle.std.proofs.Math.Nat.{mul-mul-mul_comm}
use Rattle.std.proofs.Math.Dec.{nleb→lt}
use Rattle.float.specs.Root.{square, floor_root}

-- powers of two are in the order of their exponents
pub pow_lt_back : (i p : ℕ) → 2 ^ i < 2 ^ p → i < p
pow_lt_back i p h = lt_of_not-le (λ (g : p ≤ i). lt_irrefl (2 ^ i) (lt_of_lt_of_le h (pow_mono g)))

pub square-suc : (a : ℕ) → square (suc a) ≡ square a + 2 * a + 1
square-suc a = omega (arith, suc-mul a (suc a), mul-suc a a)

pub square_twice : (a : ℕ) → square (2 * a) ≡ 4 * square a
square_twice a = mul-mul-mul_comm 2 a 2 a

pub square_odd : (a : ℕ) → square (2 * a + 1) ≡ 4 * square a + 4 * a + 1
square_odd a = ap square (more (2 * a)) ∙ omega (arith, square-suc (2 * a), square_twice a)
  where
    more : (b : ℕ) → b + 1 ≡ suc b
    more b = omega arith

pub square-mul : (a b : ℕ) → square (a * b) ≡ square a * square b
square-mul a b = mul-mul-mul_comm a b a b

pub square_mono : (a b : ℕ) → a ≤ b → square a ≤ square b
square_mono a b h = mul-le-mul h h

pub square_back : (a b : ℕ) → square a < square b → a < b
square_back a b h = lt_of_not-le (λ (g : b ≤ a). not-le_of_lt h (square_mono b a g))

-- ---- the whole part of a root
floor_step : (n r : ℕ) → square r ≤ n / 4 → n / 4 < square (suc r) → (square (2 * r) ≤ n) × (n < square (suc (suc (2 * r))))
floor_step n r a b = (omega (arith, square_twice r), omega (arith, square-suc (suc (2 * r)), square-suc (2 * r), square_twice r, square-suc r))

pub floor_is : (d n : ℕ) → n < 4 ^ d → (square (floor_root d n) ≤ n) × (n < square (suc (floor_root d n)))
unfolding floor_root
floor_is zero n h = (omega arith, h)
floor_is (suc d) n h = go (floor_root d (n / 4)) (floor_is d (n / 4) ((div-lt_iff_lt-mul (zero-lt-suc 3)).1 (subst (λ (x : ℕ). n < x) (pow-suc 4 d) h)))
  where
    go : (r : ℕ) → (square r ≤ n / 4) × (n / 4 < square (suc r))
        → (square (cond (leb (square (suc (2 * r))) n) (suc (2 * r)) (2 * r)) ≤ n) × (n < square (suc (cond (leb (square (suc (2 * r))) n) (suc (2 * r)) (2 * r))))
    go r k = pick (floor_step n r k.0 k.1) (leb (square (suc (2 * r))) n) (leb→le (square (suc (2 * r))) n) (nleb→lt (square (suc (2 * r))) n)
      where
        pick : (square (2 * r) ≤ n) × (n < square (suc (suc (2 * r)))) → (b : Bool) → (T b → square (suc (2 * r)) ≤ n) → (T (not b) → n < square (suc (2 * r)))
            → (square (cond b (suc (2 * r)) (2 * r)) ≤ n) × (n < square (suc (cond b (suc (2 * r)) (2 * r))))
        pick s true y o = (y tt, s.1)
        pick s false y o = (s.0, o tt)

-- where q * p and (q + 1) * p enclose the root of n, q is the whole part of that root over p
pub floor_div : (n q p w : ℕ) → 0 < p → square w ≤ n → n < square (suc w) → square (q * p) ≤ n → n < square (suc q * p) → (q * p ≤ w) × (w < suc q * p)
floor_div n q p w P a b c d = (le_of_suc-le-suc (square_back (q * p) (suc w) (lt_of_le_of_lt c b)), square_back w (suc q * p) (lt_of_le_of_lt a d))
