-- IEEE 754's squareRoot: the double nearest to the exact root, at a tie the one with an even last digit. Whole numbers only. Definitions only.
use Rattle.std.specs.Prelude.{◌≡◌, ◌⊎◌, true, false, cond, T, leb, Float}
use Prim.Native.Nat.{ℕ, zero, suc, ◌+◌, ◌-◌, ◌*◌, ◌/◌, ◌%◌, ◌^◌, ◌≤◌, ◌<◌, compare}
use Rattle.std.specs.Float.{nan, inf, fin, Format, binary64}
use Rattle.std.specs.Float.Ieee.{prec, low, up, down, size, nearest, odd, fits}
use Rattle.std.specs.Float.Ieee.Positive.{positive}

abbrev pub square : ℕ → ℕ
square n = n * n

-- ---- the root worked out

-- The whole part of √n, for an n below 4 ^ d. Its digits but the last are those of √(n / 4), and the last is 1 where the square is then still n at most.
unfoldable pub floor_root : ℕ → ℕ → ℕ
floor_root zero n = 0
floor_root (suc d) n = let r = 2 * floor_root d (n / 4) in cond (leb (square (suc r)) n) (suc r) r

-- √n of the format's smallest values, rounded. Of the root's whole part the format keeps the `prec` leading digits, q, and drops k: so the result is q or q + 1 times 2 ^ k, by
-- how n compares with the square of what lies midway between the two.
unfoldable pub nearest_root : Format → ℕ → Float
nearest_root f n =
    let w = floor_root (size n) n in
    let k = size w - prec f in
    let q = w / 2 ^ k in
    odd (prec f) false (nearest q (compare (4 * n) (square ((2 * q + 1) * 2 ^ k)))) k (low f)

-- A zero and +infinity are their own roots, and nothing else that is not above zero has one. The smallest value is u = 2 ^ -low, and x is n * u ^ 2 for a whole n: so its root is √n * u.
unfoldable pub root : Format → Float → Float
root f nan = nan
root f (inf true) = nan
root f (inf false) = inf false
root f (fin s zero e) = fin s zero e
root f (fin true (suc m) e) = nan
root f (fin false (suc m) e) = nearest_root f (suc m * up e * square (2 ^ low f) / down e)

-- the square root of a double
abbrev pub sqrt : Float → Float
sqrt x = root binary64 x

-- ---- what it is to be the root

-- a finite double's magnitude in units of the smallest double, 2 ^ -1074
unfoldable pub in_units : Float → ℕ
in_units nan = 0
in_units (inf s) = 0
in_units (fin s m e) = m * up e * 2 ^ 1074 / down e

-- the same in units of that one's square
unfoldable pub in_squares : Float → ℕ
in_squares nan = 0
in_squares (inf s) = 0
in_squares (fin s m e) = m * up e * square (2 ^ 1074) / down e

-- a is less than b, or, where q is even, equal to it: a tie goes to an even last digit
abbrev pub Reaches : ℕ → ℕ → ℕ → Type 0
Reaches q a b = (a < b) ⊎ ((a ≡ b) × (q % 2 ≡ 0))

-- The squares of the two neighbouring midpoints enclose n: of q * 2 ^ k, with the 53 digits q, these midpoints are (2 * q - 1) * 2 ^ k / 2 and (2 * q + 1) * 2 ^ k / 2.
-- At the least q, a power of two, the double below is only half as far, so there the lower one is (4 * q - 1) * 2 ^ k / 4.
pub record Enclosed (n q k : ℕ) : Type 0 where
  pub lead : 2 ^ 52 ≤ q
  pub room : q < 2 ^ 53
  pub above : Reaches q (square ((2 * q - 1) * 2 ^ k)) (4 * n)
  pub below : Reaches q (4 * n) (square ((2 * q + 1) * 2 ^ k))
  pub edge : q ≡ 2 ^ 52 → Reaches q (square ((4 * q - 1) * 2 ^ k)) (16 * n)

-- r is the square root of x: for an x above zero and finite, r is a double above zero whose neighbouring midpoints enclose it
unfoldable pub IsRoot : Float → Float → Type 0
IsRoot nan r = r ≡ nan
IsRoot (inf true) r = r ≡ nan
IsRoot (inf false) r = r ≡ inf false
IsRoot (fin s zero e) r = r ≡ fin s zero e
IsRoot (fin true (suc m) e) r = r ≡ nan
IsRoot (fin false (suc m) e) r =
    T (fits binary64 r) × T (positive r) × ((q : ℕ) × (k : ℕ) × (in_units r ≡ q * 2 ^ k) × Enclosed (in_squares (fin false (suc m) e)) q k)
