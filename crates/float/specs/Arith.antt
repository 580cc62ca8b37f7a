-- binary64 arithmetic under short names, the constants that the code writes, and the small float helpers. Definitions only.
use Rattle.std.specs.Prelude.{ℕ, zero, suc, Bool, true, false, cond, ◌&&◌, not, eqb, Float}
use Rattle.std.specs.Float.{nan, inf, fin, binary64}
use Rattle.std.specs.Float.Ieee.{add, sub, mul, div, lt, of_bits, is_nan}

-- one operation, rounded once
infixl 65 ◌⊕◌ ◌⊖◌
infixl 70 ◌⊗◌ ◌⊘◌
abbrev pub ◌⊕◌ : Float → Float → Float
x ⊕ y = add binary64 x y

abbrev pub ◌⊖◌ : Float → Float → Float
x ⊖ y = sub binary64 x y

abbrev pub ◌⊗◌ : Float → Float → Float
x ⊗ y = mul binary64 x y

abbrev pub ◌⊘◌ : Float → Float → Float
x ⊘ y = div binary64 x y

-- +0.0
abbrev pub zero+ : Float
zero+ = of_bits binary64 0

abbrev pub half : Float
half = of_bits binary64 0x3fe0_0000_0000_0000

abbrev pub one : Float
one = of_bits binary64 0x3ff0_0000_0000_0000

abbrev pub two : Float
two = of_bits binary64 0x4000_0000_0000_0000

-- 2 ^ -52, Rust's f64::EPSILON
abbrev pub epsilon : Float
epsilon = of_bits binary64 0x3cb0_0000_0000_0000

-- 2 ^ -26, its square root
abbrev pub root-epsilon : Float
root-epsilon = of_bits binary64 0x3e50_0000_0000_0000

-- 2 ^ 31, the largest row sum that is exponentiated
abbrev pub limit : Float
limit = of_bits binary64 0x41e0_0000_0000_0000

-- neither infinite nor a NaN
unfoldable pub finite : Float → Bool
finite nan = false
finite (inf s) = false
finite (fin s m e) = true

-- what a number less itself is, by whether it is finite: +0.0 or a NaN
unfoldable pub mark : Bool → Float
mark b = cond b zero+ nan

-- +0.0 and no other: not -0.0, not a NaN
unfoldable pub plus_zero : Float → Bool
plus_zero nan = false
plus_zero (inf s) = false
plus_zero (fin s m e) = not s && eqb m 0

-- the absolute value; that of either zero is +0.0
unfoldable pub abs : Float → Float
abs nan = nan
abs (inf s) = inf false
abs (fin s m e) = fin false m e

-- the larger of two; a NaN is passed over
unfoldable pub larger : Float → Float → Float
larger x y = cond (is_nan x) y (cond (lt x y) y x)

-- powi: each product rounded once
abbrev pub powi2 : Float → Float
powi2 x = x ⊗ x

abbrev pub powi3 : Float → Float
powi3 x = x ⊗ (x ⊗ x)

abbrev pub powi4 : Float → Float
powi4 x = (x ⊗ x) ⊗ (x ⊗ x)

-- f 0 ⊕ f 1 ⊕ .. ⊕ f (n - 1), from the left: a sum starts from its first item
unfoldable pub sum_of : ℕ → (ℕ → Float) → Float
sum_of zero f = zero+
sum_of (suc zero) f = f 0
sum_of (suc (suc k)) f = sum_of (suc k) f ⊕ f (suc k)

-- the largest of x and f 0, .., f (n - 1)
unfoldable pub most : ℕ → (ℕ → Float) → Float → Float
most zero f x = x
most (suc k) f x = larger (most k f x) (f k)
