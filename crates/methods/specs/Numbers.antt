-- The Rust's literals, as a reader compares them. Definitions only.
use Rattle.std.specs.Prelude.{ℕ, ◌^◌, false, pos, Float}
use Rattle.std.specs.Float.{binary64}
use Rattle.std.specs.Float.Ieee.{of_int, round, neg, of_bits, of_fields, units, odd, size, span, climb}
use Rattle.std.specs.Int.Count.{count_trailing_zeros}

-- n.0
unfoldable pub num : ℕ → Float
num n = of_int binary64 (pos n)

-- -n.0
unfoldable pub minus : ℕ → Float
minus n = neg (num n)

-- m / 10 ^ k, as the nearest double: 0.25 is decimal 25 2
unfoldable pub decimal : ℕ → ℕ → Float
decimal m k = round binary64 false m (10 ^ k)

-- its negative
unfoldable pub minus_decimal : ℕ → ℕ → Float
minus_decimal m k = neg (decimal m k)

-- for evaluating alone: `unfolding numbers` opens all that a literal is made of
unfoldable pub numbers : ℕ
unfolding num minus decimal minus_decimal neg of_int round units odd size span climb count_trailing_zeros of_bits of_fields
numbers = 0
