-- What the steps of the square root hand on. Definitions only.
use Rattle.std.specs.Prelude.{◌≡◌, cond, ℕ, ◌+◌, ◌-◌, ◌*◌, ◌/◌, ◌%◌, ◌^◌, ◌≤◌, ◌<◌, ltb}
use Rattle.float.specs.Root.{square}

-- r is the whole part of √n: its square and the rest are n, and the rest is less than what the next square has more
pub record Rooted (n r rest : ℕ) : Type 0 where
  pub whole : square r + rest ≡ n
  pub short : rest ≤ 2 * r

-- n is digits * 2 ^ power, with 53 digits, and a power that a double's pattern can have
pub record Split (n digits power : ℕ) : Type 0 where
  pub value : digits * 2 ^ power ≡ n
  pub lead : 2 ^ 52 ≤ digits
  pub room : digits < 2 ^ 53
  pub least : 1022 ≤ power
  pub most : power ≤ 3119

-- n is digits * 4 ^ power, with 53 digits, or with 54 and the last of them 0
pub record Halved (n digits power : ℕ) : Type 0 where
  pub value : digits * square (2 ^ power) ≡ n
  pub lead : 2 ^ 52 ≤ digits
  pub room : digits + 2 ≤ 2 ^ 54
  pub least : 511 ≤ power
  pub most : power ≤ 1559

-- The number with the pattern b, in units of the smallest double: a pattern from 2 ^ 52 up has a leading digit that is not written.
unfoldable pub units_of : ℕ → ℕ
units_of b = cond (ltb b (2 ^ 52)) b ((b % 2 ^ 52 + 2 ^ 52) * 2 ^ (b / 2 ^ 52 - 1))

-- in units of that one's square
unfoldable pub squares_of : ℕ → ℕ
squares_of b = units_of b * 2 ^ 1074
