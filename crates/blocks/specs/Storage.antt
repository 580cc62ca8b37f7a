-- Blocks as an array: the first n rows, n + p places each, and behind them the p numbers of the lower block. Definitions only.
use Rattle.std.specs.Prelude.{Option, None, ℕ, ◌+◌, ◌-◌, ◌*◌, ◌≤◌, ◌<◌, ◌≡◌, Bool, true, false, List, ◌++◌, length, take, drop, Float, Some}
use Rattle.loops.specs.Loop.{iter, every, ◌!◌}
use Rattle.float.specs.Arith.{finite}
use Rattle.matrix.specs.Matrix.{taylor, scaled, at, admitted, exponential, term_at, reach}
use Rattle.matrix.specs.Vector.{vec}
use Rattle.matrix.specs.Calls.{Calm}
use Rattle.blocks.specs.declared.Raised.{Raised}
use Rattle.blocks.specs.declared.Raised.TheVariants.{Refused, Overflowed, Told}
use Rattle.blocks.specs.Blocks.{Blocks, whole, block_mul, Shifts}

-- how many places the array has
abbrev pub places : ℕ → ℕ → ℕ
places n p = n * (n + p) + p

-- the blocks of an array
unfoldable pub split : ℕ → ℕ → List Float → Blocks
split n p x = record { upper = take (n * (n + p)) x; lower = drop (n * (n + p)) x }

-- the array of blocks
unfoldable pub joined : Blocks → List Float
joined x = x.upper ++ x.lower

-- the whole matrix that an array holds
unfoldable pub held : ℕ → ℕ → List Float → List Float
held n p x = whole n p (split n p x)

-- every number is finite
unfoldable pub all_finite : List Float → Bool
all_finite x = every (length x) (λ q. finite (x ! q))

-- the array of a product
unfoldable pub times : ℕ → ℕ → List Float → List Float → List Float
times n p x y = joined (block_mul n p (split n p x) (split n p y))

-- an array that terms are multiplied by
abbrev pub Shifting : ℕ → ℕ → List Float → Type 0
Shifting n p a = Shifts n p (split n p a) (a ! (n * (n + p) + 1))

-- what the series is summed of: such an array, whose matrix is calm and whose terms are finite
pub record Tame (n p : ℕ) (a : List Float) : Type 0 where
  pub shifting : Shifting n p a
  pub calm : Calm (held n p a) (n + p)
  pub terms : (k q : ℕ) → k ≤ 15 → q < (n + p) * (n + p) → finite (term_at (held n p a) (n + p) k ! q) ≡ true

-- an array squared count times: a number that is squared last is not finite
abbrev pub Grown : ℕ → ℕ → ℕ → List Float → Type 0
Grown n p count x = all_finite (iter (count - 1) (λ _ y. times n p y y) x) ≡ false

-- an admitted matrix whose numbers grow beyond the doubles: an array holds its series' sum, and a number of it that is squared last is not finite
pub record Overflow (n p : ℕ) (m : List Float) : Type 0 where
  pub rows : admitted m (n + p) ≡ true
  pub array : List Float
  pub sum : held n p array ≡ (taylor (scaled m (exponential m (n + p)).squarings) (n + p)).sum
  pub grown : Grown n p (exponential m (n + p)).squarings array

-- what is told of a whole matrix's exponential: that it is not admitted; that it overflows; or how far it goes, and the first n entries of its last column
unfoldable pub RaisedTo : ℕ → ℕ → List Float → Raised → Type 0
RaisedTo n p m Refused = admitted m (n + p) ≡ false
RaisedTo n p m Overflowed = Overflow n p m
RaisedTo n p m (Told r column) = (Some r ≡ reach m (n + p)) × (column ≡ vec n (λ i. at (exponential m (n + p)).entries (n + p) i (n + p - 1)))

-- what is told of a column, and of how far the exponential went
unfoldable pub told : Option (List Float) → ℕ → ℕ → Raised
told None terms squarings = Overflowed
told (Some v) terms squarings = Told (record { terms = terms; squarings = squarings }) v
