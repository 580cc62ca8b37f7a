-- What the code's steps hand on, and what matrix_exp promises. Definitions only.
use Rattle.std.specs.Prelude.{ℕ, zero, suc, ◌*◌, ◌-◌, ◌%◌, ◌≤◌, ◌<◌, ◌≡◌, Bool, true, false, not, cond, ◌&&◌, ◌||◌, List, Float, Option, MatchOption, IfSome, eqb, pos, negsuc, length, take, drop}
use Rattle.std.specs.Float.{fin}
use Rattle.std.specs.Float.Ieee.{le, lt, neg}
use Rattle.loops.specs.Loop.{iter, every, tab, ◌!◌}
use Rattle.float.specs.Arith.{◌⊕◌, zero+, one, two, limit, finite, most}
use Rattle.matrix.specs.declared.Reach.{Reach}
use Rattle.matrix.specs.Matrix.{div_all, add_all, max_abs, row_sum, norm, admitted, squarings, next_term, small, taylor, scaled, squared, exponential, Few, reach}
use Rattle.matrix.specs.Claims.{terms_added}

-- row i of a matrix
unfoldable pub row : List Float → ℕ → ℕ → List Float
row m n i = take n (drop (i * n) m)

-- the sums of so many rows are finite and at most 2 ^ 31
unfoldable pub rows_admitted : ℕ → List Float → ℕ → Bool
rows_admitted rows m width = every rows (λ i. finite (row_sum m width i) && le (row_sum m width i) limit)

-- the largest of them
unfoldable pub rows_norm : ℕ → List Float → ℕ → Float
rows_norm rows m width = most rows (row_sum m width) zero+

-- the norm of so many rows, where they are admitted
abbrev pub Normed : ℕ → List Float → ℕ → Option Float → Type 0
Normed rows m width r = MatchOption r (rows_admitted rows m width ≡ false) (λ x. (rows_admitted rows m width ≡ true) × (x ≡ rows_norm rows m width))

-- 2 ^ -s as a double
unfoldable pub inverse_power : ℕ → Float
inverse_power zero = fin false 1 (pos 0)
inverse_power (suc k) = fin false 1 (negsuc k)

-- x is above b or below -b
abbrev pub outside : Float → Float → Bool
outside b x = lt b x || lt x (neg b)

-- some entry is
unfoldable pub above : Float → List Float → Bool
above b m = not (every (length m) (λ p. not (outside b (m ! p))))

-- each entry of term is made anew by f, and added to sum
pub record Mapped (term sum : List Float) (f : Float → Float) (term' sum' : List Float) : Type 0 where
  pub made : term' ≡ tab (length term) (λ p. f (term ! p))
  pub added : sum' ≡ add_all sum term'

-- every entry with +0.0 for -0.0
unfoldable pub positive : List Float → List Float
positive a = tab (length a) (λ p. zero+ ⊕ a ! p)

-- a is the first term, and is added to sum
pub record Begun (a sum term' sum' : List Float) (r : Bool) : Type 0 where
  pub term : term' ≡ positive a
  pub added : sum' ≡ add_all sum term'
  pub last : r ≡ small term' sum'

-- term divided by d is added to sum: term' and sum' are left, and r says whether the series stops
pub record Added (term sum : List Float) (d : Float) (term' sum' : List Float) (r : Bool) : Type 0 where
  pub divided : term' ≡ div_all term d
  pub added : sum' ≡ add_all sum term'
  pub last : r ≡ small term' sum'

-- the k-th term after t is added to sum
pub record Turned (a sum t : List Float) (k n : ℕ) (term' sum' : List Float) (r : Bool) : Type 0 where
  pub term : term' ≡ next_term t a n k
  pub added : sum' ≡ add_all sum term'
  pub last : r ≡ small term' sum'

-- the whole series, and the number of its last term
pub record Summed (a : List Float) (n : ℕ) (sum : List Float) (terms : ℕ) : Type 0 where
  pub whole : sum ≡ (taylor a n).sum
  pub number : terms ≡ (taylor a n).terms

-- f applied s times to m, between two arrays that trade their parts each round: the result stands in the first if s is even, otherwise in the second; from s = 1 the other has f applied s - 1 times
pub record Trades (f : List Float → List Float) (s : ℕ) (m first second : List Float) : Type 0 where
  pub result : cond (eqb (s % 2) 0) first second ≡ iter s (λ _ x. f x) m
  pub other : 1 ≤ s → cond (eqb (s % 2) 0) second first ≡ iter (s - 1) (λ _ x. f x) m

-- m squared s times between two arrays that trade their parts each round: the result stands in the first if s is even, otherwise in the second; from s = 1 the other holds m squared s - 1 times
pub record Traded (s : ℕ) (m : List Float) (n : ℕ) (first second : List Float) : Type 0 where
  pub result : cond (eqb (s % 2) 0) first second ≡ squared s m n
  pub other : 1 ≤ s → cond (eqb (s % 2) 0) second first ≡ squared (s - 1) m n

-- a finite matrix whose series stops by term 15, and whose sums until then have no entry above 2 in magnitude
pub record Calm (a : List Float) (n : ℕ) : Type 0 where
  pub numbers : (p : ℕ) → p < n * n → finite (a ! p) ≡ true
  pub low : (k : ℕ) → k ≤ 15 → le (max_abs one (terms_added a n k)) two ≡ true
  pub stops : (taylor a n).terms ≤ 15

-- what is raised: a matrix of size n, room for the output, and a number of squarings by which the matrix becomes calm
pub record Ready (m out : List Float) (n count : ℕ) : Type 0 where
  pub size : n ≤ 20
  pub places : length m ≡ n * n
  pub room : length out ≡ n * n
  pub calm : Calm (scaled m count) n

-- m divided is left in its place, and its series squared in the output; the number of its terms is told
pub record Worked (m : List Float) (n count : ℕ) (m' after : List Float) (terms : ℕ) : Type 0 where
  pub divided : m' ≡ scaled m count
  pub output : after ≡ squared count (taylor (scaled m count) n).sum n
  pub number : terms ≡ (taylor (scaled m count) n).terms

-- matrix_exp: how far it goes, and that this is no further than `Few`; where m is admitted, m is left divided, and the output is the exponential; otherwise both are as they were
pub record Filled (m : List Float) (n : ℕ) (m' before after : List Float) (r : Option Reach) : Type 0 where
  pub told : r ≡ reach m n
  pub few : IfSome r (λ k. Few k.terms k.squarings)
  pub work : m' ≡ cond (admitted m n) (scaled m (squarings (norm m n))) m
  pub output : after ≡ cond (admitted m n) (exponential m n).entries before
