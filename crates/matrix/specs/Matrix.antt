-- matrix.rs: the exponential of a matrix by scaling, Taylor's series and squaring, in five steps. A matrix of size n is its n * n entries, row by row. Definitions only.
use Rattle.std.specs.Prelude.{ℕ, zero, suc, ◌+◌, ◌*◌, ◌^◌, ◌≤◌, Bool, true, false, cond, ◌&&◌, Option, Some, None, List, eqb, leb, pos, Float, length}
use Rattle.std.specs.Float.{nan, inf, fin, binary64}
use Rattle.std.specs.Float.Ieee.{le, of_int, up, down}
use Rattle.loops.specs.Loop.{iter, every, tab, mat, ◌!◌}
use Rattle.float.specs.Arith.{◌⊕◌, ◌⊗◌, ◌⊘◌, zero+, one, epsilon, limit, finite, abs, sum_of, most}
use Rattle.matrix.specs.declared.Reach.{Reach}

-- the entry in row i and column j
abbrev pub at : List Float → ℕ → ℕ → ℕ → Float
at m n i j = m ! (i * n + j)

-- ones on the diagonal
unfoldable pub identity : ℕ → List Float
identity n = mat n (λ i j. cond (eqb i j) one zero+)

-- mat_mul: each entry starts at +0.0
unfoldable pub mat_mul : List Float → List Float → ℕ → List Float
mat_mul left right n = mat n (λ i j. iter n (λ k x. x ⊕ at left n i k ⊗ at right n k j) zero+)

-- every entry divided by d
unfoldable pub div_all : List Float → Float → List Float
div_all m d = tab (length m) (λ p. m ! p ⊘ d)

-- b added entry by entry
unfoldable pub add_all : List Float → List Float → List Float
add_all a b = tab (length a) (λ p. a ! p ⊕ b ! p)

-- the largest of x and the entries' magnitudes
unfoldable pub max_abs : Float → List Float → Float
max_abs x m = most (length m) (λ p. abs (m ! p)) x

-- ---- step 1: the norm, over the whole matrix

-- the absolute values of row i, summed from the first
unfoldable pub row_sum : List Float → ℕ → ℕ → Float
row_sum m n i = sum_of n (λ j. abs (at m n i j))

-- the largest row sum
unfoldable pub norm : List Float → ℕ → Float
norm m n = most n (row_sum m n) zero+

-- every row sum is finite and at most 2 ^ 31: anything else is refused by 6
unfoldable pub admitted : List Float → ℕ → Bool
admitted m n = every n (λ i. finite (row_sum m n i) && le (row_sum m n i) limit)

-- ---- step 2: how often to square, over whole numbers

-- 2 ^ s is at least 2 x, where x is m * up e / down e
unfoldable pub enough : Float → ℕ → Bool
enough nan s = true
enough (inf t) s = t
enough (fin true m e) s = true
enough (fin false m e) s = leb (2 * (m * up e)) (2 ^ s * down e)

-- the least of s, s + 1, .., s + d that passes, and s + d if none before it does
unfoldable pub least : ℕ → ℕ → (ℕ → Bool) → ℕ
least zero s p = s
least (suc d) s p = elim (p s) [ true ↦ s | false ↦ least d (suc s) p ]

-- the least s with 2 ^ s at least 2 x: 32 suffice up to 2 ^ 31
unfoldable pub squarings : Float → ℕ
squarings x = least 32 0 (enough x)

-- ---- step 3: the matrix divided, and the next term

-- 2 ^ s as a double
abbrev pub power : ℕ → Float
power s = fin false 1 (pos s)

-- every entry divided by 2 ^ s
unfoldable pub scaled : List Float → ℕ → List Float
scaled m s = div_all m (power s)

-- the k-th term: the last one times the matrix, then divided by k
unfoldable pub next_term : List Float → List Float → ℕ → ℕ → List Float
next_term t a n k = div_all (mat_mul t a n) (of_int binary64 (pos k))

-- the k-th term from the identity on, wherever the series stops
unfoldable pub term_at : List Float → ℕ → ℕ → List Float
term_at a n zero = identity n
term_at a n (suc k) = next_term (term_at a n k) a n (suc k)

-- ---- step 4: the sum, and where it stops

-- the term is at most 2 ^ -52 times the larger of 1 and the sum's largest magnitude
unfoldable pub small : List Float → List Float → Bool
small term sum = le (max_abs zero+ term) (epsilon ⊗ max_abs one sum)

-- a sum, and the number of its last term
pub record Series : Type 0 where
  pub sum : List Float
  pub terms : ℕ

-- the series from term k on: t is the term before it and r the sum so far; at most d terms are added
unfoldable pub series : ℕ → List Float → ℕ → List Float → List Float → ℕ → Series
series zero a n t r k = record { sum = r; terms = k }
series (suc d) a n t r k =
    let t' = next_term t a n k in
    let r' = add_all r t' in
    elim (small t' r') [ true ↦ record { sum = r'; terms = k } | false ↦ series d a n t' r' (suc k) ]

-- the whole series, with the Rust's limit of 128 terms
unfoldable pub taylor : List Float → ℕ → Series
taylor a n = series 128 a n (identity n) (identity n) 1

-- ---- step 5: the squarings

-- m squared s times
unfoldable pub squared : ℕ → List Float → ℕ → List Float
squared s m n = iter s (λ _ x. mat_mul x x n) m

-- ---- the five together

-- the exponential's entries, and how many terms were added and squarings made
pub record Exponential : Type 0 where
  pub entries : List Float
  pub terms : ℕ
  pub squarings : ℕ

-- matrix_exp of an admitted matrix
unfoldable pub exponential : List Float → ℕ → Exponential
exponential m n =
    let s = squarings (norm m n) in
    let t = taylor (scaled m s) n in
    record { entries = squared s t.sum n; terms = t.terms; squarings = s }

-- what is told of it at the most: 15 terms, 32 squarings, 47 together
abbrev pub Few : ℕ → ℕ → Type 0
Few terms squarings = (terms ≤ 15) × (squarings ≤ 32) × (terms + squarings ≤ 47)

-- what is told of it: where m is admitted, its terms and squarings
unfoldable pub reach : List Float → ℕ → Option Reach
reach m n = cond (admitted m n) (Some (record { terms = (exponential m n).terms; squarings = (exponential m n).squarings })) None
