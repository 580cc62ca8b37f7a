-- What a counting loop leaves, as a function of how often it turned. Definitions only.
use Rattle.std.specs.Prelude.{ℕ, zero, suc, ◌+◌, ◌*◌, ◌/◌, ◌%◌, Bool, true, ◌&&◌, List, [], ◌∷◌, ◌++◌, Float, get_or, set, drop}
use Rattle.std.specs.Float.{nan}

-- the state after the turns 0 .. n - 1
unfoldable pub iter : {A : Type 0} → ℕ → (ℕ → A → A) → A → A
iter zero f s = s
iter (suc k) f s = f k (iter k f s)

-- whether f holds of 0, 1, .., n - 1
unfoldable pub every : ℕ → (ℕ → Bool) → Bool
every zero f = true
every (suc n) f = every n f && f n

-- f i, f (i + 1), .., n of them
unfoldable pub from : {A : Type 0} → ℕ → ℕ → (ℕ → A) → List A
from zero i f = []
from (suc n) i f = f i ∷ from n (suc i) f

-- the list f 0, f 1, .., f (n - 1)
unfoldable pub tab : {A : Type 0} → ℕ → (ℕ → A) → List A
tab n f = from n 0 f

-- a matrix of size n, row by row: f i j stands in row i and column j
unfoldable pub mat : ℕ → (ℕ → ℕ → Float) → List Float
mat n f = tab (n * n) (λ p. f (p / n) (p % n))

-- r rows of c places each, row by row
unfoldable pub grid : ℕ → ℕ → (ℕ → ℕ → Float) → List Float
grid r c f = tab (r * c) (λ p. f (p / c) (p % c))

-- o with its first n entries by f
unfoldable pub fill : {A : Type 0} → ℕ → (ℕ → A) → List A → List A
fill n f o = tab n f ++ drop n o

-- what stands at place i; a place that is not there reads as a NaN
infixl 80 ◌!◌
abbrev pub ◌!◌ : List Float → ℕ → Float
x ! i = get_or x i nan

-- n stores from place b on, the j-th of g j of what stands there
unfoldable pub stores : (ℕ → Float → Float) → ℕ → ℕ → List Float → List Float
stores g b n o = iter n (λ j o. set o (b + j) (g j (o ! (b + j)))) o
