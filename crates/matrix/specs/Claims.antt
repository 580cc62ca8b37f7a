-- The claims on the exponential. Definitions only: proofs/Claims.antt proves each.
use Rattle.std.specs.Prelude.{ℕ, suc, ◌*◌, ◌≤◌, ◌<◌, ◌≡◌, true, false, List, [], ◌∷◌, map, T, Float, length}
use Rattle.std.specs.Float.{binary64}
use Rattle.std.specs.Float.Ieee.{fits, of_bits}
use Rattle.loops.specs.Loop.{iter, ◌!◌}
use Rattle.float.specs.Arith.{half}
use Rattle.matrix.specs.Matrix.{identity, add_all, norm, admitted, enough, squarings, scaled, term_at, series, taylor, squared, exponential, Few}

-- a matrix of doubles, of size up to 20, whose row sums are finite and at most 2 ^ 31
pub record Admitted (m : List Float) (n : ℕ) : Type 0 where
  pub size : n ≤ 20
  pub places : length m ≡ n * n
  pub doubles : (p : ℕ) → p < n * n → T (fits binary64 (m ! p))
  pub rows : admitted m n ≡ true

-- the series stops at term 15 or sooner, so the Rust's limit of 128 is never met
abbrev pub StopsAt15 : Type 0
StopsAt15 = (m : List Float) (n : ℕ) → Admitted m n → (exponential m n).terms ≤ 15

-- s is at most 32 (`LeastScale`), so terms and squarings are at most 47 together
abbrev pub AtMost47 : Type 0
AtMost47 = (m : List Float) (n : ℕ) → Admitted m n → Few (exponential m n).terms (exponential m n).squarings

-- the identity and the first k terms, added in turn
unfoldable pub terms_added : List Float → ℕ → ℕ → List Float
terms_added a n k = iter k (λ i sum. add_all sum (term_at a n (suc i))) (identity n)

-- the counts are of what is done: so many terms are added, the identity being none, and their sum is squared so many times
abbrev pub CountsMade : Type 0
CountsMade = (m : List Float) (n : ℕ) → Admitted m n
    → let s = (exponential m n).squarings in (exponential m n).entries ≡ squared s (terms_added (scaled m s) n (exponential m n).terms) n

-- with a limit of 15 the series is the same
abbrev pub LimitUnmet : Type 0
LimitUnmet = (m : List Float) (n : ℕ) → Admitted m n → let a = scaled m (squarings (norm m n)) in taylor a n ≡ series 15 a n (identity n) (identity n) 1

-- [0.5] does reach 15
abbrev pub Reaches15 : Type 0
Reaches15 = (exponential (half ∷ []) 1).terms ≡ 15

-- s is at most 32, 2 ^ s is at least twice the norm, and no smaller power is
abbrev pub LeastScale : Type 0
LeastScale = (m : List Float) (n : ℕ) → Admitted m n
    → ((exponential m n).squarings ≤ 32) × (enough (norm m n) (exponential m n).squarings ≡ true) × ((t : ℕ) → t < (exponential m n).squarings → enough (norm m n) t ≡ false)

-- s for the norms 0.5, just above 0.5, 1, just above 8, 2 ^ 31
abbrev pub Scales : Type 0
Scales = map (λ b. (exponential (of_bits binary64 b ∷ []) 1).squarings)
    (0x3fe0_0000_0000_0000 ∷ 0x3fe0_0000_0000_0001 ∷ 0x3ff0_0000_0000_0000 ∷ 0x4020_0000_0000_0001 ∷ 0x41e0_0000_0000_0000 ∷ []) ≡ 0 ∷ 1 ∷ 1 ∷ 5 ∷ 32 ∷ []

-- 2 ^ 31 is admitted, and the next double is not
abbrev pub TopRow : Type 0
TopRow = map (λ b. admitted (of_bits binary64 b ∷ []) 1) (0x41e0_0000_0000_0000 ∷ 0x41e0_0000_0000_0001 ∷ []) ≡ true ∷ false ∷ []
