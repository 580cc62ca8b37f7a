-- Rows and columns of a matrix that is kept row by row. Assumes nothing.
use Rattle.std.proofs.Common.{ℕ, zero, suc, ◌+◌, ◌*◌, ◌/◌, ◌%◌, ◌<◌, ◌≤◌, ◌≡◌, sym, ap, ◌∙◌, arith, List, length, Float, div-add-mod'}
use Rattle.std.proofs.Math.Nat.{not-suc-le-zero, zero-mul, mul-zero, div-lt_iff_lt-mul, mod-lt, add-zero, suc-mul, mul-le-mul, mul-le-mul_right, mul_comm, mul-add-div_right, mul-add-mod_self_right, div-eq_of_lt, mod-eq_of_lt}
use Rattle.loops.specs.Loop.{mat, grid, fill, ◌!◌}
use Rattle.loops.proofs.Loops.{length-tab, tab_at, fill_all}
use Rattle.loops.proofs.Stores.{is_tab}

-- row i ends within the matrix
pub row_fits : (i n : ℕ) → i < n → i * n + n ≤ n * n
row_fits i n h = rw suc-mul at (mul-le-mul_right n h)

-- and the matrix within that of any larger size
pub row_small : (i n k : ℕ) → i < n → n ≤ k → (i * n + n ≤ n * n) × (n * n ≤ k * k)
row_small i n k h l = (row_fits i n h, mul-le-mul l l)

pub place_row : (i j n : ℕ) → j < n → (i * n + j) / n ≡ i
place_row i j n h = let z : 0 < n = omega arith in rw (mul-add-div_right, div-eq_of_lt h, add-zero)

pub place_column : (i j n : ℕ) → j < n → (i * n + j) % n ≡ j
place_column i j n h = rw (mul-add-mod_self_right, mod-eq_of_lt h)

-- the same where the width stands first
pub slot_row : (w i j : ℕ) → j < w → (w * i + j) / w ≡ i
slot_row w i j h = rw (mul_comm w i) (place_row i j w h)

pub slot_column : (w i j : ℕ) → j < w → (w * i + j) % w ≡ j
slot_column w i j h = rw (mul_comm w i) (place_column i j w h)

-- a place's row and column
some_row : {p : ℕ} (n : ℕ) → p < n * n → 0 < n
some_row zero h = absurd (not-suc-le-zero (rw zero-mul at h))
some_row (suc n) h = omega arith

pub size_some : (p n : ℕ) → p < n * n → 0 < n
size_some p n h = some_row n h

pub row_below : (p n : ℕ) → p < n * n → p / n < n
row_below p n h = let z : 0 < n = some_row n h in (div-lt_iff_lt-mul z).1 h

pub column_below : (p n : ℕ) → p < n * n → p % n < n
column_below p n h = let z : 0 < n = some_row n h in mod-lt p z

pub length-grid : (r c : ℕ) (f : ℕ → ℕ → Float) → length (grid r c f) ≡ r * c
unfolding grid
length-grid r c f = length-tab (r * c) _

-- row i ends within r rows
pub row_within : (i r c : ℕ) → i < r → i * c + c ≤ r * c
row_within i r c h = rw suc-mul at (mul-le-mul_right c h)

-- what stands in row i and column j
pub grid_at : (r c : ℕ) (f : ℕ → ℕ → Float) (i j : ℕ) → i < r → j < c → grid r c f ! (i * c + j) ≡ f i j
unfolding grid
grid_at r c f i j h k = tab_at (r * c) _ (i * c + j) (omega (arith, row_within i r c h)) ∙ rw (place_row i j c k, place_column i j c k)

-- a place's row and column
pub places_wide : {p : ℕ} (r c : ℕ) → p < r * c → 0 < c
places_wide r zero h = absurd (not-suc-le-zero (rw mul-zero at h))
places_wide r (suc c) h = omega arith

-- a list is a grid by its entries
pub is_grid : (r c : ℕ) (f : ℕ → ℕ → Float) (l : List Float) → length l ≡ r * c → ((i j : ℕ) → i < r → j < c → l ! (i * c + j) ≡ f i j) → l ≡ grid r c f
unfolding grid
is_grid r c f l e h = is_tab (r * c) _ l e (λ p q. go p q)
  where
    go : (p : ℕ) → p < r * c → l ! p ≡ f (p / c) (p % c)
    go p q =
        let z : 0 < c = places_wide r c q in
        ap (λ s. l ! s) (sym (div-add-mod' p c)) ∙ h (p / c) (p % c) ((div-lt_iff_lt-mul z).1 q) (mod-lt p z)

pub mat_at : (n : ℕ) (f : ℕ → ℕ → Float) (i j : ℕ) → i < n → j < n → mat n f ! (i * n + j) ≡ f i j
unfolding mat grid
mat_at n f i j h k = grid_at n n f i j h k

pub length-mat : (n : ℕ) (f : ℕ → ℕ → Float) → length (mat n f) ≡ n * n
unfolding mat grid
length-mat n f = length-grid n n f

-- a loop over all places of a matrix
pub mat_all : (n : ℕ) (f : ℕ → ℕ → Float) (i : ℕ) (o x : List Float) → x ≡ fill i (λ p. f (p / n) (p % n)) o → i ≡ length o → length o ≡ n * n → x ≡ mat n f
unfolding mat
mat_all n f i o x e h k = rw (← k) (fill_all _ i o x e h)
