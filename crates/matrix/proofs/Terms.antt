-- The Taylor terms as matrices: the row sums of term k are at most `bd k` units, and every entry is finite. Assumes nothing.
use Rattle.std.proofs.Common.{◌≡◌, refl, sym, ap, ◌∙◌, subst, List, ℕ, zero, suc, ◌+◌, ◌*◌, ◌/◌, ◌^◌, ◌≤◌, ◌<◌, zero-le, le_trans, le_refl, le_of_eq, lt_of_lt_of_le, lt_of_le_of_lt, not-le_of_lt, zero-lt-suc, mul-one, mul-le-mul_right, le-div_iff_mul-le, arith, Bool, true, false, cond, T, leb→le, eqb, eqb→eq, lit≤, shl_lt, length, pos, Float}
use Rattle.std.proofs.Math.Nat.{le-suc, div-le_of_le-mul}
use lib.Count.{count_trailing_zeros}
use Rattle.std.specs.Float.Ieee.{binary64, low, of_int, of_bits, of_fields, odd}
use lib.Ieee.Exact.{HasValue, round_exact}
use Rattle.float.specs.Arith.{◌⊘◌, zero+, one}
use Rattle.loops.specs.Loop.{◌!◌}
use Rattle.loops.proofs.Loops.{length-tab, tab_at}
use Rattle.loops.proofs.Places.{mat_at, length-mat, row_fits}
use Rattle.matrix.specs.Matrix.{at, identity, mat_mul, div_all, next_term, term_at}
use Rattle.float.proofs.Mag.{equals_on, equals_mag}
use Rattle.float.proofs.Total.{total, total_mono}
use Rattle.matrix.proofs.RowSums.{On64, mag64, unit64, zero_on, zero_mag, row_on, row_shrinks}
use Rattle.matrix.specs.Products.{dot}

-- ---- entries
mat_mul_entry : (n i j : ℕ) (l r : List Float) → i < n → j < n → at (mat_mul l r n) n i j ≡ dot n (at l n i) (λ k. at r n k j)
unfolding mat_mul dot
mat_mul_entry n i j l r hi hj = mat_at n _ i j hi hj

mat_mul-length : (l r : List Float) (n : ℕ) → length (mat_mul l r n) ≡ n * n
unfolding mat_mul
mat_mul-length l r n = length-mat n _

pub quotient : (m : List Float) (d : Float) (p : ℕ) → p < length m → div_all m d ! p ≡ m ! p ⊘ d
unfolding div_all
quotient m d p h = tab_at (length m) _ p h

place : (i j n : ℕ) → i < n → j < n → i * n + j < n * n
place i j n hi hj = omega (arith, row_fits i n hi)

pub next_entry : (n i j k : ℕ) (b t : List Float) → i < n → j < n → at (next_term t b n k) n i j ≡ dot n (at t n i) (λ m. at b n m j) ⊘ of_int binary64 (pos k)
unfolding next_term
next_entry n i j k b t hi hj =
    quotient (mat_mul t b n) (of_int binary64 (pos k)) (i * n + j) (rw mat_mul-length (place i j n hi hj)) ∙ ap (λ (z : Float). z ⊘ of_int binary64 (pos k)) (mat_mul_entry n i j t b hi hj)

-- ---- rows
abbrev pub Rows : ℕ → List Float → ℕ → Type 0
Rows n m R = (i : ℕ) → i < n → ((j : ℕ) → j < n → On64 (at m n i j)) × (total n (λ j. mag64 (at m n i j)) ≤ R)

pub total_ap : (n : ℕ) (f g : ℕ → Float) → ((j : ℕ) → j < n → f j ≡ g j) → total n (λ j. mag64 (f j)) ≤ total n (λ j. mag64 (g j))
total_ap n f g h = total_mono n (λ j. mag64 (f j)) (λ j. mag64 (g j)) (λ j l. le_of_eq (ap mag64 (h j l)))

-- ---- a whole number as a float
pub of_int_value : (k : ℕ) → k < 2 ^ 53 → HasValue (of_int binary64 (pos k)) false k 1
unfolding of_int
of_int_value k h = round_exact binary64 false k 1 k (low binary64) (zero-lt-suc 0) h (lt_of_lt_of_le (shl_lt 53 1074 h) (lit≤ tt)) (sym (mul-one (k * 2 ^ low binary64)))

-- ---- the bound of term k
unfoldable pub bd : ℕ → ℕ
bd zero = unit64
bd (suc k) = (9 * bd k + 30000) / (16 * suc k)

next_le : (x U k : ℕ) → x ≤ U → 30000 ≤ U → 9 * x + 30000 ≤ 16 * suc k * U
next_le x U k h l = le_trans (small x U h l) (mul-le-mul_right U (fine k))
  where
    small : (a b : ℕ) → a ≤ b → 30000 ≤ b → 9 * a + 30000 ≤ 16 * b
    small a b h l = omega arith

    fine : (a : ℕ) → 16 ≤ 16 * suc a
    fine a = omega arith

pub bd_le : (k : ℕ) → bd k ≤ unit64
unfolding bd
bd_le zero = le_refl unit64
bd_le (suc k) = div-le_of_le-mul (16 * suc k) (next_le (bd k) unit64 k (bd_le k) (lit≤ tt))

pub bd_15 : bd 15 ≤ 2 ^ 1022
unfolding bd
bd_15 = leb→le (bd 15) (2 ^ 1022) tt

-- ---- the identity
pub one_on : On64 one
unfolding of_bits of_fields odd count_trailing_zeros
one_on = equals_on binary64 one unit64 refl

pub one_mag : mag64 one ≡ unit64
unfolding of_bits of_fields odd count_trailing_zeros
one_mag = equals_mag binary64 one unit64 refl

unfoldable pub diag : ℕ → ℕ → Float
diag i j = cond (eqb i j) one zero+

pub cond_on : (b : Bool) → On64 (cond b one zero+)
cond_on true = one_on
cond_on false = zero_on

diag_step : (i m t : ℕ) (b : Bool) → (T b → i ≡ m) → (t ≤ unit64) × (m ≤ i → t ≤ 0) → (t + mag64 (cond b one zero+) ≤ unit64) × (suc m ≤ i → t + mag64 (cond b one zero+) ≤ 0)
diag_step i m t true e ih = (plain t (mag64 one) unit64 (ih.1 (le_of_eq (sym (e tt)))) one_mag, λ h. absurd (not-le_of_lt h (le_of_eq (e tt))))
  where
    plain : (x y u : ℕ) → x ≤ 0 → y ≡ u → x + y ≤ u
    plain x y u h k = omega arith
diag_step i m t false e ih = (none t (mag64 zero+) unit64 ih.0 zero_mag, λ h. none t (mag64 zero+) 0 (ih.1 (le_trans (le-suc m) h)) zero_mag)
  where
    none : (x y u : ℕ) → x ≤ u → y ≡ 0 → x + y ≤ u
    none x y u h k = omega arith

diag_total : (i m : ℕ) → (total m (λ j. mag64 (diag i j)) ≤ unit64) × (m ≤ i → total m (λ j. mag64 (diag i j)) ≤ 0)
unfolding total diag
diag_total i zero = (zero-le, λ h. le_refl 0)
diag_total i (suc m) = diag_step i m (total m (λ j. mag64 (diag i j))) (eqb i m) (eqb→eq i m) (diag_total i m)

pub identity_entry : (n i j : ℕ) → i < n → j < n → at (identity n) n i j ≡ diag i j
unfolding identity diag
identity_entry n i j hi hj = mat_at n _ i j hi hj

pub diag_on : (i j : ℕ) → On64 (diag i j)
unfolding diag
diag_on i j = cond_on (eqb i j)

pub identity_rows : (n : ℕ) → Rows n (identity n) unit64
identity_rows n i hi = (
  λ j hj. subst (λ (z : Float). On64 z) (sym (identity_entry n i j hi hj)) (diag_on i j),
  le_trans (total_ap n (at (identity n) n i) (diag i) (λ j hj. identity_entry n i j hi hj)) (diag_total i n).0,
)

-- ---- the next term
pub step : (n k R β : ℕ) (b t : List Float) → n ≤ 20 → suc k ≤ 16 → R ≤ unit64 → β * 1024 ≤ unit64 * 530 → Rows n b β → Rows n t R → Rows n (next_term t b n (suc k)) ((9 * R + 30000) / (16 * suc k))
step n k R β b t n20 k16 R-le β-le rb rt i hi =
    let y = of_int binary64 (pos (suc k)) in
    let y-is = of_int_value (suc k) (lt_of_le_of_lt k16 (lit≤ tt)) in
    let row : ℕ → Float = at t n i in
    let mat : ℕ → ℕ → Float = at b n in (
      λ j hj. subst (λ (z : Float). On64 z) (sym (next_entry n i j (suc k) b t hi hj))
          (row_on n row mat R β n20 (rt i hi).0 (rt i hi).1 R-le (λ m j hm hj. (rb m hm).0 j hj) (λ m hm. (rb m hm).1) β-le (suc k) y (zero-lt-suc k) k16 y-is j hj),
      le_trans (total_ap n (at (next_term t b n (suc k)) n i) (λ j. dot n (at t n i) (λ m. at b n m j) ⊘ y) (λ j hj. next_entry n i j (suc k) b t hi hj))
          ((le-div_iff_mul-le (pos16 k)).1
          (row_shrinks n row mat R β n20 (rt i hi).0 (rt i hi).1 R-le (λ m j hm hj. (rb m hm).0 j hj) (λ m hm. (rb m hm).1) β-le (suc k) y (zero-lt-suc k) k16 y-is)),
    )
  where
    pos16 : (a : ℕ) → 0 < 16 * suc a
    pos16 a = omega arith

pub term_rows : (n β : ℕ) (b : List Float) → n ≤ 20 → β * 1024 ≤ unit64 * 530 → Rows n b β → (k : ℕ) → k ≤ 16 → Rows n (term_at b n k) (bd k)
unfolding term_at bd
term_rows n β b n20 β-le rb zero h = identity_rows n
term_rows n β b n20 β-le rb (suc k) h = step n k (bd k) β b (term_at b n k) n20 h (bd_le k) β-le rb (term_rows n β b n20 β-le rb k (le_trans (le-suc k) h))

pub next_length : (t b : List Float) (n k : ℕ) → length (next_term t b n k) ≡ n * n
unfolding next_term div_all
next_length t b n k = length-tab (length (mat_mul t b n)) _ ∙ mat_mul-length t b n

identity-length : (n : ℕ) → length (identity n) ≡ n * n
unfolding identity
identity-length n = length-mat n _

pub term_length : (b : List Float) (n k : ℕ) → length (term_at b n k) ≡ n * n
unfolding term_at
term_length b n zero = identity-length n
term_length b n (suc k) = next_length (term_at b n k) b n (suc k)
