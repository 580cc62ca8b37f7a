-- The claims of specs/Claims.antt: the series stops at term 15 or sooner, [0.5] reaches 15, and s is the least. Assumes nothing.
use Rattle.std.proofs.Common.{◌≡◌, refl, sym, ap, ◌∙◌, subst, List, inl, inr, ℕ, zero, suc, ◌+◌, ◌*◌, ◌^◌, ◌≤◌, ◌<◌, zero-le, le_trans, le_refl, eq-or-lt_of_le, not-le_of_lt, zero-lt-suc, mul_comm, mul_assoc, mul_left_comm, mul_right_comm, mul-le-mul_right, le_of_suc-le-suc, le_of_mul-le-mul_right, le-div_iff_mul-le, div-mul-le_self, Bool, true, false, ◌&&◌, true≢false, arith, T, leb→le, Float}
use Rattle.std.proofs.Math.Nat.{le-suc}
use Rattle.std.proofs.Math.Bool.{false≢true}
use Rattle.std.proofs.Math.Arith.{digits_lt}
use lib.Count.{count_trailing_zeros}
use Rattle.std.specs.Float.Ieee.{nan, inf, fin, binary64, up, down, fits, add, mul, div, le, lt, eq, of_int, round, size, units, odd, span, climb, sum, is_nan, of_bits, of_fields}
use lib.Ieee.Fits.{down_pos}
use lib.Ieee.Scale
use Rattle.loops.proofs.Bools.{both_true}
use Rattle.loops.proofs.Loops.{every_at}
use Rattle.loops.specs.Loop.{iter, every, from, tab, mat}
use Rattle.float.specs.Arith.{◌⊘◌, zero+, limit, finite, abs, larger, sum_of, most}
use Rattle.float.proofs.Total.{total}
use Rattle.matrix.specs.Matrix.{at, identity, mat_mul, div_all, add_all, max_abs, row_sum, norm, admitted, enough, least, squarings, power, scaled}
use Rattle.matrix.specs.Matrix.{next_term, term_at, small, Series, series, taylor, squared, exponential}
use Rattle.matrix.specs.Claims.{Admitted, StopsAt15, AtMost47, terms_added, CountsMade, LimitUnmet, Reaches15, LeastScale, Scales, TopRow}
use Rattle.matrix.proofs.Powers.{norm-limit, squarings-least, squarings-enough, squarings-room}
use Rattle.matrix.proofs.Series.{added_step}
use Rattle.matrix.proofs.RowSums.{On64, mag64, unit64}
use Rattle.matrix.proofs.Terms.{Rows, quotient, total_ap}
use Rattle.matrix.proofs.Stop.{Pos64, larger_pos, zero_pos, fifteen, with, stop_here, go_on}
use Rattle.matrix.proofs.Scaling.{β64, abs_sum, scaled_row}

-- ---- 2 ^ s is at least twice the norm, in units
twice : (a d X U z : ℕ) → 0 < d → a * U ≡ X * d → 2 * a ≤ z * d → X * 2 ≤ z * U
twice a d X U z p e h =
    let l : 2 * a * U ≤ z * d * U = mul-le-mul_right U h in
    let x : 2 * a * U ≡ X * 2 * d = mul_assoc 2 a U ∙ ap (λ (w : ℕ). 2 * w) e ∙ simp (mul_assoc, mul_comm, mul_left_comm) in
    let y : z * d * U ≡ z * U * d = mul_right_comm z d U in
    le_of_mul-le-mul_right (rw (x, y) at l) p

enough→units : (x : Float) (s : ℕ) → Pos64 x → enough x s ≡ true → mag64 x * 2 ≤ 2 ^ s * unit64
unfolding enough
enough→units nan s p h = absurd p
enough→units (inf t) s p h = absurd p
enough→units (fin true m e) s p h = absurd (true≢false p.0)
enough→units (fin false m e) s p h = twice (m * up e) (down e) (mag64 (fin false m e)) unit64 (2 ^ s) (down_pos e) p.1 (leb→le (2 * (m * up e)) (2 ^ s * down e) (subst T (sym h) tt))

-- ---- the rows that are admitted
same_finite : (x : Float) → finite x ≡ true → T (lib.Ieee.Scale.finite x)
unfolding finite
same_finite nan h = absurd (false≢true h)
same_finite (inf s) h = absurd (false≢true h)
same_finite (fin s m e) h = tt

row_finite : (m : List Float) (n i : ℕ) → admitted m n ≡ true → i < n → T (lib.Ieee.Scale.finite (row_sum m n i))
unfolding admitted
row_finite m n i h l = same_finite (row_sum m n i) (both_true (finite (row_sum m n i)) (le (row_sum m n i) limit) (every_at n (λ i. finite (row_sum m n i) && le (row_sum m n i) limit) h i l)).0

most_ge : (f : ℕ → Float) (k : ℕ) → ((j : ℕ) → j < k → Pos64 (f j)) → Pos64 (most k f zero+) × ((j : ℕ) → j < k → mag64 (f j) ≤ mag64 (most k f zero+))
unfolding most
most_ge f zero h = (zero_pos, λ j l. absurd (not-le_of_lt l zero-le))
most_ge f (suc k) h =
    let ih = most_ge f k (λ j l. h j (le_trans l (le-suc k))) in
    let p = larger_pos (most k f zero+) (f k) ih.0 (h k (le_refl (suc k))) in (
      p.0,
      λ j l. elim (eq-or-lt_of_le (le_of_suc-le-suc l)) [
        | inl e ↦ subst (λ (z : ℕ). mag64 (f z) ≤ mag64 (larger (most k f zero+) (f k))) (sym e) p.2
        | inr q ↦ le_trans (ih.1 j q) p.1
      ],
    )

-- ---- the scaled matrix
module _ (m : List Float) (n : ℕ) (ok : Admitted m n) where
  entry_fits : (i j : ℕ) → i < n → j < n → T (fits binary64 (at m n i j))
  entry_fits i j hi hj = ok.doubles (i * n + j) (digits_lt hi hj)

  scaled_entry : (s i j : ℕ) → i < n → j < n → at (scaled m s) n i j ≡ at m n i j ⊘ power s
  unfolding scaled
  scaled_entry s i j hi hj = quotient m (power s) (i * n + j) (rw ok.places (digits_lt hi hj))

row_pos : (n : ℕ) (m : List Float) (i : ℕ) → Admitted m n → i < n → Pos64 (row_sum m n i)
unfolding row_sum
row_pos zero m i ok hi = absurd (not-le_of_lt hi zero-le)
row_pos (suc k) m i ok hi = (abs_sum k (at m (suc k) i) ok.size (λ j hj. entry_fits m (suc k) ok i j hi hj) (row_finite m (suc k) i ok.rows hi)).1

one_scaled : (n s : ℕ) (m : List Float) (i : ℕ) → Admitted m n → i < n → mag64 (row_sum m n i) * 2 ≤ 2 ^ s * unit64
    → ((j : ℕ) → j < n → On64 (at (scaled m s) n i j)) × (total n (λ j. mag64 (at (scaled m s) n i j)) ≤ β64)
unfolding row_sum
one_scaled zero s m i ok hi l = absurd (not-le_of_lt hi zero-le)
one_scaled (suc k) s m i ok hi l =
    let n = suc k in
    let r = scaled_row k s (at m n i) ok.size (λ j hj. entry_fits m n ok i j hi hj) (row_finite m n i ok.rows hi) l in (
      λ j hj. subst (λ (z : Float). On64 z) (sym (scaled_entry m n ok s i j hi hj)) (r.0 j hj),
      le_trans (total_ap n (at (scaled m s) n i) (λ j. at m n i j ⊘ power s) (λ j hj. scaled_entry m n ok s i j hi hj)) ((le-div_iff_mul-le (zero-lt-suc 1023)).1 r.1),
    )

norm_ge : (m : List Float) (n : ℕ) → Admitted m n → Pos64 (norm m n) × ((i : ℕ) → i < n → mag64 (row_sum m n i) ≤ mag64 (norm m n))
unfolding norm
norm_ge m n ok = most_ge (row_sum m n) n (λ j hj. row_pos n m j ok hj)

pub scaled_rows : (m : List Float) (n : ℕ) → Admitted m n → Rows n (scaled m (squarings (norm m n))) β64
scaled_rows m n ok i hi =
    let g = norm_ge m n ok in
    let x = norm m n in
    let h = enough→units x (squarings x) g.0 (squarings-enough x (norm-limit m n ok.rows)) in
    one_scaled n (squarings x) m i ok hi (le_trans (mul-le-mul_right 2 (g.1 i hi)) h)

pub β64_le : β64 * 1024 ≤ unit64 * 530
β64_le = div-mul-le_self (unit64 * 530) 1024

pub by_15 : (m : List Float) (n : ℕ) → Admitted m n → let a = scaled m (squarings (norm m n)) in ((taylor a n).terms ≤ 15) × (taylor a n ≡ series 15 a n (identity n) (identity n) 1)
by_15 m n ok = fifteen n β64 (scaled m (squarings (norm m n))) ok.size β64_le (scaled_rows m n ok)

-- ---- THE CLAIMS
pub stops_at_15 : StopsAt15
unfolding exponential
stops_at_15 m n ok = (by_15 m n ok).0

pub limit_unmet : LimitUnmet
limit_unmet m n ok = (by_15 m n ok).1

pub least-scale : LeastScale
unfolding exponential
least-scale m n ok = (squarings-room (norm m n), squarings-enough (norm m n) (norm-limit m n ok.rows), λ t h. squarings-least (norm m n) t h)

pub at_most_47 : AtMost47
at_most_47 m n ok =
    let t = stops_at_15 m n ok in
    let s = (least-scale m n ok).0 in
    (t, s, omega (arith, t, s))

-- where the series ends before its room does, it has added its last term and all before it
added_all : (a : List Float) (n d k : ℕ) (r : List Float) → r ≡ terms_added a n k → (series d a n (term_at a n k) r (suc k)).terms ≤ k + d
    → (series d a n (term_at a n k) r (suc k)).sum ≡ terms_added a n (series d a n (term_at a n k) r (suc k)).terms
added_all a n zero k r e h = let l : suc k ≤ k + 0 = unfold series in h in absurd (omega arith)
added_all a n (suc d) k r e h = go (small (term_at a n (suc k)) (with a n k r)) refl (added_all a n d (suc k) (with a n k r))
  where
    next : with a n k r ≡ terms_added a n (suc k)
    next = rw e (added_step a n k)

    rest : Series
    rest = series d a n (term_at a n (suc k)) (with a n k r) (suc (suc k))

    go : (c : Bool) → small (term_at a n (suc k)) (with a n k r) ≡ c
        → (with a n k r ≡ terms_added a n (suc k) → rest.terms ≤ suc k + d → rest.sum ≡ terms_added a n rest.terms)
        → (series (suc d) a n (term_at a n k) r (suc k)).sum ≡ terms_added a n (series (suc d) a n (term_at a n k) r (suc k)).terms
    go true t ih = rw (stop_here d a n k r t) next
    go false t ih =
        let l : rest.terms ≤ k + suc d = rw (go_on d a n k r t) at h in
        rw (go_on d a n k r t) (ih next (omega (arith, l)))

pub counts_made : CountsMade
unfolding exponential taylor
counts_made m n ok =
    let a = scaled m (squarings (norm m n)) in
    let few : (series 128 a n (term_at a n 0) (identity n) 1).terms ≤ 0 + 128 = unfold term_at in omega (arith, stops_at_15 m n ok) in
    ap (λ z. squared (squarings (norm m n)) z n) (unfold term_at in added_all a n 128 0 (identity n) (unfold terms_added iter in refl) few)

-- ---- by computing
pub reaches_15 : Reaches15
unfolding exponential taylor series next_term small identity mat_mul div_all add_all max_abs scaled squarings least enough norm row_sum mat tab from iter sum_of most abs larger is_nan add mul div le lt eq
    of_int round size units odd span climb count_trailing_zeros sum of_bits of_fields
reaches_15 = refl

pub scales : Scales
unfolding exponential squarings least enough norm row_sum sum_of most abs larger is_nan lt odd count_trailing_zeros of_bits of_fields
scales = refl

pub top_row : TopRow
unfolding admitted every finite row_sum sum_of abs le lt eq odd count_trailing_zeros of_bits of_fields
top_row = refl
