-- An admitted matrix, scaled, is calm: its entries are finite, and no entry of a sum of its first 15 terms is above 2. Assumes nothing.
use Rattle.std.proofs.Common.{◌≡◌, refl, sym, ◌∙◌, subst, List, ℕ, zero, suc, ◌+◌, ◌-◌, ◌*◌, ◌^◌, ◌≤◌, ◌<◌, le_trans, le_refl, le_of_eq, zero-lt-suc, add-zero, add-suc, arith, false, true, leb→le, lit≤, pow_pos, length, Float}
use lib.Count.{count_trailing_zeros}
use lib.Ieee.Bits.{is_true}
use lib.Ieee.Exact.{HasValue}
use lib.Ieee.Order.{le_of_values}
use Rattle.std.specs.Float.Ieee.{nan, inf, fin, binary64, le, of_bits, of_fields, odd}
use Rattle.loops.specs.Loop.{iter, ◌!◌}
use Rattle.loops.proofs.Loops.{length-tab, tab_at}
use Rattle.float.specs.Arith.{◌⊕◌, one, two, finite}
use Rattle.float.proofs.Round.{half}
use Rattle.float.proofs.Signed.{add_off, add-le}
use Rattle.matrix.specs.Matrix.{div_all, add_all, max_abs, norm, squarings, scaled, term_at}
use Rattle.matrix.specs.Calls.{Calm}
use Rattle.matrix.specs.Claims.{Admitted, terms_added}
use Rattle.matrix.proofs.RowSums.{On64, mag64, unit64, two_units}
use Rattle.matrix.proofs.Terms.{Rows, bd, one_mag, term_rows, term_length}
use Rattle.matrix.proofs.Stop.{Pos64, most-le, entries}
use Rattle.matrix.proofs.Scaling.{β64}
use Rattle.matrix.proofs.Claims.{scaled_rows, β64_le, by_15}

-- ---- the bound of an entry of the sum of k terms: their bounds, and a little for each addition
abbrev slack : ℕ
slack = 2 ^ 1024

unfoldable sum_bd : ℕ → ℕ
sum_bd zero = bd zero
sum_bd (suc k) = sum_bd k + bd (suc k) + slack

sum_bd_15 : sum_bd 15 ≤ unit64 * 2
unfolding sum_bd bd
sum_bd_15 = leb→le (sum_bd 15) (2 ^ 1075) tt

sum_bd_up : (k j : ℕ) → sum_bd k ≤ sum_bd (k + j)
unfolding sum_bd
sum_bd_up k zero = rw add-zero (le_refl (sum_bd k))
sum_bd_up k (suc j) = rw add-suc (wide (sum_bd k) (sum_bd (k + j)) (bd (suc (k + j))) slack (sum_bd_up k j))
  where
    wide : (a b v e : ℕ) → a ≤ b → a ≤ b + v + e
    wide a b v e h = omega arith

sum_bd_le : (k : ℕ) → k ≤ 15 → sum_bd k ≤ unit64 * 2
sum_bd_le k h = let e : k + (15 - k) ≡ 15 = omega arith in le_trans (rw e at (sum_bd_up k (15 - k))) sum_bd_15

-- ---- one addition
enough : unit64 * 2 + half binary64 ≤ slack * (2 * half binary64)
enough = lit≤ tt

added : (x y : Float) (S V : ℕ) → On64 x × (mag64 x ≤ S) → On64 y × (mag64 y ≤ V) → S + V + slack ≤ unit64 * 2 → On64 (x ⊕ y) × (mag64 (x ⊕ y) ≤ S + V + slack)
added x y S V h k l =
    let w : mag64 x + mag64 y ≤ unit64 * 2 = within (mag64 x) (mag64 y) S V slack (unit64 * 2) h.1 k.1 l in
    let a = add_off binary64 x y slack h.0 k.0 (two_units (mag64 x + mag64 y) w) (le_trans (wider (mag64 x + mag64 y) (unit64 * 2) (half binary64) w) enough) in
    (a.0, grown (mag64 (x ⊕ y)) (mag64 x) (mag64 y) S V slack h.1 k.1 (add-le binary64 x y slack a.1))
  where
    within : (a b s v e u : ℕ) → a ≤ s → b ≤ v → s + v + e ≤ u → a + b ≤ u
    within a b s v e u h k l = omega arith

    wider : (a b q : ℕ) → a ≤ b → a + q ≤ b + q
    wider a b q h = omega arith

    grown : (g a b s v e : ℕ) → a ≤ s → b ≤ v → g ≤ a + b + e → g ≤ s + v + e
    grown g a b s v e h k l = omega arith

-- ---- the sum of k terms
sum_length : (b : List Float) (n k : ℕ) → length (terms_added b n k) ≡ n * n
unfolding terms_added iter add_all
sum_length b n zero = unfold term_at in term_length b n 0
sum_length b n (suc k) = length-tab (length (terms_added b n k)) _ ∙ sum_length b n k

sum_first : (b : List Float) (n : ℕ) → terms_added b n 0 ≡ term_at b n 0
unfolding terms_added iter term_at
sum_first b n = refl

sum_next : (b : List Float) (n k p : ℕ) → p < n * n → terms_added b n (suc k) ! p ≡ terms_added b n k ! p ⊕ term_at b n (suc k) ! p
unfolding terms_added iter add_all
sum_next b n k p h = tab_at (length (terms_added b n k)) _ p (rw sum_length h)

pub on_finite : (x : Float) → On64 x → finite x ≡ true
unfolding finite
on_finite nan h = absurd h
on_finite (inf s) h = absurd h
on_finite (fin s m e) h = refl

one_pos : Pos64 one
unfolding of_bits of_fields odd count_trailing_zeros
one_pos = subst (λ (z : ℕ). HasValue one false z unit64) (sym one_mag) (refl, refl)

two_value : HasValue two false 2 1
unfolding of_bits of_fields odd count_trailing_zeros
two_value = (refl, refl)

one_small : mag64 one ≤ unit64 * 2
one_small = le_trans (le_of_eq one_mag) (lit≤ tt)

module _ (n β : ℕ) (b : List Float) (n20 : n ≤ 20) (β-le : β * 1024 ≤ unit64 * 530) (rows : Rows n b β) where
  term_entry : (k p : ℕ) → k ≤ 15 → p < n * n → On64 (term_at b n k ! p) × (mag64 (term_at b n k ! p) ≤ bd k)
  term_entry k p h l = entries n (bd k) (term_at b n k) (term_length b n k) (term_rows n β b n20 β-le rows k (omega arith)) p (rw term_length l)

  sum_entry : (k p : ℕ) → k ≤ 15 → p < n * n → On64 (terms_added b n k ! p) × (mag64 (terms_added b n k ! p) ≤ sum_bd k)
  unfolding sum_bd
  sum_entry zero p h l = rw sum_first (term_entry 0 p h l)
  sum_entry (suc k) p h l =
      rw (sum_next b n k p l)
      (added (terms_added b n k ! p) (term_at b n (suc k) ! p) (sum_bd k) (bd (suc k)) (sum_entry k p (omega arith) l) (term_entry (suc k) p h l) (sum_bd_le (suc k) h))

  low : (k : ℕ) → k ≤ 15 → le (max_abs one (terms_added b n k)) two ≡ true
  unfolding max_abs
  low k h =
      let s = terms_added b n k in
      let m = most-le (unit64 * 2) one (λ p. s ! p) (length s) one_pos one_small
      (λ p l. let e = sum_entry k p h (rw sum_length at l) in (e.0, le_trans e.1 (sum_bd_le k h))) in
      is_true _ (le_of_values _ two _ unit64 2 1 (pow_pos 1074) (zero-lt-suc 0) m.0 two_value (turned _ unit64 m.1))
    where
      turned : (x u : ℕ) → x ≤ u * 2 → x * 1 ≤ 2 * u
      turned x u h = omega arith

  numbers : length b ≡ n * n → (p : ℕ) → p < n * n → finite (b ! p) ≡ true
  numbers e p l = on_finite (b ! p) (entries n β b e rows p (rw e l)).0

scaled_length : (m : List Float) (s : ℕ) → length (scaled m s) ≡ length m
unfolding scaled div_all
scaled_length m s = length-tab (length m) _

pub calm : (m : List Float) (n : ℕ) → Admitted m n → Calm (scaled m (squarings (norm m n))) n
calm m n ok =
    let s = squarings (norm m n) in
    let rows = scaled_rows m n ok in record {
      numbers = numbers n β64 (scaled m s) ok.size β64_le rows (scaled_length m s ∙ ok.places);
      low = low n β64 (scaled m s) ok.size β64_le rows;
      stops = (by_15 m n ok).0;
    }
