-- Record by record, the sums that a table gives. Assumes nothing.
use Rattle.std.proofs.Common.{ℕ, ◌+◌, ◌≤◌, ◌<◌, arith, ◌≡◌, ◌≢◌, refl, sym, ap, ◌∙◌, List, Float, length}
use Rattle.std.proofs.Common.{set, replicate, length-set, get_or-set_same, get_or-set_other, eq-eqb, ne_eqb}
use Rattle.std.proofs.Math.Decide.{ℕ_discrete, dec_lt}
use Rattle.std.proofs.Math.Numerals.{add-one}
use Rattle.std.proofs.lemmas.List.{ext_get_or}
use Rattle.std.specs.Float.{binary64}
use Rattle.std.specs.Float.Ieee.{nan, of_bits}
use Rattle.loops.specs.Loop.{iter, ◌!◌}
use Rattle.float.specs.Arith.{◌⊕◌, zero+}
use Rattle.matrix.specs.Vector.{vec, zeros}
use Rattle.matrix.proofs.Vectors.{length-vec, vec_at, vec-clear, zeros_at}
use Rattle.table.specs.Table.{target, value, summed, records, derivative}

-- a vector with one place stored
vec-set : (n : ℕ) (f g : ℕ → Float) (i : ℕ) (y : Float) → i < n → n ≤ 16 → y ≡ g i → ((j : ℕ) → j ≢ i → f j ≡ g j) → set (vec n f) i y ≡ vec n g
vec-set n f g i y h k e same =
    let long : length (vec n f) ≡ 16 = length-vec n f k in
    ext_get_or nan (set (vec n f) i y) (vec n g) (length-set (vec n f) i y ∙ long ∙ sym (length-vec n g k))
    (λ p q. let l : p < 16 = rw (length-set, long) at q in at_place p l (ℕ_discrete p i) (dec_lt p n))
  where
    at_place : (p : ℕ) → p < 16 → Dec (p ≡ i) → Dec (p < n) → set (vec n f) i y ! p ≡ vec n g ! p
    at_place p l (yes z) d =
        let m : i < length (vec n f) = rw (length-vec n f k) (omega arith) in
        rw (z, get_or-set_same) (e ∙ sym (vec_at n g i h))
    at_place p l (no z) (yes b) = rw get_or-set_other (vec_at n f p b ∙ same p z ∙ sym (vec_at n g p b))
    at_place p l (no z) (no b) = rw get_or-set_other (vec-clear n f p (omega arith) l ∙ sym (vec-clear n g p (omega arith) l))

module _ (n : ℕ) (t : List ℕ) (time : Float) (u : List Float) (small : n ≤ 16) where
  -- no record yet
  pub sums_start : replicate 16 (of_bits binary64 0) ≡ vec n (λ i. summed t time u i 0)
  unfolding summed iter zeros
  sums_start =
      ext_get_or nan zeros (vec n (λ i. zero+)) (sym (length-vec n (λ i. zero+) small)) (λ p q. at_place p (omega arith) (dec_lt p n))
    where
      at_place : (p : ℕ) → p < 16 → Dec (p < n) → zeros ! p ≡ vec n (λ i. zero+) ! p
      at_place p l (yes b) = zeros_at p l ∙ sym (vec_at n (λ i. zero+) p b)
      at_place p l (no b) = zeros_at p l ∙ sym (vec-clear n (λ i. zero+) p (omega arith) l)

  -- record m adds to its target
  pub sums_more : (m : ℕ) (x : List Float) {i : ℕ} {v : Float} → i ≡ target t m → i < n → x ≡ vec n (λ i. summed t time u i m) → v ≡ value t time u m
      → set x i (x ! i ⊕ v) ≡ vec n (λ i. summed t time u i (m + 1))
  unfolding summed iter
  sums_more m x {i} {v} h k e f =
      rw (e, vec_at n (λ i. summed t time u i m) i k, f)
      (vec-set n (λ i. summed t time u i m) (λ i. summed t time u i (m + 1)) i _ k small (rw (add-one, ← h, eq-eqb i i refl))
      (λ j z. rw (add-one, ← h, ne_eqb i j (λ q. z (sym q)))))

  -- all records
  pub sums_end : (m : ℕ) (x : List Float) → m ≡ records t → x ≡ vec n (λ i. summed t time u i m) → x ≡ derivative n t time u
  unfolding derivative
  sums_end m x h e = e ∙ ap (λ (k : ℕ). vec n (λ i. summed t time u i k)) h
