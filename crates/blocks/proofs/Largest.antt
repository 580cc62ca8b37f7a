-- The largest magnitude: the whole has the first n rows in order, and behind them zeros and repeats of the lower block's numbers. Assumes nothing.
use Rattle.std.proofs.Common.{ℕ, zero, suc, ◌+◌, ◌*◌, ◌-◌, ◌/◌, ◌%◌, ◌<◌, ◌≤◌, ◌≡◌, refl, sym, ap, ◌∙◌, false, le-div_iff_mul-le, arith, Float}
use Rattle.std.proofs.Math.Nat.{le_refl, add-zero, add-mul, suc-mul}
use Rattle.std.proofs.Math.Decide.{dec_lt}
use lib.Count.{count_trailing_zeros}
use Rattle.std.specs.Float.Ieee.{lt, is_nan, of_bits, of_fields, odd}
use Rattle.loops.specs.Loop.{◌!◌}
use Rattle.loops.proofs.Places.{size_some, row_below, column_below}
use Rattle.float.specs.Arith.{zero+, one, abs, most}
use Rattle.float.proofs.Signed.{sgn}
use Rattle.float.proofs.Same.{abs_sign}
use Rattle.float.proofs.Sums.{most_ext}
use Rattle.float.proofs.Order.{most-number, zero_number, one_number}
use Rattle.matrix.specs.Matrix.{max_abs, small}
use Rattle.blocks.specs.Blocks.{Blocks, whole, block_most, block_small}
use Rattle.blocks.proofs.Whole.{entry, zero_at, lower_at, whole_at, whole_place, upper_place, length-whole}
use Rattle.blocks.proofs.Most.{not_zero, most_split, most_stays, most_sign, member}

pub abs-zero : abs zero+ ≡ zero+
unfolding abs of_bits of_fields odd count_trailing_zeros
abs-zero = refl

module _ (n p : ℕ) (x : Blocks) (z : Float) (N : is_nan z ≡ false) (S : sgn z ≡ false) where
  -- the magnitudes of the whole, of the first n rows and of the lower block
  abbrev all : ℕ → Float
  all q = abs (whole n p x ! q)

  abbrev above : ℕ → Float
  above q = abs (x.upper ! q)

  abbrev below : ℕ → Float
  below d = abs (x.lower ! d)

  -- the largest of the first n rows, and of the lower block too
  abbrev U : Float
  U = most (n * (n + p)) above z

  abbrev L : Float
  L = most p below U

  U_number : is_nan U ≡ false
  U_number = most-number (n * (n + p)) above z N

  U_sign : sgn U ≡ false
  U_sign = most_sign above z (λ k. abs_sign (x.upper ! k)) S N (n * (n + p))

  L_number : is_nan L ≡ false
  L_number = most-number p below U U_number

  L_sign : sgn L ≡ false
  L_sign = most_sign below U (λ k. abs_sign (x.lower ! k)) U_sign U_number p

  -- no entry below the first n rows is larger
  rest : (i j : ℕ) → n ≤ i → i < n + p → j < n + p → lt L (abs (entry n p x i j)) ≡ false
  rest i j h k l = go (dec_lt j i)
    where
      go : Dec (j < i) → lt L (abs (entry n p x i j)) ≡ false
      go (yes m) = rw (zero_at n p x i j h m, abs-zero) (not_zero L L_sign)
      go (no m) = let e : i ≤ j = omega arith in rw (lower_at n p x i j h e) (member below U (λ k. abs_sign (x.lower ! k)) U_sign U_number p (j - i) (omega arith))

  -- r places follow the first row of the lower block
  by_rows : (r : ℕ) → n * (n + p) + (n + (p + r)) ≡ (n + p) * (n + p) → 0 < p → most ((n + p) * (n + p)) all z ≡ L
  by_rows r e o =
      ap (λ m. most m all z) (sym e) ∙ most_split (n * (n + p)) (n + (p + r)) all z
      ∙ ap (λ y. most (n + (p + r)) (λ k. all (n * (n + p) + k)) y) (most_ext (n * (n + p)) all above z (λ q h. ap abs (upper_place n p x q h)))
      ∙ most_split n (p + r) (λ k. all (n * (n + p) + k)) U
      ∙ ap (λ y. most (p + r) (λ k. all (n * (n + p) + (n + k))) y) (most_stays n (λ k. all (n * (n + p) + k)) U U_number zeros)
      ∙ most_split p r (λ k. all (n * (n + p) + (n + k))) U
      ∙ ap (λ y. most r (λ k. all (n * (n + p) + (n + (p + k)))) y) (most_ext p _ below U lowers)
      ∙ most_stays r (λ k. all (n * (n + p) + (n + (p + k)))) L L_number rests
    where
      zeros : (k : ℕ) → k < n → lt U (all (n * (n + p) + k)) ≡ false
      zeros k h = rw (whole_at n p x n k (omega arith) (omega arith), zero_at n p x n k (le_refl n) h, abs-zero) (not_zero U U_sign)

      lowers : (d : ℕ) → d < p → all (n * (n + p) + (n + d)) ≡ below d
      lowers d h =
          let a : n ≤ n + d = omega arith in
          let b : n + d - n ≡ d = omega arith in
          rw (whole_at n p x n (n + d) (omega arith) (omega arith), lower_at n p x n (n + d) (le_refl n) a, b)

      rests : (k : ℕ) → k < r → lt L (all (n * (n + p) + (n + (p + k)))) ≡ false
      rests k h =
          let q = n * (n + p) + (n + (p + k)) in
          let l : q < (n + p) * (n + p) = omega arith in
          let s : n * (n + p) ≤ q = omega arith in
          rw (whole_place n p x q l) (rest (q / (n + p)) (q % (n + p)) ((le-div_iff_mul-le (size_some q (n + p) l)).1 s) (row_below q (n + p) l) (column_below q (n + p) l))

pub largest_whole : (n p : ℕ) (x : Blocks) (z : Float) → is_nan z ≡ false → sgn z ≡ false → max_abs z (whole n p x) ≡ block_most n p z x
unfolding max_abs block_most most
largest_whole n zero x z N S =
    let e : (n + 0) * (n + 0) ≡ n * (n + 0) = ap (λ m. m * (n + 0)) (add-zero n) in
    rw length-whole (ap (λ m. most m (λ q. abs (whole n 0 x ! q)) z) e ∙ most_ext (n * (n + 0)) _ _ z (λ q h. ap abs (upper_place n 0 x q h)))
largest_whole n (suc p) x z N S = rw length-whole (by_rows n (suc p) x z N S (p * (n + suc p)) (rows n p) (omega arith))
  where
    rows : (n p : ℕ) → n * (n + suc p) + (n + (suc p + p * (n + suc p))) ≡ (n + suc p) * (n + suc p)
    rows n p =
        let a : (n + suc p) * (n + suc p) ≡ n * (n + suc p) + suc p * (n + suc p) = add-mul n (suc p) (n + suc p) in
        let b : suc p * (n + suc p) ≡ p * (n + suc p) + (n + suc p) = suc-mul p (n + suc p) in
        omega arith

pub zero_sign : sgn zero+ ≡ false
unfolding of_bits of_fields odd
zero_sign = refl

pub one_sign : sgn one ≡ false
unfolding of_bits of_fields odd
one_sign = refl

pub from_zero : (n p : ℕ) (x : Blocks) → max_abs zero+ (whole n p x) ≡ block_most n p zero+ x
from_zero n p x = largest_whole n p x zero+ zero_number zero_sign

pub from_one : (n p : ℕ) (x : Blocks) → max_abs one (whole n p x) ≡ block_most n p one x
from_one n p x = largest_whole n p x one one_number one_sign

pub small_whole : (n p : ℕ) (t r : Blocks) → small (whole n p t) (whole n p r) ≡ block_small n p t r
unfolding small block_small
small_whole n p t r = rw (from_zero n p t, from_one n p r)
