-- The row sums of an augmented matrix by parts: the rows of the lower block sum to 1, but the last, to +0.0; +0.0 behind the input column adds nothing. Assumes nothing.
use Rattle.std.proofs.Common.{ℕ, zero, suc, ◌+◌, ◌-◌, ◌<◌, ◌≤◌, ◌≡◌, refl, sym, ap, ◌∙◌, Bool, true, false, cond, ◌&&◌, eqb, nat_lt, eq-eqb, ne_eqb, lt-ltb, le-ltb, add-zero, add-suc, arith, Float}
use Rattle.std.proofs.Math.Bool.{and-true}
use Rattle.std.proofs.Math.Nat.{not-suc-le-zero}
use Rattle.std.proofs.Math.Decide.{ℕ_discrete, dec_lt}
use lib.Count.{count_trailing_zeros}
use Rattle.std.specs.Float.Ieee.{lt, le, eq, is_nan, add, sum, round, units, size, span, climb, of_bits, of_fields, odd}
use Rattle.loops.specs.Loop.{every}
use Rattle.loops.proofs.Loops.{tab_at, every_ext}
use Rattle.float.specs.Arith.{◌⊕◌, zero+, one, limit, finite, abs, larger, sum_of, most}
use Rattle.float.proofs.Signed.{sgn}
use Rattle.float.proofs.Same.{abs_sign, sum_sign}
use Rattle.float.proofs.Sums.{sum_ext, most_ext}
use Rattle.float.proofs.Order.{most-number, larger-number, zero_number}
use Rattle.matrix.specs.Matrix.{at, row_sum, norm, admitted}
use Rattle.matrix.proofs.Zeros.{zero_and_zero}
use Rattle.blocks.specs.Blocks.{Blocks, whole, one_diagonal}
use Rattle.blocks.proofs.Whole.{entry, upper_at, zero_at, lower_at, whole_at}
use Rattle.blocks.proofs.Most.{not_zero, most_split, most_stays, most_sign, member}
use Rattle.blocks.proofs.Largest.{abs-zero, zero_sign, one_sign}

-- ---- a single one among zeros
abs-one : abs one ≡ one
unfolding abs of_bits of_fields odd count_trailing_zeros
abs-one = refl

one_and_zero : one ⊕ zero+ ≡ one
unfolding add sum round units size odd span climb count_trailing_zeros of_bits of_fields
one_and_zero = refl

abbrev bit : Bool → Float
bit b = cond b one zero+

abs_bit : (b : Bool) → abs (bit b) ≡ bit b
abs_bit true = abs-one
abs_bit false = abs-zero

zero_and_one : zero+ ⊕ one ≡ one
unfolding add sum round units size odd span climb count_trailing_zeros of_bits of_fields
zero_and_one = refl

one_hot : (m c : ℕ) → 0 < m → sum_of m (λ j. bit (eqb j c)) ≡ bit (nat_lt c m)
unfolding sum_of
one_hot zero c h = absurd (not-suc-le-zero h)
one_hot (suc zero) c h = go (ℕ_discrete 0 c)
  where
    go : Dec (0 ≡ c) → bit (eqb 0 c) ≡ bit (nat_lt c 1)
    go (yes e) = let l : c < 1 = omega arith in rw (eq-eqb 0 c e, lt-ltb c 1 l)
    go (no e) = let l : 1 ≤ c = omega arith in rw (ne_eqb 0 c e, le-ltb c 1 l)
one_hot (suc (suc m)) c h = ap (λ z. z ⊕ bit (eqb (suc m) c)) (one_hot (suc m) c (omega arith)) ∙ go (dec_lt c (suc m)) (ℕ_discrete (suc m) c)
  where
    go : Dec (c < suc m) → Dec (suc m ≡ c) → bit (nat_lt c (suc m)) ⊕ bit (eqb (suc m) c) ≡ bit (nat_lt c (suc (suc m)))
    go (yes l) d = let k : c < suc (suc m) = omega arith in rw (lt-ltb c (suc m) l, lt-ltb c (suc (suc m)) k, ne_eqb (suc m) c (λ e. omega arith)) one_and_zero
    go (no l) (yes e) = let a : suc m ≤ c = omega arith in let k : c < suc (suc m) = omega arith in rw (le-ltb c (suc m) a, lt-ltb c (suc (suc m)) k, eq-eqb (suc m) c e) zero_and_one
    go (no l) (no e) = let a : suc m ≤ c = omega arith in let k : suc (suc m) ≤ c = omega arith in rw (le-ltb c (suc m) a, le-ltb c (suc (suc m)) k, ne_eqb (suc m) c e) zero_and_zero

-- ---- tests of which the last all hold
every_more : (n p : ℕ) (f : ℕ → Bool) → ((k : ℕ) → k < p → f (n + k) ≡ true) → every (n + p) f ≡ every n f
unfolding every
every_more n zero f h = rw add-zero
every_more n (suc p) f h = rw (add-suc, every_more n p f (λ k l. h k (omega arith)), h p (omega arith)) (and-true (every n f))

-- ---- the rows
module _ (n p : ℕ) (x : Blocks) (O : x.lower ≡ one_diagonal p one) where
  pub row_above : (i : ℕ) → i < n → row_sum (whole n p x) (n + p) i ≡ row_sum x.upper (n + p) i
  unfolding row_sum
  row_above i h = sum_ext (n + p) _ _ (λ j k. rw (whole_at n p x i j (omega arith) k, upper_at n p x i j h))

  lower_entry : (i j : ℕ) → i < p → j < n + p → entry n p x (n + i) j ≡ bit (eqb j (n + suc i))
  unfolding one_diagonal
  lower_entry i j h k = go (dec_lt j (n + i)) (ℕ_discrete j (n + suc i))
    where
      a : n ≤ n + i
      a = omega arith

      some : n + i ≤ j → entry n p x (n + i) j ≡ bit (eqb (j - (n + i)) 1)
      some l = rw (lower_at n p x (n + i) j a l, O) (tab_at p _ (j - (n + i)) (omega arith))

      go : Dec (j < n + i) → Dec (j ≡ n + suc i) → entry n p x (n + i) j ≡ bit (eqb j (n + suc i))
      go (yes l) d = rw (zero_at n p x (n + i) j a l, ne_eqb j (n + suc i) (λ e. omega arith))
      go (no l) (yes e) = let o : j - (n + i) ≡ 1 = omega arith in rw (some (omega arith), eq-eqb j (n + suc i) e, eq-eqb (j - (n + i)) 1 o)
      go (no l) (no e) = rw (some (omega arith), ne_eqb j (n + suc i) e, ne_eqb (j - (n + i)) 1 (λ o. e (omega arith)))

  pub row_below : (i : ℕ) → i < p → row_sum (whole n p x) (n + p) (n + i) ≡ bit (nat_lt (n + suc i) (n + p))
  unfolding row_sum
  row_below i h =
      sum_ext (n + p) _ _ (λ j k. rw (whole_at n p x (n + i) j (omega arith) k, lower_entry i j h k) (abs_bit (eqb j (n + suc i))))
      ∙ one_hot (n + p) (n + suc i) (omega arith)

  -- ---- whether the rows are admitted
  abbrev passes : Float → Bool
  passes z = finite z && le z limit

  either : (b : Bool) → passes (bit b) ≡ true
  unfolding finite le lt eq of_bits of_fields odd count_trailing_zeros
  either true = refl
  either false = refl

  pub admitted_parts : admitted (whole n p x) (n + p) ≡ every n (λ i. finite (row_sum x.upper (n + p) i) && le (row_sum x.upper (n + p) i) limit)
  unfolding admitted
  admitted_parts =
      every_more n p (λ i. passes (row_sum (whole n p x) (n + p) i)) (λ i h. ap passes (row_below i h) ∙ either (nat_lt (n + suc i) (n + p)))
      ∙ every_ext n _ _ (λ i h. ap passes (row_above i h))

  -- ---- the norm
  abbrev M : Float
  M = most n (row_sum x.upper (n + p)) zero+

  row_sign : (i : ℕ) → sgn (row_sum x.upper (n + p) i) ≡ false
  unfolding row_sum
  row_sign i = sum_sign (n + p) _ (λ j. abs_sign (at x.upper (n + p) i j))

  M_number : is_nan M ≡ false
  M_number = most-number n (row_sum x.upper (n + p)) zero+ zero_number

  M_sign : sgn M ≡ false
  M_sign = most_sign (row_sum x.upper (n + p)) zero+ row_sign zero_sign zero_number n

  -- the rows below, from the largest above on
  below : (q : ℕ) → 0 < q → most q (λ i. bit (nat_lt (n + suc i) (n + q))) M ≡ larger M (bit (nat_lt 1 q))
  unfolding most
  below zero h = absurd (not-suc-le-zero h)
  below (suc zero) h = let l : n + 1 ≤ n + 1 = omega arith in rw (le-ltb (n + 1) (n + 1) l)
  below (suc (suc q)) h =
      let l : n + 1 < n + suc (suc q) = omega arith in
      let o : 1 < suc (suc q) = omega arith in
      ap (λ m. most m f M) (two q) ∙ most_split 1 (suc q) f M ∙ ap (λ z. most (suc q) (λ k. f (1 + k)) (larger M (bit z))) (lt-ltb (n + 1) (n + suc (suc q)) l)
      ∙ most_stays (suc q) (λ k. f (1 + k)) L (larger-number M one M_number) (λ k j. small (nat_lt (n + suc (1 + k)) (n + suc (suc q))))
      ∙ ap (λ z. larger M (bit z)) (sym (lt-ltb 1 (suc (suc q)) o))
    where
      f : ℕ → Float
      f i = bit (nat_lt (n + suc i) (n + suc (suc q)))

      L : Float
      L = larger M one

      two : (q : ℕ) → suc (suc q) ≡ 1 + suc q
      two q = omega arith

      small : (b : Bool) → lt L (bit b) ≡ false
      small true = member (λ _. one) M (λ _. one_sign) M_sign M_number 1 0 (omega arith)
      small false = not_zero L (most_sign (λ _. one) M (λ _. one_sign) M_sign M_number 1)

  pub norm_parts : 0 < p → norm (whole n p x) (n + p) ≡ larger (most n (row_sum x.upper (n + p)) zero+) (cond (nat_lt 1 p) one zero+)
  unfolding norm
  norm_parts h =
      most_split n p (row_sum (whole n p x) (n + p)) zero+
      ∙ ap (λ z. most p (λ i. row_sum (whole n p x) (n + p) (n + i)) z) (most_ext n _ _ zero+ row_above)
      ∙ most_ext p _ _ M row_below
      ∙ below p h
