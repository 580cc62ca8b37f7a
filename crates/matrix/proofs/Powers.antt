-- Powers of two as doubles, and the least one that is enough. Assumes nothing.
use Rattle.std.proofs.Common.{ℕ, zero, suc, ◌+◌, ◌*◌, ◌^◌, ◌<◌, ◌≤◌, ◌≡◌, refl, sym, ap, ◌∙◌, Bool, true, false, not, ◌&&◌, cond, List, pow-suc, add-suc, suc-add, mul_right_comm, add-zero, add-one, below_more, arith, ltb, leb, pos, negsuc, Float, lt-ltb, le-ltb, le-leb}
use Rattle.std.proofs.Math.Decide.{ℕ_discrete, dec_le, dec_lt}
use Rattle.std.specs.Float.Ieee.{nan, inf, fin, binary64, lt, le, eq, is_nan, mul, of_int, round, size, units, odd, span, climb, of_bits, of_fields, up, down}
use lib.Count.{count_trailing_zeros}
use borrow.Author.Tests.{not-true, not-false, lt-leb}
use Rattle.loops.proofs.Bools.{both_true}
use Rattle.loops.specs.Loop.{every, from, tab, ◌!◌}
use Rattle.loops.proofs.Loops.{tab_at}
use Rattle.float.specs.Arith.{◌⊗◌, ◌⊘◌, half, one, two, limit, finite, larger, zero+, most}
use Rattle.float.proofs.Order.{lt_not_le}
use Rattle.float.proofs.Inverse.{by_one, by_inverse}
use Rattle.matrix.specs.Matrix.{enough, least, squarings, power, norm, admitted, row_sum}
use Rattle.matrix.specs.Calls.{inverse_power}

abbrev pub quarter : Float
quarter = of_bits binary64 0x3fd0_0000_0000_0000

abbrev pub eighth : Float
eighth = of_bits binary64 0x3fc0_0000_0000_0000

-- half of 2 ^ s
unfoldable pub half_of : ℕ → Float
half_of zero = fin false 1 (negsuc 0)
half_of (suc k) = power k

-- ---- each is twice the one before it

-- what is the same in two tables
by_table : (n : ℕ) (f g : ℕ → Float) → tab n f ≡ tab n g → (s : ℕ) → s < n → f s ≡ g s
by_table n f g e s h = sym (tab_at n f s h) ∙ ap (λ l. l ! s) e ∙ tab_at n g s h

table : tab 33 (λ s. half_of s ⊗ two) ≡ tab 33 (λ s. half_of (suc s))
unfolding tab from half_of mul round size units odd span climb count_trailing_zeros of_bits of_fields
table = refl

inverse_table : tab 33 (λ s. inverse_power s ⊗ half) ≡ tab 33 (λ s. inverse_power (suc s))
unfolding tab from inverse_power mul round size units odd span climb count_trailing_zeros of_bits of_fields
inverse_table = refl

-- ---- the test of the code is the test of the definition

pub half-zero : of_bits binary64 0x3fe0_0000_0000_0000 ≡ half_of 0
unfolding half_of of_bits of_fields odd count_trailing_zeros
half-zero = refl

not_leb : (a b c d : ℕ) → (a ≤ b → d ≤ c) → (b < a → c < d) → ltb c d ≡ not (leb a b)
not_leb a b c d h k = go (dec_le a b)
  where
    go : Dec (a ≤ b) → ltb c d ≡ not (leb a b)
    go (yes l) = rw (le-leb a b l, le-ltb c d (h l))
    go (no l) = let g : b < a = omega arith in rw (lt-leb a b g, lt-ltb c d (k g))

test : (s : ℕ) (x : Float) → lt (half_of s) x ≡ not (enough x s)
unfolding half_of lt enough
test zero nan = refl
test (suc k) nan = refl
test zero (inf true) = refl
test zero (inf false) = refl
test (suc k) (inf true) = refl
test (suc k) (inf false) = refl
test zero (fin true m e) = refl
test (suc k) (fin true m e) = refl
test zero (fin false m e) = not_leb (2 * (m * up e)) (1 * down e) (1 * down e) (m * up e * 2) (λ h. omega arith) (λ h. omega arith)
test (suc k) (fin false m e) =
    let one : 1 * 2 ^ k ≡ 2 ^ k = omega arith in
    let twice : 2 ^ suc k * down e ≡ 2 ^ k * down e * 2 = rw pow-suc (mul_right_comm (2 ^ k) 2 (down e)) in
    rw one (not_leb (2 * (m * up e)) (2 ^ suc k * down e) (2 ^ k * down e) (m * up e * 1) (λ h. omega arith) (λ h. omega arith))

-- ---- the loop

-- what the turns before s found
abbrev pub Short : Float → ℕ → Type 0
Short x s = (t : ℕ) → t < s → enough x t ≡ false

pub short_step : (x h : Float) (s : ℕ) → h ≡ half_of s → lt h x ≡ true → Short x s → Short x (s + 1)
short_step x h s e l b = below_more _ s b (not-true _ (sym (test s x) ∙ rw e at l))

half-limit : half_of 32 ≡ limit
unfolding half_of of_bits of_fields odd count_trailing_zeros
half-limit = refl

-- a norm that is not above 2 ^ 31 takes at most 32
pub short_room : (x h : Float) (s : ℕ) → le x limit ≡ true → s ≤ 32 → h ≡ half_of s → lt h x ≡ true → s < 32
short_room x h s b k e l = go (dec_lt s 32)
  where
    go : Dec (s < 32) → s < 32
    go (yes q) = q
    go (no n) =
        let t : s ≡ 32 = omega arith in
        absurd (lt_not_le limit x (rw (e, t, half-limit) at l) b)

least_is : (d s r : ℕ) (p : ℕ → Bool) → s ≤ r → r ≤ s + d → ((t : ℕ) → t < r → p t ≡ false) → p r ≡ true → least d s p ≡ r
unfolding least
least_is zero s r p h k b q = omega arith
least_is (suc d) s r p h k b q = go (ℕ_discrete s r) (λ j. least_is d (suc s) r p j (omega arith) b q)
  where
    go : Dec (s ≡ r) → (suc s ≤ r → least d (suc s) p ≡ r) → least (suc d) s p ≡ r
    go (yes e) ih = rw (e, q, least) e
    go (no ne) ih = rw (b s (omega arith), least) (ih (omega arith))

pub squarings_is : (x h : Float) (s : ℕ) → s ≤ 32 → h ≡ half_of s → lt h x ≡ false → Short x s → s ≡ squarings x
unfolding squarings
squarings_is x h s k e l b = sym (least_is 32 0 s (enough x) (omega arith) (omega arith) b (not-false _ (sym (test s x) ∙ rw e at l)))

-- ---- 2 ^ s and 2 ^ -s

pub half_next : (h : Float) (s : ℕ) → s < 32 → h ≡ half_of s → h ⊗ two ≡ half_of (s + 1)
half_next h s l e = rw (e, add-one) (by_table 33 _ _ table s (omega arith))

pub inverse-one : one ≡ inverse_power 0
unfolding inverse_power of_bits of_fields odd count_trailing_zeros
inverse-one = refl

pub inverse_next : (f : Float) (s : ℕ) → s < 32 → f ≡ inverse_power s → f ⊗ half ≡ inverse_power (s + 1)
inverse_next f s l e = rw (e, add-one) (by_table 33 _ _ inverse_table s (omega arith))

-- a power of two divides as its inverse multiplies
pub by_power : (x : Float) (s : ℕ) → x ⊗ inverse_power s ≡ x ⊘ power s
unfolding inverse_power
by_power x zero = sym (by_one x)
by_power x (suc k) = sym (by_inverse x k)

-- f is 2 ^ -s, and k is 2 ^ s
pub record Inverse (f : Float) (k s : ℕ) : Type 0 where
  pub factor : f ≡ inverse_power s
  pub divisor : of_int binary64 (pos k) ≡ power s

pub wholes : Inverse half 2 1 × Inverse quarter 4 2 × Inverse eighth 8 3
unfolding inverse_power of_int round size units odd span climb count_trailing_zeros of_bits of_fields
wholes = (record { factor = refl; divisor = refl }, record { factor = refl; divisor = refl }, record { factor = refl; divisor = refl })

-- so k divides as f multiplies
pub by_whole : {f : Float} {k s : ℕ} → Inverse f k s → (x y : Float) → y ≡ x ⊗ f → y ≡ x ⊘ of_int binary64 (pos k)
by_whole w x y e = rw (w.factor, by_power, ← w.divisor) at e

-- ---- what the definition says: it is the least that is enough, for every number that is not above 2 ^ 31

least_below : (d s t : ℕ) (p : ℕ → Bool) → s ≤ t → t < least d s p → p t ≡ false
unfolding least
least_below zero s t p h k = absurd (omega arith)
least_below (suc d) s t p h k = go (p s) refl (ℕ_discrete s t) (λ l. least_below d (suc s) t p l)
  where
    go : (b : Bool) → p s ≡ b → Dec (s ≡ t) → (suc s ≤ t → t < least d (suc s) p → p t ≡ false) → p t ≡ false
    go true e q ih = let z : t < s = rw (e, least) at k in absurd (omega arith)
    go false e (yes q) ih = rw (← q) e
    go false e (no q) ih = ih (omega arith) (rw (e, least) at k)

least_passes : (d s : ℕ) (p : ℕ → Bool) → p (s + d) ≡ true → p (least d s p) ≡ true
unfolding least
least_passes zero s p h = rw add-zero at h
least_passes (suc d) s p h = go (p s) refl (least_passes d (suc s) p (rw (add-suc, ← suc-add) at h))
  where
    go : (b : Bool) → p s ≡ b → p (least d (suc s) p) ≡ true → p (least (suc d) s p) ≡ true
    go true e ih = rw (e, least) e
    go false e ih = rw (e, least) ih

pub squarings-least : (x : Float) (t : ℕ) → t < squarings x → enough x t ≡ false
unfolding squarings
squarings-least x t h = least_below 32 0 t (enough x) (omega arith) h

pub squarings-enough : (x : Float) → le x limit ≡ true → enough x (squarings x) ≡ true
unfolding squarings
squarings-enough x h = least_passes 32 0 (enough x) (go (enough x 32) refl)
  where
    go : (b : Bool) → enough x 32 ≡ b → enough x 32 ≡ true
    go true e = e
    go false e = absurd (lt_not_le limit x (rw (half-limit, e) at (test 32 x)) h)

least-room : (d s : ℕ) (p : ℕ → Bool) → least d s p ≤ s + d
unfolding least
least-room zero s p = omega arith
least-room (suc d) s p = go (p s) refl (least-room d (suc s) p)
  where
    go : (b : Bool) → p s ≡ b → least d (suc s) p ≤ suc s + d → least (suc d) s p ≤ s + suc d
    go true e ih = rw (e, least) (omega arith)
    go false e ih = rw (e, least) (omega arith)

pub squarings-room : (x : Float) → squarings x ≤ 32
unfolding squarings
squarings-room x = least-room 32 0 (enough x)

-- ---- the norm of a matrix that is admitted

limit-larger : (x y : Float) → le x limit ≡ true → le y limit ≡ true → le (larger x y) limit ≡ true
unfolding larger
limit-larger x y h k = go (is_nan x) (lt x y)
  where
    go : (a b : Bool) → le (cond a y (cond b y x)) limit ≡ true
    go true b = k
    go false true = k
    go false false = h

limit-zero : le zero+ limit ≡ true
unfolding le lt eq of_bits of_fields odd count_trailing_zeros
limit-zero = refl

limit-most : (f : ℕ → Float) (n : ℕ) → every n (λ i. finite (f i) && le (f i) limit) ≡ true → le (most n f zero+) limit ≡ true
unfolding every most
limit-most f zero h = limit-zero
limit-most f (suc k) h =
    let all = both_true (every k (λ i. finite (f i) && le (f i) limit)) (finite (f k) && le (f k) limit) h in
    limit-larger (most k f zero+) (f k) (limit-most f k all.0) (both_true (finite (f k)) (le (f k) limit) all.1).1

pub norm-limit : (m : List Float) (n : ℕ) → admitted m n ≡ true → le (norm m n) limit ≡ true
unfolding admitted norm
norm-limit m n h = limit-most (row_sum m n) n h
