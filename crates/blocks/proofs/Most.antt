-- The largest of numbers that have no minus sign: one that is in it, or is no larger, changes it no more. Assumes nothing.
use Rattle.std.proofs.Common.{ℕ, zero, suc, ◌+◌, ◌*◌, ◌<◌, ◌≡◌, refl, sym, ap, Bool, true, false, cond, true≢false, le_of_lt, le_refl, zero-mul, zero-le, add-zero, add-suc, le-ltb, ltb-true}
use Rattle.std.proofs.Common.{ltb-false, arith, Float}
use Rattle.std.proofs.Math.Bool.{false≢true}
use Rattle.std.proofs.Math.Nat.{not-suc-le-zero}
use Rattle.std.proofs.Math.Decide.{ℕ_discrete}
use lib.Count.{count_trailing_zeros}
use lib.Ieee.Fits.{down_pos}
use lib.Ieee.Positive.{through}
use Rattle.std.specs.Float.Ieee.{nan, inf, fin, up, down, lt, is_nan, of_bits, of_fields, odd}
use Rattle.float.specs.Arith.{zero+, larger, most}
use Rattle.float.proofs.Signed.{sgn}
use Rattle.float.proofs.Floats.{number-first}
use Rattle.float.proofs.Order.{most-number}

-- what a number is not below, no larger number is below
not_below : (m u v : Float) → sgn m ≡ false → sgn u ≡ false → sgn v ≡ false → lt m u ≡ true → lt m v ≡ false → lt u v ≡ false
unfolding lt
not_below nan u v a b c h k = absurd (false≢true h)
not_below (inf true) u v a b c h k = absurd (true≢false a)
not_below (inf false) nan v a b c h k = absurd (false≢true h)
not_below (inf false) (inf t) v a b c h k = absurd (false≢true h)
not_below (inf false) (fin t n d) v a b c h k = absurd (false≢true h)
not_below (fin true m e) u v a b c h k = absurd (true≢false a)
not_below (fin false m e) nan v a b c h k = absurd (false≢true h)
not_below (fin false m e) (inf true) v a b c h k = absurd (true≢false b)
not_below (fin false m e) (inf false) nan a b c h k = refl
not_below (fin false m e) (inf false) (inf t) a b c h k = refl
not_below (fin false m e) (inf false) (fin t o f) a b c h k = refl
not_below (fin false m e) (fin true n d) v a b c h k = absurd (true≢false b)
not_below (fin false m e) (fin false n d) nan a b c h k = refl
not_below (fin false m e) (fin false n d) (inf true) a b c h k = absurd (true≢false c)
not_below (fin false m e) (fin false n d) (inf false) a b c h k = absurd (true≢false k)
not_below (fin false m e) (fin false n d) (fin true o f) a b c h k = absurd (true≢false c)
not_below (fin false m e) (fin false n d) (fin false o f) a b c h k =
    le-ltb (n * up d * down f) (o * up f * down d)
    (through (o * up f) (m * up e) (n * up d) (down f) (down e) (down d) (down_pos e)
    (ltb-false (m * up e * down f) (o * up f * down e) k) (le_of_lt (ltb-true (m * up e * down d) (n * up d * down e) h)))

not_itself : (x : Float) → sgn x ≡ false → lt x x ≡ false
unfolding lt
not_itself nan h = refl
not_itself (inf true) h = refl
not_itself (inf false) h = refl
not_itself (fin true m e) h = absurd (true≢false h)
not_itself (fin false m e) h = le-ltb (m * up e * down e) (m * up e * down e) (le_refl (m * up e * down e))

pub not_zero : (x : Float) → sgn x ≡ false → lt x zero+ ≡ false
unfolding lt of_bits of_fields odd count_trailing_zeros
not_zero nan h = refl
not_zero (inf true) h = absurd (true≢false h)
not_zero (inf false) h = refl
not_zero (fin true m e) h = absurd (true≢false h)
not_zero (fin false m e) h = le-ltb (m * up e * 1) (0 * down e) (rw zero-mul zero-le)

-- ---- the larger of two
larger_either : (P : Float → Type 0) (x y : Float) → P x → P y → P (larger x y)
unfolding larger
larger_either P x y h k = go (is_nan x) (lt x y)
  where
    go : (a b : Bool) → P (cond a y (cond b y x))
    go true b = k
    go false true = k
    go false false = h

pub stays : (x y : Float) → is_nan x ≡ false → lt x y ≡ false → larger x y ≡ x
stays x y h k = sym (number-first x y h k)

larger_not : (x y v : Float) → is_nan x ≡ false → (lt x y ≡ false → lt x v ≡ false) → (lt x y ≡ true → lt y v ≡ false) → lt (larger x y) v ≡ false
unfolding larger
larger_not x y v n h k = rw n (go (lt x y) h k)
  where
    go : (t : Bool) → (t ≡ false → lt x v ≡ false) → (t ≡ true → lt y v ≡ false) → lt (cond t y x) v ≡ false
    go true f g = g refl
    go false f g = f refl

-- ---- the largest
pub most_split : (a b : ℕ) (f : ℕ → Float) (z : Float) → most (a + b) f z ≡ most b (λ k. f (a + k)) (most a f z)
unfolding most
most_split a zero f z = rw add-zero
most_split a (suc b) f z = rw add-suc (ap (λ y. larger y (f (a + b))) (most_split a b f z))

pub most_stays : (b : ℕ) (f : ℕ → Float) (z : Float) → is_nan z ≡ false → ((k : ℕ) → k < b → lt z (f k) ≡ false) → most b f z ≡ z
unfolding most
most_stays zero f z n h = refl
most_stays (suc b) f z n h = rw (most_stays b f z n (λ k l. h k (omega arith)), stays z (f b) n (h b (omega arith)))

module _ (f : ℕ → Float) (z : Float) (F : (k : ℕ) → sgn (f k) ≡ false) (Z : sgn z ≡ false) (N : is_nan z ≡ false) where
  pub most_sign : (n : ℕ) → sgn (most n f z) ≡ false
  unfolding most
  most_sign zero = Z
  most_sign (suc n) = larger_either (λ x. sgn x ≡ false) (most n f z) (f n) (most_sign n) (F n)

  -- each of the items is no larger
  pub member : (n k : ℕ) → k < n → lt (most n f z) (f k) ≡ false
  unfolding most
  member zero k l = absurd (not-suc-le-zero l)
  member (suc n) k l = go (ℕ_discrete k n) (λ m. member n k m)
    where
      M : Float
      M = most n f z

      go : Dec (k ≡ n) → (k < n → lt M (f k) ≡ false) → lt (larger M (f n)) (f k) ≡ false
      go (yes e) ih = rw e (larger_not M (f n) (f n) (most-number n f z N) (λ h. h) (λ h. not_itself (f n) (F n)))
      go (no e) ih = larger_not M (f n) (f k) (most-number n f z N) (λ h. ih (omega arith)) (λ h. not_below M (f n) (f k) (most_sign n) (F n) (F k) h (ih (omega arith)))
