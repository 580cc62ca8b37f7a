-- Whether some entry is above a bound is whether the largest magnitude is: so the stop test asks it twice, and the first time without a look at the sum. Assumes nothing.
use Rattle.std.proofs.Common.{ℕ, zero, suc, ◌+◌, ◌*◌, ◌^◌, ◌<◌, ◌≡◌, refl, sym, ap, ◌∙◌, subst, Bool, true, false, not, cond, ◌&&◌, ◌||◌, true≢false, T, le_trans, le_of_eq, zero-le, zero-mul, lt→ltb, le-ltb, List, length, Float}
use Rattle.std.proofs.Math.Bool.{false≢true}
use lib.Count.{count_trailing_zeros}
use lib.Ieee.Bits.{is_true}
use lib.Ieee.Exact.{HasValue}
use lib.Ieee.Fits.{down_pos}
use lib.Ieee.Positive.{positive, first_pos, mul_mono, above as positive_or_infinite, above_of_le}
use Rattle.std.specs.Float.Ieee.{nan, inf, fin, binary64, mul, round, size, units, odd, span, climb, up, lt, le, eq, neg, is_nan, of_bits, of_fields}
use Rattle.std.proofs.lemmas.Float.{le_refl, le_trans as le_trans_float, lt_trans, lt_of_lt_of_le, lt_of_le_of_lt}
use Rattle.loops.specs.Loop.{every, ◌!◌}
use Rattle.float.specs.Arith.{◌⊗◌, zero+, one, two, epsilon, abs, larger, most}
use Rattle.float.proofs.Order.{not_lt-le, lt_not_le, le-number, lt-number, most-number, zero_number, epsilon-number}
use Rattle.matrix.specs.Matrix.{max_abs, small}
use Rattle.matrix.specs.Calls.{outside, above}
use Rattle.float.proofs.Mag.{equals_mag}
use Rattle.float.proofs.Plus.{plus}
use Rattle.loops.proofs.Loops.{every_none, every_step, every_end, every_fails, every_ext}
use Rattle.matrix.proofs.RowSums.{mag64, unit64}
use Rattle.matrix.proofs.Stop.{Pos64, Big, most_big, one_big, under_eps}

-- ---- the largest is above a bound where some item is
larger_above : (y a b : Float) → lt y (larger a b) ≡ (lt y a || lt y b)
unfolding larger
larger_above y a b = go (is_nan a) refl (lt a b) refl (lt y a) refl (lt y b) refl
  where
    go : (n : Bool) → is_nan a ≡ n → (l : Bool) → lt a b ≡ l → (p : Bool) → lt y a ≡ p → (q : Bool) → lt y b ≡ q → lt y (cond n b (cond l b a)) ≡ (p || q)
    go true n l d true p q e = absurd (true≢false (sym n ∙ lt-number y a p))
    go true n l d false p q e = e
    go false n true d true p q e = is_true _ (lt_trans y a b (subst T (sym p) tt) (subst T (sym d) tt))
    go false n true d false p q e = e
    go false n false d true p q e = p
    go false n false d false p false e = p
    go false n false d false p true e =
        let k : T (le b a) = subst T (sym (not_lt-le a b n (lt-number y b e) d)) tt in
        absurd (false≢true (sym p ∙ is_true _ (lt_of_lt_of_le y b a (subst T (sym e) tt) k)))

one_more : (a b : Bool) → (not a || b) ≡ not (a && not b)
one_more true true = refl
one_more true false = refl
one_more false b = refl

most_above : (y : Float) (n : ℕ) (f : ℕ → Float) (x : Float) → lt y x ≡ false → lt y (most n f x) ≡ not (every n (λ p. not (lt y (f p))))
unfolding most every
most_above y zero f x h = h
most_above y (suc n) f x h =
    larger_above y (most n f x) (f n) ∙ ap (λ z. z || lt y (f n)) (most_above y n f x h) ∙ one_more (every n (λ p. not (lt y (f p)))) (lt y (f n))

-- a magnitude is above a bound with no minus sign where the number is above it or below its negative
or_none : (b : Bool) → b ≡ (b || false)
or_none true = refl
or_none false = refl

abs_above : (y x : Float) → T (plus y) → lt y (abs x) ≡ outside y x
unfolding lt abs neg plus
abs_above nan x p = absurd p
abs_above (inf true) x p = absurd p
abs_above (inf false) nan p = refl
abs_above (inf false) (inf true) p = refl
abs_above (inf false) (inf false) p = refl
abs_above (inf false) (fin s n d) p = refl
abs_above (fin true m e) x p = absurd p
abs_above (fin false m e) nan p = refl
abs_above (fin false m e) (inf true) p = refl
abs_above (fin false m e) (inf false) p = refl
abs_above (fin false m e) (fin true n d) p = refl
abs_above (fin false m e) (fin false n d) p = or_none _

zero_above : (y : Float) → T (plus y) → lt y zero+ ≡ false
unfolding lt plus of_bits of_fields odd count_trailing_zeros
zero_above nan p = absurd p
zero_above (inf true) p = absurd p
zero_above (inf false) p = refl
zero_above (fin true m e) p = absurd p
zero_above (fin false m e) p = rw zero-mul (le-ltb (m * up e * 1) 0 zero-le)

largest_above : (y : Float) (m : List Float) → T (plus y) → above y m ≡ lt y (max_abs zero+ m)
unfolding above max_abs
largest_above y m p = ap not (every_ext (length m) _ _ (λ k _. ap not (sym (abs_above y (m ! k) p)))) ∙ sym (most_above y (length m) (λ p. abs (m ! p)) zero+ (zero_above y p))

-- ---- one entry after the other
abbrev pub Under : Float → List Float → ℕ → Type 0
Under y m k = every k (λ p. not (outside y (m ! p))) ≡ true

pub none_above : (y : Float) (m : List Float) → Under y m 0
none_above y m = sym (every_none _)

pub one_under : (y : Float) (m : List Float) (k : ℕ) → Under y m k → outside y (m ! k) ≡ false → Under y m (k + 1)
one_under y m k h e = sym (every_step _ _ true _ (sym h) refl) ∙ ap not e

pub above_at : (y : Float) (m : List Float) (k : ℕ) → k < length m → outside y (m ! k) ≡ true → above y m ≡ true
unfolding above
above_at y m k h e = ap not (every_fails _ _ k h (ap not e))

pub above_none : (y : Float) (m : List Float) (k : ℕ) → Under y m k → k ≡ length m → above y m ≡ false
unfolding above
above_none y m k h e = ap not (sym (every_end _ _ _ true (sym h) e))

-- ---- the stop test
le_is : (y z : Float) → is_nan y ≡ false → is_nan z ≡ false → le z y ≡ not (lt y z)
le_is y z p q = go (lt y z) refl (le z y) refl
  where
    go : (a : Bool) → lt y z ≡ a → (b : Bool) → le z y ≡ b → b ≡ not a
    go true d true e = absurd (lt_not_le y z d e)
    go true d false e = refl
    go false d b e = sym e ∙ not_lt-le y z p q d

-- twice epsilon
abbrev pub large : Float
large = of_bits binary64 0x3cc0_0000_0000_0000

large_is : (epsilon ⊗ two ≡ large) × T (positive epsilon) × T (positive two) × T (plus large) × T (plus epsilon)
unfolding plus mul round size units odd span climb count_trailing_zeros of_bits of_fields
large_is = (refl, tt, tt, tt, tt)

-- what the term is compared with
abbrev bound : List Float → Float
bound r = epsilon ⊗ max_abs one r

top_big : (r : List Float) → Big (max_abs one r)
unfolding max_abs
top_big r = most_big one (λ p. r ! p) (length r) one_big

-- it is at least epsilon
eps_mag : mag64 epsilon ≡ 2 ^ 1022
unfolding of_bits of_fields odd count_trailing_zeros
eps_mag = equals_mag binary64 epsilon (2 ^ 1022) refl

eps_pos : Pos64 epsilon
unfolding of_bits of_fields odd count_trailing_zeros
eps_pos = subst (λ (z : ℕ). HasValue epsilon false z unit64) (sym eps_mag) (refl, refl)

eps_bound : (r : List Float) → T (le epsilon (bound r))
eps_bound r = under_eps epsilon (max_abs one r) eps_pos (le_of_eq eps_mag) (top_big r)

plus_if : (x : Float) → T (positive_or_infinite x) → T (plus x)
unfolding plus
plus_if nan h = absurd h
plus_if (inf true) h = absurd h
plus_if (inf false) h = tt
plus_if (fin true m e) h = absurd h
plus_if (fin false m e) h = tt

bound_plus : (r : List Float) → T (plus (bound r))
bound_plus r = plus_if (bound r) (above_of_le epsilon (bound r) large_is.1 (eps_bound r))

bound-number : (r : List Float) → is_nan (bound r) ≡ false
bound-number r = le-number epsilon (bound r) (is_true _ (eps_bound r))

max-number : (m : List Float) → is_nan (max_abs zero+ m) ≡ false
unfolding max_abs
max-number m = most-number (length m) (λ p. abs (m ! p)) zero+ zero_number

pub small_is : (t r : List Float) → small t r ≡ not (above (bound r) t)
unfolding small
small_is t r = le_is (bound r) (max_abs zero+ t) (bound-number r) (max-number t) ∙ ap not (sym (largest_above (bound r) t (bound_plus r)))

-- ---- where no entry of the sum is above 2, what is above twice epsilon is too large
big_positive : (x : Float) → Big x → le x two ≡ true → T (positive x)
unfolding le lt eq of_bits of_fields odd count_trailing_zeros
big_positive nan b h = absurd b
big_positive (inf true) b h = absurd b
big_positive (inf false) b h = absurd (false≢true h)
big_positive (fin true m e) b h = absurd b
big_positive (fin false m e) b h = lt→ltb 0 m (first_pos m (up e) (le_trans (down_pos e) b))

pub far : (t r : List Float) → le (max_abs one r) two ≡ true → above large t ≡ true → small t r ≡ false
far t r h a =
    let k : T (le (bound r) (epsilon ⊗ two)) =
    mul_mono binary64 epsilon epsilon (max_abs one r) two large_is.1 large_is.1 (big_positive _ (top_big r) h) large_is.2 (le_refl epsilon (rw epsilon-number tt)) (subst T (sym h) tt) in
    let l : T (lt large (max_abs zero+ t)) = subst T (sym (sym (largest_above large t large_is.3) ∙ a)) tt in
    let e : above (bound r) t ≡ true = largest_above (bound r) t (bound_plus r) ∙ is_true _ (lt_of_le_of_lt (bound r) large (max_abs zero+ t) (rw large_is.0 at k) l) in
    small_is t r ∙ ap not e

-- and where none is above epsilon, it is small whatever the sum holds
pub tiny : (t r : List Float) → above epsilon t ≡ false → small t r ≡ true
unfolding small
tiny t r a =
    let h : lt epsilon (max_abs zero+ t) ≡ false = sym (largest_above epsilon t large_is.4) ∙ a in
    is_true _ (le_trans_float (max_abs zero+ t) epsilon (bound r) (subst T (sym (le_is epsilon (max_abs zero+ t) epsilon-number (max-number t) ∙ ap not h)) tt) (eps_bound r))

-- otherwise the sum's largest decides
pub exact : (t r : List Float) (x : Float) (b : Bool) → x ≡ max_abs one r → b ≡ above (epsilon ⊗ x) t → not b ≡ small t r
exact t r x b h k = ap not (rw h at k) ∙ sym (small_is t r)
