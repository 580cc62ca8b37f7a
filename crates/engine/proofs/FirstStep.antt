-- The first step lies between 2 ^ -52 and the largest step, whatever it is worked out from. Assumes nothing.
use Rattle.std.proofs.Common.{ℕ, suc, ◌*◌, ◌≡◌, refl, subst, Bool, true, false, cond, true≢false, List, arith, eqb, ne_eqb, ℤ, Float}
use Rattle.std.specs.Float.Ieee.{nan, inf, fin, is_nan, lt, eq, le, div, of_bits, of_fields, odd, binary64, round, unlike, up, down}
use Rattle.loops.specs.Loop.{◌!◌}
use Rattle.float.specs.Arith.{◌⊘◌, zero+, epsilon, most}
use Rattle.float.proofs.Plus.{round_number}
use Rattle.float.proofs.Order.{not_lt-le, le_self, le-number, most-number, zero_number, epsilon-number}
use Rattle.engine.specs.Engine.{thousandth, hundredth, rate, estimate, clamp, by_rates, first_step}
use Rattle.engine.specs.Claims.{Between, FirstStepBetween}

-- ---- the estimate is no NaN
-- a number above zero divided by a number
above_div : (m : ℕ) (e : ℤ) (y : Float) → is_nan y ≡ false → is_nan (fin false (suc m) e ⊘ y) ≡ false
unfolding div is_nan
above_div m e nan h = absurd (true≢false h)
above_div m e (inf t) h = refl
above_div m e (fin t n d) h = rw (ne_eqb (suc m) 0 (λ z. omega (arith, z))) (go (eqb n 0))
  where
    go : (b : Bool) → is_nan (cond b (inf (unlike false t)) (round binary64 (unlike false t) (suc m * up e * down d) (n * up d * down e))) ≡ false
    go true = refl
    go false = round_number (unlike false t) (suc m * up e * down d) (n * up d * down e)

-- so neither of its two forms is one
estimate-number : (scale : Float) → is_nan scale ≡ false → is_nan (estimate scale) ≡ false
unfolding estimate
estimate-number scale h = go (eq scale zero+)
  where
    go : (b : Bool) → is_nan (cond b thousandth (hundredth ⊘ scale)) ≡ false
    go true = unfold is_nan of_bits of_fields odd in refl
    go false = unfold of_bits of_fields odd in above_div _ _ scale h

-- ---- a number held between two bounds lies between them
-- the lower bound
raised : (x : Float) → is_nan x ≡ false → (b : Bool) → lt x epsilon ≡ b → (is_nan (cond b epsilon x) ≡ false) × (le epsilon (cond b epsilon x) ≡ true)
raised x h true e = (epsilon-number, le_self epsilon epsilon-number)
raised x h false e = (h, not_lt-le x epsilon h epsilon-number e)

-- the upper bound
lowered : (y largest : Float) → is_nan y ≡ false → le epsilon y ≡ true → le epsilon largest ≡ true → (b : Bool) → lt largest y ≡ b → Between largest (cond b largest y)
lowered y largest h l k true e = let n = le-number epsilon largest k in record { number = n; least = k; most = le_self largest n }
lowered y largest h l k false e = record { number = h; least = l; most = not_lt-le largest y (le-number epsilon largest k) h e }

clamp_between : (x largest : Float) → is_nan x ≡ false → le epsilon largest ≡ true → Between largest (clamp x largest)
unfolding clamp
clamp_between x largest h k =
    let y = cond (lt x epsilon) epsilon x in
    let r = raised x h (lt x epsilon) refl in
    lowered y largest r.0 r.1 k (lt largest y) refl

-- ---- THE CLAIM: the scale starts from +0.0 and passes NaNs over, so it is a number
rates_between : (n : ℕ) (rates : ℕ → Float) (largest : Float) → le epsilon largest ≡ true → Between largest (by_rates n rates largest)
unfolding by_rates
rates_between n rates largest k =
    clamp_between (estimate (most n rates zero+)) largest (estimate-number (most n rates zero+) (most-number n rates zero+ zero_number)) k

pub first_step_between : FirstStepBetween
unfolding first_step
first_step_between n relative absolute state derivative largest k = rates_between n (λ i. rate relative (absolute ! i) state derivative i) largest k

-- for whoever has the step by another name
pub first_step_told : (n : ℕ) (relative : Float) (absolute state derivative : List Float) (largest h : Float)
    → le epsilon largest ≡ true → first_step n relative absolute state derivative largest ≡ h → Between largest h
first_step_told n relative absolute state derivative largest h k e = subst (Between largest) e (first_step_between n relative absolute state derivative largest k)
