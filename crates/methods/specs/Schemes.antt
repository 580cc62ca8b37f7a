-- The sixteen schemes of methods.rs in the enum's order, a line for each line of the Rust. `n` is the dimension, `a` the Jacobian,
-- `u` the state, `t` the time, `h` the step, `f0` or `f1` the derivative at u, `au` is a times u, and `g` is f0 - au. Definitions only.
use Rattle.std.specs.Prelude.{ℕ, Bool, true, false, cond, Option, Some, None, List, [], ◌∷◌, ◌==◌, Float}
use Rattle.float.specs.Arith.{◌⊕◌, ◌⊗◌, ◌⊘◌, powi2, powi3, powi4}
use Rattle.matrix.specs.Vector.{zeros, mat_vec}
use Rattle.methods.specs.Tally.{Tried}
use Rattle.methods.specs.Numbers.{num, minus, decimal, minus_decimal}
use Rattle.methods.specs.Vectors.{add, subtract, scale, axpy, combine}
use Rattle.methods.specs.Tally.{clean}
use Rattle.methods.specs.Phi.{over, combine_all, phi_action, phi_term, exp_action}
use Rattle.methods.specs.Pass.{Pass, done, now, try, evaluate_new, shifted_stage, remainder, ◌>>=◌}

-- a candidate of a scheme that has no error vector
abbrev pub candidate : List Float → Pass
candidate x = done clean x zeros

unfoldable pub lawson_euler : ℕ → List Float → List Float → List Float → Float → Pass
lawson_euler n a u g h = do
  shifted ← now (axpy n u h g)
  x ← try (exp_action n a h shifted)
  candidate x

unfoldable pub norsett_euler : ℕ → List Float → List Float → List Float → Float → Pass
norsett_euler n a u f0 h = do
  x ← try (over (add n u) (phi_term n a h 1 h f0))
  candidate x

unfoldable pub etdrk2 : ℕ → List Float → List Float → Float → Float → List Float → List Float → Pass
etdrk2 n a u t h f0 g0 = do
  u2 ← try (over (add n u) (phi_term n a h 1 h f0))
  f2 ← evaluate_new u2 (t ⊕ h)
  g2 ← now (subtract n f2 (mat_vec n a u2))
  difference ← now (subtract n g2 g0)
  x ← try (over (add n u2) (phi_term n a h 2 h difference))
  candidate x

unfoldable pub etdrk3 : ℕ → List Float → List Float → Float → Float → List Float → List Float → Pass
etdrk3 n a u t h f1 au = do
  u2 ← try (over (add n u) (phi_term n a (h ⊘ num 2) 1 (h ⊘ num 2) f1))
  f2 ← shifted_stage n a u2 au (t ⊕ h ⊘ num 2)
  stage ← now (scale n f2 (num 2))
  stage ← now (axpy n stage (minus 1) f1)
  u3 ← try (over (add n u) (phi_term n a h 1 h stage))
  f3 ← shifted_stage n a u3 au (t ⊕ h)
  increment ← try (phi_term n a h 1 h f1)
  increment ← try (over (axpy n increment (minus 3)) (phi_term n a h 2 h f1))
  increment ← try (over (axpy n increment (num 4)) (phi_term n a h 3 h f1))
  increment ← try (over (axpy n increment (num 4)) (phi_term n a h 2 h f2))
  increment ← try (over (axpy n increment (minus 8)) (phi_term n a h 3 h f2))
  increment ← try (over (axpy n increment (minus 1)) (phi_term n a h 2 h f3))
  increment ← try (over (axpy n increment (num 4)) (phi_term n a h 3 h f3))
  candidate (add n u increment)

unfoldable pub etdrk4 : ℕ → List Float → List Float → Float → Float → List Float → List Float → Pass
etdrk4 n a u t h f1 au =
    let half = h ⊘ num 2 in do
      u2 ← try (over (add n u) (phi_term n a half 1 half f1))
      f2 ← shifted_stage n a u2 au (t ⊕ half)
      u3 ← try (over (add n u) (phi_term n a half 1 half f2))
      f3 ← shifted_stage n a u3 au (t ⊕ half)
      combination ← now (scale n f3 (num 2))
      combination ← now (axpy n combination (minus 1) f1)
      combination ← now (axpy n combination (minus 1) au)
      combination ← now (axpy n combination (num 1) (mat_vec n a u2))
      u4 ← try (over (axpy n u2 (num 1)) (phi_term n a half 1 half combination))
      f4 ← shifted_stage n a u4 au (t ⊕ h)
      increment ← try (phi_term n a h 1 h f1)
      increment ← try (over (axpy n increment (minus 3)) (phi_term n a h 2 h f1))
      increment ← try (over (axpy n increment (num 4)) (phi_term n a h 3 h f1))
      increment ← try (over (axpy n increment (num 2)) (phi_term n a h 2 h f2))
      increment ← try (over (axpy n increment (minus 4)) (phi_term n a h 3 h f2))
      increment ← try (over (axpy n increment (num 2)) (phi_term n a h 2 h f3))
      increment ← try (over (axpy n increment (minus 4)) (phi_term n a h 3 h f3))
      increment ← try (over (axpy n increment (minus 1)) (phi_term n a h 2 h f4))
      increment ← try (over (axpy n increment (num 4)) (phi_term n a h 3 h f4))
      candidate (add n u increment)

-- HochOst4's combinations of phi terms
unfoldable pub a52 : ℕ → List Float → Float → List Float → Tried
a52 n a h v =
    let half = h ⊘ num 2 in
    combine_all n (
    (decimal 5 1, phi_term n a half 2 (num 1) v)
    ∷ (minus 1, phi_term n a h 3 (num 1) v)
    ∷ (decimal 25 2, phi_term n a h 2 (num 1) v)
    ∷ (minus_decimal 5 1, phi_term n a half 3 (num 1) v)
    ∷ [])

unfoldable pub a54 : ℕ → List Float → Float → List Float → Tried
a54 n a h v = combine_all n ((decimal 25 2, phi_term n a (h ⊘ num 2) 2 (num 1) v) ∷ (minus 1, a52 n a h v) ∷ [])

unfoldable pub hoch_ost4 : ℕ → List Float → List Float → Float → Float → List Float → List Float → Pass
hoch_ost4 n a u t h f1 au =
    let half = h ⊘ num 2 in
    let p1h = phi_term n a half 1 (num 1) in
    let p2h = phi_term n a half 2 (num 1) in
    let p1 = phi_term n a h 1 (num 1) in
    let p2 = phi_term n a h 2 (num 1) in
    let p3 = phi_term n a h 3 (num 1) in do
      u2 ← try (over (λ k. add n u (scale n k half)) (p1h f1))
      f2 ← shifted_stage n a u2 au (t ⊕ half)
      i3 ← try (over (λ k. scale n k (decimal 5 1)) (p1h f1))
      i3 ← try (over (axpy n i3 (minus 1)) (p2h f1))
      i3 ← try (over (axpy n i3 (num 1)) (p2h f2))
      u3 ← now (add n u (scale n i3 h))
      f3 ← shifted_stage n a u3 au (t ⊕ half)
      i4 ← try (p1 f1)
      i4 ← try (over (axpy n i4 (minus 2)) (p2 f1))
      i4 ← try (over (axpy n i4 (num 1)) (p2 f2))
      i4 ← try (over (axpy n i4 (num 1)) (p2 f3))
      u4 ← now (add n u (scale n i4 h))
      f4 ← shifted_stage n a u4 au (t ⊕ h)
      i5 ← try (over (λ k. scale n k (decimal 5 1)) (p1h f1))
      i5 ← try (over (axpy n i5 (minus 2)) (a52 n a h f1))
      i5 ← try (over (axpy n i5 (minus 1)) (a54 n a h f1))
      sum23 ← now (add n f2 f3)
      i5 ← try (over (axpy n i5 (num 1)) (a52 n a h sum23))
      i5 ← try (over (axpy n i5 (num 1)) (a54 n a h f4))
      u5 ← now (add n u (scale n i5 h))
      f5 ← shifted_stage n a u5 au (t ⊕ half)
      increment ← try (p1 f1)
      increment ← try (over (axpy n increment (minus 3)) (p2 f1))
      increment ← try (over (axpy n increment (num 4)) (p3 f1))
      increment ← try (over (axpy n increment (minus 1)) (p2 f4))
      increment ← try (over (axpy n increment (num 4)) (p3 f4))
      increment ← try (over (axpy n increment (num 4)) (p2 f5))
      increment ← try (over (axpy n increment (minus 8)) (p3 f5))
      candidate (add n u (scale n increment h))

unfoldable pub exp4 : ℕ → List Float → List Float → Float → Float → List Float → Pass
exp4 n a u t h f0 = do
  k10 ← try (phi_term n a (h ⊘ num 3) 1 (num 1) f0)
  k11 ← try (phi_term n a (num 2 ⊗ h ⊘ num 3) 1 (num 1) f0)
  k12 ← try (phi_term n a h 1 (num 1) f0)
  w4 ← now (combine n ((minus 7 ⊘ num 300, k10) ∷ (num 97 ⊘ num 150, k11) ∷ (minus 37 ⊘ num 300, k12) ∷ []))
  u4 ← now (add n u (scale n w4 h))
  d4 ← remainder n a u4 u f0 (t ⊕ h)
  k20 ← try (phi_term n a (h ⊘ num 3) 1 (num 1) d4)
  k21 ← try (phi_term n a (num 2 ⊗ h ⊘ num 3) 1 (num 1) d4)
  k22 ← try (phi_term n a h 1 (num 1) d4)
  w7 ← now (combine n ((num 59 ⊘ num 300, k10) ∷ (minus 7 ⊘ num 75, k11) ∷ (num 269 ⊘ num 300, k12) ∷ []))
  w7 ← now (axpy n w7 (num 2 ⊘ num 3) k20)
  w7 ← now (axpy n w7 (num 2 ⊘ num 3) k21)
  w7 ← now (axpy n w7 (num 2 ⊘ num 3) k22)
  u7 ← now (add n u (scale n w7 h))
  d7 ← remainder n a u7 u f0 (t ⊕ h)
  k7 ← try (phi_term n a (h ⊘ num 3) 1 (num 1) d7)
  increment ← now (axpy n k12 (num 1) k20)
  increment ← now (axpy n increment (minus 4 ⊘ num 3) k21)
  increment ← now (axpy n increment (num 1) k22)
  increment ← now (axpy n increment (num 1 ⊘ num 6) k7)
  candidate (add n u (scale n increment h))

-- what the two variants of epirk4s3 share; k2 and k3 are their first two phi terms
unfoldable pub epirk4s3 : ℕ → List Float → List Float → Float → Float → List Float → Tried → Tried → Float → Float → Float → Float → Float → Float → Pass
epirk4s3 n a u t h f0 k2 k3 c2 c3 r2c r3c q2c q3c = do
  k2 ← try k2
  k3 ← try k3
  u2 ← now (add n u k2)
  u3 ← now (add n u k3)
  r2 ← remainder n a u2 u f0 (t ⊕ c2 ⊗ h)
  r3 ← remainder n a u3 u f0 (t ⊕ c3 ⊗ h)
  b4 ← now (combine n ((r2c ⊘ powi2 h, r2) ∷ (r3c ⊘ powi2 h, r3) ∷ []))
  b5 ← now (combine n ((q2c ⊘ powi3 h, r2) ∷ (q3c ⊘ powi3 h, r3) ∷ []))
  increment ← try (phi_term n a h 1 h f0)
  increment ← try (over (axpy n increment (num 1)) (phi_term n a h 3 (powi3 h) b4))
  increment ← try (over (axpy n increment (num 1)) (phi_term n a h 4 (powi4 h) b5))
  candidate (add n u increment)

unfoldable pub epirk4s3_a : ℕ → List Float → List Float → Float → Float → List Float → Pass
epirk4s3_a n a u t h f0 =
    let c2 = decimal 5 1 in
    let c3 = num 2 ⊘ num 3 in
    let k2 = phi_term n a (c2 ⊗ h) 1 (c2 ⊗ h) f0 in
    let k3 = phi_term n a (c3 ⊗ h) 1 (c3 ⊗ h) f0 in
    epirk4s3 n a u t h f0 k2 k3 c2 c3 (num 32) (minus_decimal 135 1) (minus 144) (num 81)

unfoldable pub epirk4s3_b : ℕ → List Float → List Float → Float → Float → List Float → Pass
epirk4s3_b n a u t h f0 =
    let c2 = decimal 5 1 in
    let c3 = decimal 75 2 in
    let k2 = phi_term n a (c2 ⊗ h) 2 (num 8 ⊗ powi2 (c2 ⊗ h) ⊘ (num 3 ⊗ h)) f0 in
    let k3 = phi_term n a (c3 ⊗ h) 2 (num 16 ⊗ powi2 (c3 ⊗ h) ⊘ (num 9 ⊗ h)) f0 in
    epirk4s3 n a u t h f0 k2 k3 c2 c3 (num 54) (minus 16) (minus 324) (num 144)

unfoldable pub epirk5s3 : ℕ → List Float → List Float → Float → Float → List Float → Pass
epirk5s3 n a u t h f0 =
    let c2 = num 48 ⊘ num 55 in
    let c3 = num 4 ⊘ num 9 in do
      k2 ← try (phi_term n a (c2 ⊗ h) 2 ((num 55 ⊘ (num 8 ⊗ h)) ⊗ powi2 (c2 ⊗ h)) f0)
      k2 ← try (over (axpy n k2 (num 1)) (phi_term n a (c2 ⊗ h) 3 ((minus 3025 ⊘ (num 192 ⊗ h ⊗ h)) ⊗ powi3 (c2 ⊗ h)) f0))
      u2 ← now (add n u k2)
      r2 ← remainder n a u2 u f0 (t ⊕ c2 ⊗ h)
      k3 ← try (phi_term n a (c3 ⊗ h) 1 ((num 53 ⊘ num 5) ⊗ (c3 ⊗ h)) f0)
      k3 ← try (over (axpy n k3 (num 1)) (phi_term n a (c3 ⊗ h) 2 ((minus 648 ⊘ (num 5 ⊗ h)) ⊗ powi2 (c3 ⊗ h)) f0))
      b3 ← now (combine n ((num 2916 ⊘ (num 5 ⊗ h ⊗ h), f0) ∷ (num 32065 ⊘ (num 1152 ⊗ h ⊗ h), r2) ∷ []))
      k3 ← try (over (axpy n k3 (num 1)) (phi_term n a (c3 ⊗ h) 3 (powi3 (c3 ⊗ h)) b3))
      u3 ← now (add n u k3)
      r3 ← remainder n a u3 u f0 (t ⊕ c3 ⊗ h)
      b4 ← now (combine n ((minus 166375 ⊘ (num 61056 ⊗ h ⊗ h), r2) ∷ (num 2187 ⊘ (num 106 ⊗ h ⊗ h), r3) ∷ []))
      b5 ← now (combine n ((num 499125 ⊘ (num 27136 ⊗ powi3 h), r2) ∷ (minus 2187 ⊘ (num 106 ⊗ powi3 h), r3) ∷ []))
      increment ← try (phi_term n a h 1 h f0)
      increment ← try (over (axpy n increment (num 1)) (phi_term n a h 3 (powi3 h) b4))
      increment ← try (over (axpy n increment (num 1)) (phi_term n a h 4 (powi4 h) b5))
      candidate (add n u increment)

unfoldable pub exprb53s3 : ℕ → List Float → List Float → Float → Float → List Float → Pass
exprb53s3 n a u t h f0 =
    let c3 = decimal 9 1 in do
      k2 ← try (phi_term n a (h ⊘ num 2) 1 (h ⊘ num 2) f0)
      k3base ← try (phi_term n a (c3 ⊗ h) 1 (c3 ⊗ h) f0)
      u2 ← now (add n u k2)
      r2 ← remainder n a u2 u f0 (t ⊕ h ⊘ num 2)
      u3 ← now (add n u k3base)
      u3 ← try (over (axpy n u3 (num 216 ⊘ (num 25 ⊗ h ⊗ h))) (phi_term n a (h ⊘ num 2) 3 (powi3 (h ⊘ num 2)) r2))
      u3 ← try (over (axpy n u3 (num 8 ⊘ (h ⊗ h))) (phi_term n a (c3 ⊗ h) 3 (powi3 (c3 ⊗ h)) r2))
      r3 ← remainder n a u3 u f0 (t ⊕ c3 ⊗ h)
      b4 ← now (combine n ((num 18 ⊘ (h ⊗ h), r2) ∷ (minus 250 ⊘ (num 81 ⊗ h ⊗ h), r3) ∷ []))
      b5 ← now (combine n ((minus 60 ⊘ powi3 h, r2) ∷ (num 500 ⊘ (num 27 ⊗ powi3 h), r3) ∷ []))
      increment ← try (phi_term n a h 1 h f0)
      increment ← try (over (axpy n increment (num 1)) (phi_term n a h 3 (powi3 h) b4))
      increment ← try (over (axpy n increment (num 1)) (phi_term n a h 4 (powi4 h) b5))
      candidate (add n u increment)

-- x to the first or to the second
unfoldable pub powi : Float → ℕ → Float
powi x k = cond (k == 2) (powi2 x) x

-- the end of epirk5p
unfoldable pub epirk5p_end : ℕ → List Float → Float → Float → Float → Float → Float → Bool → List Float → List Float → Pass
epirk5p_end n a h g33 b31 b32 b33 true dr output = do
  output ← try (over (axpy n output (b31 ⊗ (g33 ⊗ h))) (phi_action n a (g33 ⊗ h) 1 dr))
  output ← try (over (axpy n output (b32 ⊘ h ⊗ powi2 (g33 ⊗ h))) (phi_action n a (g33 ⊗ h) 2 dr))
  output ← try (over (axpy n output (b33 ⊘ (h ⊗ h) ⊗ powi3 (g33 ⊗ h))) (phi_action n a (g33 ⊗ h) 3 dr))
  candidate output
epirk5p_end n a h g33 b31 b32 b33 false dr output = do
  output ← try (over (axpy n output (b33 ⊘ (h ⊗ h))) (phi_term n a (g33 ⊗ h) 3 (powi3 (g33 ⊗ h)) dr))
  candidate output

-- epirk5p, whose two variants choose the numbers
unfoldable pub epirk5p : ℕ → List Float → List Float → Float → Float → List Float
    → Float → Float → Float → Float → Float → Float → Float → Float → Float → ℕ → Bool → Pass
epirk5p n a u t h f0 g11 g21 g32 g33 a22 b2 b31 b32 b33 secondOrder variant2 = do
  k11 ← try (phi_term n a (g11 ⊗ h) 1 (g11 ⊗ h) f0)
  k21 ← try (phi_term n a (g21 ⊗ h) 1 (g21 ⊗ h) f0)
  k31 ← try (phi_term n a h 1 h f0)
  u1 ← now (add n u k11)
  r1 ← remainder n a u1 u f0 (t ⊕ g11 ⊗ h)
  k2 ← try (phi_term n a (g32 ⊗ h) secondOrder (powi (g32 ⊗ h) secondOrder) r1)
  u2 ← now (add n u k21)
  u2 ← now (axpy n u2 (a22 ⊘ cond variant2 h (num 1)) k2)
  r2 ← remainder n a u2 u f0 (t ⊕ g21 ⊗ h)
  dr ← now (axpy n r2 (minus 2) r1)
  output ← now (add n u k31)
  output ← now (axpy n output (b2 ⊘ cond variant2 h (num 1)) k2)
  epirk5p_end n a h g33 b31 b32 b33 variant2 dr output

unfoldable pub epirk5p1 : ℕ → List Float → List Float → Float → Float → List Float → Pass
epirk5p1 n a u t h f0 =
    let g11 = decimal 3512959269505819 16 in
    let g21 = decimal 8440547201165713 16 in
    let g32 = decimal 7111109536436687 16 in
    let g33 = decimal 6237811195337149 16 in
    let a22 = decimal 2377391534041867 15 in
    let b2 = decimal 17897526753236234 16 in
    let b31 = num 0 in
    let b32 = num 0 in
    let b33 = decimal 9358546505792617 15 in
    epirk5p n a u t h f0 g11 g21 g32 g33 a22 b2 b31 b32 b33 1 false

unfoldable pub epirk5p2 : ℕ → List Float → List Float → Float → Float → List Float → Pass
epirk5p2 n a u t h f0 =
    let g11 = decimal 46629408528088196 17 in
    let g21 = decimal 8821791265336387 16 in
    let g32 = decimal 9207491648814003 16 in
    let g33 = decimal 7979156183266452 16 in
    let a22 = decimal 28062037328933126 16 in
    let b2 = decimal 2528063102562463 15 in
    let b31 = minus_decimal 12848678265700557 17 in
    let b32 = minus_decimal 16102803317280918 17 in
    let b33 = decimal 5267263316169096 15 in
    epirk5p n a u t h f0 g11 g21 g32 g33 a22 b2 b31 b32 b33 2 true

-- with the previous nonlinear part, where there is one
unfoldable pub etd2 : ℕ → List Float → List Float → Float → List Float → Option (List Float) → Pass
etd2 n a u h g (Some previous) = do
  output ← try (exp_action n a h u)
  output ← try (over (axpy n output (num 1)) (phi_term n a h 1 h g))
  output ← try (over (axpy n output (num 1)) (phi_term n a h 2 h g))
  output ← try (over (axpy n output (minus 1)) (phi_term n a h 2 h previous))
  candidate output
etd2 n a u h g None = do
  output ← try (exp_action n a h u)
  output ← try (over (axpy n output (num 1)) (phi_term n a h 1 h g))
  candidate output

unfoldable pub exprb32 : ℕ → List Float → List Float → Float → Float → List Float → Pass
exprb32 n a u t h f1 = do
  w1 ← try (phi_action n a h 1 f1)
  u2 ← now (add n u (scale n w1 h))
  au ← now (mat_vec n a u)
  f2 ← shifted_stage n a u2 au (t ⊕ h)
  w13 ← try (phi_action n a h 3 f1)
  w23 ← try (phi_action n a h 3 f2)
  increment ← now (scale n w1 h)
  increment ← now (axpy n increment (minus 2 ⊗ h) w13)
  increment ← now (axpy n increment (num 2 ⊗ h) w23)
  error ← now (scale n w23 (num 2 ⊗ h))
  error ← now (axpy n error (minus 2 ⊗ h) w13)
  done clean (add n u increment) error

unfoldable pub exprb43 : ℕ → List Float → List Float → Float → Float → List Float → List Float → Pass
exprb43 n a u t h f1 au = do
  w1h ← try (phi_action n a (h ⊘ num 2) 1 f1)
  w11 ← try (phi_action n a h 1 f1)
  w13 ← try (phi_action n a h 3 f1)
  w14 ← try (phi_action n a h 4 f1)
  u2 ← now (add n u (scale n w1h (h ⊘ num 2)))
  f2 ← shifted_stage n a u2 au (t ⊕ h ⊘ num 2)
  w21 ← try (phi_action n a h 1 f2)
  w23 ← try (phi_action n a h 3 f2)
  w24 ← try (phi_action n a h 4 f2)
  u3 ← now (add n u (scale n w21 h))
  f3 ← shifted_stage n a u3 au (t ⊕ h)
  w33 ← try (phi_action n a h 3 f3)
  w34 ← try (phi_action n a h 4 f3)
  increment ← now (scale n w11 h)
  increment ← now (axpy n increment (minus 14 ⊗ h) w13)
  increment ← now (axpy n increment (num 36 ⊗ h) w14)
  increment ← now (axpy n increment (num 16 ⊗ h) w23)
  increment ← now (axpy n increment (minus 48 ⊗ h) w24)
  increment ← now (axpy n increment (minus 2 ⊗ h) w33)
  increment ← now (axpy n increment (num 12 ⊗ h) w34)
  error ← now (scale n w14 (num 36 ⊗ h))
  error ← now (axpy n error (minus 48 ⊗ h) w24)
  error ← now (axpy n error (num 12 ⊗ h) w34)
  done clean (add n u increment) error
