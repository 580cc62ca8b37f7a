-- The passes of Schemes from each question on, as the code takes them up: scheme·2 asks about u2, and so on. Definitions only.
use Rattle.std.specs.Prelude.{Bool, cond, List, [], ◌∷◌, Float, ℕ}
use Rattle.float.specs.Arith.{◌⊕◌, ◌⊗◌, ◌⊘◌, powi2, powi3, powi4}
use Rattle.methods.specs.declared.Point.{Point}
use Rattle.methods.specs.Numbers.{num, minus}
use Rattle.methods.specs.Vectors.{add, scale, axpy, combine}
use Rattle.methods.specs.Phi.{over, phi_term}
use Rattle.methods.specs.Pass.{Pass, now, try, remainder, ◌>>=◌}
use Rattle.methods.specs.Schemes.{candidate, powi, epirk5p_end}

-- ---- exp4
unfoldable pub exp4_7 : Point → List Float → List Float → List Float → List Float → List Float → List Float → Pass
exp4_7 p a k12 k20 k21 k22 u7 =
    let n = p.n in
    let h = p.step in do
      d7 ← remainder n a u7 p.state p.f0 (p.time ⊕ h)
      k7 ← try (phi_term n a (h ⊘ num 3) 1 (num 1) d7)
      increment ← now (axpy n k12 (num 1) k20)
      increment ← now (axpy n increment (minus 4 ⊘ num 3) k21)
      increment ← now (axpy n increment (num 1) k22)
      increment ← now (axpy n increment (num 1 ⊘ num 6) k7)
      candidate (add n p.state (scale n increment h))

unfoldable pub exp4_4 : Point → List Float → List Float → List Float → List Float → List Float → Pass
exp4_4 p a k10 k11 k12 u4 =
    let n = p.n in
    let h = p.step in do
      d4 ← remainder n a u4 p.state p.f0 (p.time ⊕ h)
      k20 ← try (phi_term n a (h ⊘ num 3) 1 (num 1) d4)
      k21 ← try (phi_term n a (num 2 ⊗ h ⊘ num 3) 1 (num 1) d4)
      k22 ← try (phi_term n a h 1 (num 1) d4)
      w7 ← now (combine n ((num 59 ⊘ num 300, k10) ∷ (minus 7 ⊘ num 75, k11) ∷ (num 269 ⊘ num 300, k12) ∷ []))
      w7 ← now (axpy n w7 (num 2 ⊘ num 3) k20)
      w7 ← now (axpy n w7 (num 2 ⊘ num 3) k21)
      w7 ← now (axpy n w7 (num 2 ⊘ num 3) k22)
      u7 ← now (add n p.state (scale n w7 h))
      exp4_7 p a k12 k20 k21 k22 u7

-- ---- epirk4s3
unfoldable pub epirk4s3_3 : Point → List Float → List Float → List Float → Float → Float → Float → Float → Float → Pass
epirk4s3_3 p a r2 u3 c3 r2c r3c q2c q3c =
    let n = p.n in
    let h = p.step in do
      r3 ← remainder n a u3 p.state p.f0 (p.time ⊕ c3 ⊗ h)
      b4 ← now (combine n ((r2c ⊘ powi2 h, r2) ∷ (r3c ⊘ powi2 h, r3) ∷ []))
      b5 ← now (combine n ((q2c ⊘ powi3 h, r2) ∷ (q3c ⊘ powi3 h, r3) ∷ []))
      increment ← try (phi_term n a h 1 h p.f0)
      increment ← try (over (axpy n increment (num 1)) (phi_term n a h 3 (powi3 h) b4))
      increment ← try (over (axpy n increment (num 1)) (phi_term n a h 4 (powi4 h) b5))
      candidate (add n p.state increment)

unfoldable pub epirk4s3_2 : Point → List Float → List Float → List Float → Float → Float → Float → Float → Float → Float → Pass
epirk4s3_2 p a u2 u3 c2 c3 r2c r3c q2c q3c = do
  r2 ← remainder p.n a u2 p.state p.f0 (p.time ⊕ c2 ⊗ p.step)
  epirk4s3_3 p a r2 u3 c3 r2c r3c q2c q3c

-- ---- epirk5s3
unfoldable pub epirk5s3_3 : Point → List Float → List Float → List Float → Pass
epirk5s3_3 p a r2 u3 =
    let n = p.n in
    let h = p.step in
    let c3 = num 4 ⊘ num 9 in do
      r3 ← remainder n a u3 p.state p.f0 (p.time ⊕ c3 ⊗ h)
      b4 ← now (combine n ((minus 166375 ⊘ (num 61056 ⊗ h ⊗ h), r2) ∷ (num 2187 ⊘ (num 106 ⊗ h ⊗ h), r3) ∷ []))
      b5 ← now (combine n ((num 499125 ⊘ (num 27136 ⊗ powi3 h), r2) ∷ (minus 2187 ⊘ (num 106 ⊗ powi3 h), r3) ∷ []))
      increment ← try (phi_term n a h 1 h p.f0)
      increment ← try (over (axpy n increment (num 1)) (phi_term n a h 3 (powi3 h) b4))
      increment ← try (over (axpy n increment (num 1)) (phi_term n a h 4 (powi4 h) b5))
      candidate (add n p.state increment)

unfoldable pub epirk5s3_2 : Point → List Float → List Float → Pass
epirk5s3_2 p a u2 =
    let n = p.n in
    let h = p.step in
    let f0 = p.f0 in
    let c2 = num 48 ⊘ num 55 in
    let c3 = num 4 ⊘ num 9 in do
      r2 ← remainder n a u2 p.state f0 (p.time ⊕ c2 ⊗ h)
      k3 ← try (phi_term n a (c3 ⊗ h) 1 ((num 53 ⊘ num 5) ⊗ (c3 ⊗ h)) f0)
      k3 ← try (over (axpy n k3 (num 1)) (phi_term n a (c3 ⊗ h) 2 ((minus 648 ⊘ (num 5 ⊗ h)) ⊗ powi2 (c3 ⊗ h)) f0))
      b3 ← now (combine n ((num 2916 ⊘ (num 5 ⊗ h ⊗ h), f0) ∷ (num 32065 ⊘ (num 1152 ⊗ h ⊗ h), r2) ∷ []))
      k3 ← try (over (axpy n k3 (num 1)) (phi_term n a (c3 ⊗ h) 3 (powi3 (c3 ⊗ h)) b3))
      u3 ← now (add n p.state k3)
      epirk5s3_3 p a r2 u3

-- ---- epirk5p
unfoldable pub epirk5p_2 : Point → List Float → List Float → List Float → List Float → List Float
    → Float → Float → Float → Float → Float → Float → Bool → Pass
epirk5p_2 p a k31 r1 k2 u2 g21 g33 b2 b31 b32 b33 variant2 =
    let n = p.n in
    let h = p.step in do
      r2 ← remainder n a u2 p.state p.f0 (p.time ⊕ g21 ⊗ h)
      dr ← now (axpy n r2 (minus 2) r1)
      output ← now (add n p.state k31)
      output ← now (axpy n output (b2 ⊘ cond variant2 h (num 1)) k2)
      epirk5p_end n a h g33 b31 b32 b33 variant2 dr output

unfoldable pub epirk5p_1 : Point → List Float → List Float → List Float → List Float
    → Float → Float → Float → Float → Float → Float → Float → Float → Float → ℕ → Bool → Pass
epirk5p_1 p a k21 k31 u1 g11 g21 g32 g33 a22 b2 b31 b32 b33 secondOrder variant2 =
    let n = p.n in
    let h = p.step in do
      r1 ← remainder n a u1 p.state p.f0 (p.time ⊕ g11 ⊗ h)
      k2 ← try (phi_term n a (g32 ⊗ h) secondOrder (powi (g32 ⊗ h) secondOrder) r1)
      u2 ← now (add n p.state k21)
      u2 ← now (axpy n u2 (a22 ⊘ cond variant2 h (num 1)) k2)
      epirk5p_2 p a k31 r1 k2 u2 g21 g33 b2 b31 b32 b33 variant2
