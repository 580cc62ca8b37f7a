-- The passes of Schemes from each question on, as the code takes them up: scheme·2 asks about u2, and so on. Definitions only.
use Rattle.std.specs.Prelude.{List, [], ◌∷◌, Float}
use Rattle.float.specs.Arith.{◌⊕◌, ◌⊗◌, ◌⊘◌, powi3, powi4}
use Rattle.methods.specs.declared.Point.{Point}
use Rattle.methods.specs.Numbers.{num, minus, decimal}
use Rattle.methods.specs.Vectors.{add, scale, axpy, combine}
use Rattle.methods.specs.Tally.{clean}
use Rattle.methods.specs.Phi.{over, phi_action, phi_term}
use Rattle.methods.specs.Pass.{Pass, done, now, try, shifted_stage, remainder, ◌>>=◌}
use Rattle.methods.specs.Schemes.{candidate}

-- ---- exprb32
unfoldable pub exprb32_2 : Point → List Float → List Float → List Float → List Float → Pass
exprb32_2 p a au w1 u2 =
    let n = p.n in
    let h = p.step in do
      f2 ← shifted_stage n a u2 au (p.time ⊕ h)
      w13 ← try (phi_action n a h 3 p.f0)
      w23 ← try (phi_action n a h 3 f2)
      increment ← now (scale n w1 h)
      increment ← now (axpy n increment (minus 2 ⊗ h) w13)
      increment ← now (axpy n increment (num 2 ⊗ h) w23)
      error ← now (scale n w23 (num 2 ⊗ h))
      error ← now (axpy n error (minus 2 ⊗ h) w13)
      done clean (add n p.state increment) error

-- ---- exprb43
unfoldable pub exprb43_3 : Point → List Float → List Float → List Float → List Float → List Float → List Float → List Float → List Float → Pass
exprb43_3 p a au w11 w13 w14 w23 w24 u3 =
    let n = p.n in
    let h = p.step in do
      f3 ← shifted_stage n a u3 au (p.time ⊕ h)
      w33 ← try (phi_action n a h 3 f3)
      w34 ← try (phi_action n a h 4 f3)
      increment ← now (scale n w11 h)
      increment ← now (axpy n increment (minus 14 ⊗ h) w13)
      increment ← now (axpy n increment (num 36 ⊗ h) w14)
      increment ← now (axpy n increment (num 16 ⊗ h) w23)
      increment ← now (axpy n increment (minus 48 ⊗ h) w24)
      increment ← now (axpy n increment (minus 2 ⊗ h) w33)
      increment ← now (axpy n increment (num 12 ⊗ h) w34)
      error ← now (scale n w14 (num 36 ⊗ h))
      error ← now (axpy n error (minus 48 ⊗ h) w24)
      error ← now (axpy n error (num 12 ⊗ h) w34)
      done clean (add n p.state increment) error

unfoldable pub exprb43_2 : Point → List Float → List Float → List Float → List Float → List Float → List Float → Pass
exprb43_2 p a au w11 w13 w14 u2 =
    let n = p.n in
    let h = p.step in do
      f2 ← shifted_stage n a u2 au (p.time ⊕ h ⊘ num 2)
      w21 ← try (phi_action n a h 1 f2)
      w23 ← try (phi_action n a h 3 f2)
      w24 ← try (phi_action n a h 4 f2)
      u3 ← now (add n p.state (scale n w21 h))
      exprb43_3 p a au w11 w13 w14 w23 w24 u3

-- ---- exprb53s3
unfoldable pub exprb53s3_3 : Point → List Float → List Float → List Float → Pass
exprb53s3_3 p a r2 u3 =
    let n = p.n in
    let h = p.step in do
      r3 ← remainder n a u3 p.state p.f0 (p.time ⊕ decimal 9 1 ⊗ h)
      b4 ← now (combine n ((num 18 ⊘ (h ⊗ h), r2) ∷ (minus 250 ⊘ (num 81 ⊗ h ⊗ h), r3) ∷ []))
      b5 ← now (combine n ((minus 60 ⊘ powi3 h, r2) ∷ (num 500 ⊘ (num 27 ⊗ powi3 h), r3) ∷ []))
      increment ← try (phi_term n a h 1 h p.f0)
      increment ← try (over (axpy n increment (num 1)) (phi_term n a h 3 (powi3 h) b4))
      increment ← try (over (axpy n increment (num 1)) (phi_term n a h 4 (powi4 h) b5))
      candidate (add n p.state increment)

unfoldable pub exprb53s3_2 : Point → List Float → List Float → List Float → Pass
exprb53s3_2 p a k3base u2 =
    let n = p.n in
    let h = p.step in
    let c3 = decimal 9 1 in do
      r2 ← remainder n a u2 p.state p.f0 (p.time ⊕ h ⊘ num 2)
      u3 ← now (add n p.state k3base)
      u3 ← try (over (axpy n u3 (num 216 ⊘ (num 25 ⊗ h ⊗ h))) (phi_term n a (h ⊘ num 2) 3 (powi3 (h ⊘ num 2)) r2))
      u3 ← try (over (axpy n u3 (num 8 ⊘ (h ⊗ h))) (phi_term n a (c3 ⊗ h) 3 (powi3 (c3 ⊗ h)) r2))
      exprb53s3_3 p a r2 u3
