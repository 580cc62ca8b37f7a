-- The passes of Schemes from each question on, as the code takes them up: scheme·2 asks about u2, and so on. Definitions only.
use Rattle.std.specs.Prelude.{ℕ, List, [], ◌∷◌, Float}
use Rattle.float.specs.Arith.{◌⊕◌, ◌⊘◌}
use Rattle.matrix.specs.Vector.{mat_vec}
use Rattle.methods.specs.declared.Point.{Point}
use Rattle.methods.specs.Tally.{Tried}
use Rattle.methods.specs.Numbers.{num, minus, decimal, minus_decimal}
use Rattle.methods.specs.Vectors.{add, subtract, scale, axpy}
use Rattle.methods.specs.Phi.{over, more, combine_all, phi_term}
use Rattle.methods.specs.Pass.{Pass, now, try, evaluate_new, shifted_stage, ◌>>=◌}
use Rattle.methods.specs.Schemes.{candidate, a52, a54}

-- ---- etdrk2
unfoldable pub etdrk2_2 : Point → List Float → List Float → List Float → Pass
etdrk2_2 p a g0 u2 =
    let n = p.n in
    let h = p.step in do
      f2 ← evaluate_new u2 (p.time ⊕ h)
      g2 ← now (subtract n f2 (mat_vec n a u2))
      difference ← now (subtract n g2 g0)
      x ← try (over (add n u2) (phi_term n a h 2 h difference))
      candidate x

-- ---- etdrk3
unfoldable pub etdrk3_3 : Point → List Float → List Float → List Float → List Float → Pass
etdrk3_3 p a au f2 u3 =
    let n = p.n in
    let h = p.step in
    let f1 = p.f0 in do
      f3 ← shifted_stage n a u3 au (p.time ⊕ h)
      increment ← try (phi_term n a h 1 h f1)
      increment ← try (over (axpy n increment (minus 3)) (phi_term n a h 2 h f1))
      increment ← try (over (axpy n increment (num 4)) (phi_term n a h 3 h f1))
      increment ← try (over (axpy n increment (num 4)) (phi_term n a h 2 h f2))
      increment ← try (over (axpy n increment (minus 8)) (phi_term n a h 3 h f2))
      increment ← try (over (axpy n increment (minus 1)) (phi_term n a h 2 h f3))
      increment ← try (over (axpy n increment (num 4)) (phi_term n a h 3 h f3))
      candidate (add n p.state increment)

unfoldable pub etdrk3_2 : Point → List Float → List Float → List Float → Pass
etdrk3_2 p a au u2 =
    let n = p.n in
    let h = p.step in do
      f2 ← shifted_stage n a u2 au (p.time ⊕ h ⊘ num 2)
      stage ← now (scale n f2 (num 2))
      stage ← now (axpy n stage (minus 1) p.f0)
      u3 ← try (over (add n p.state) (phi_term n a h 1 h stage))
      etdrk3_3 p a au f2 u3

-- ---- etdrk4
unfoldable pub etdrk4_4 : Point → List Float → List Float → List Float → List Float → List Float → Pass
etdrk4_4 p a au f2 f3 u4 =
    let n = p.n in
    let h = p.step in
    let f1 = p.f0 in do
      f4 ← shifted_stage n a u4 au (p.time ⊕ h)
      increment ← try (phi_term n a h 1 h f1)
      increment ← try (over (axpy n increment (minus 3)) (phi_term n a h 2 h f1))
      increment ← try (over (axpy n increment (num 4)) (phi_term n a h 3 h f1))
      increment ← try (over (axpy n increment (num 2)) (phi_term n a h 2 h f2))
      increment ← try (over (axpy n increment (minus 4)) (phi_term n a h 3 h f2))
      increment ← try (over (axpy n increment (num 2)) (phi_term n a h 2 h f3))
      increment ← try (over (axpy n increment (minus 4)) (phi_term n a h 3 h f3))
      increment ← try (over (axpy n increment (minus 1)) (phi_term n a h 2 h f4))
      increment ← try (over (axpy n increment (num 4)) (phi_term n a h 3 h f4))
      candidate (add n p.state increment)

unfoldable pub etdrk4_3 : Point → List Float → List Float → List Float → List Float → List Float → Pass
etdrk4_3 p a au u2 f2 u3 =
    let n = p.n in
    let half = p.step ⊘ num 2 in do
      f3 ← shifted_stage n a u3 au (p.time ⊕ half)
      combination ← now (scale n f3 (num 2))
      combination ← now (axpy n combination (minus 1) p.f0)
      combination ← now (axpy n combination (minus 1) au)
      combination ← now (axpy n combination (num 1) (mat_vec n a u2))
      u4 ← try (over (axpy n u2 (num 1)) (phi_term n a half 1 half combination))
      etdrk4_4 p a au f2 f3 u4

unfoldable pub etdrk4_2 : Point → List Float → List Float → List Float → Pass
etdrk4_2 p a au u2 =
    let n = p.n in
    let half = p.step ⊘ num 2 in do
      f2 ← shifted_stage n a u2 au (p.time ⊕ half)
      u3 ← try (over (add n p.state) (phi_term n a half 1 half f2))
      etdrk4_3 p a au u2 f2 u3

-- ---- hoch_ost4
unfoldable pub hoch_ost4_5 : Point → List Float → List Float → List Float → List Float → Pass
hoch_ost4_5 p a au f4 u5 =
    let n = p.n in
    let h = p.step in
    let f1 = p.f0 in
    let p1 = phi_term n a h 1 (num 1) in
    let p2 = phi_term n a h 2 (num 1) in
    let p3 = phi_term n a h 3 (num 1) in do
      f5 ← shifted_stage n a u5 au (p.time ⊕ h ⊘ num 2)
      increment ← try (p1 f1)
      increment ← try (over (axpy n increment (minus 3)) (p2 f1))
      increment ← try (over (axpy n increment (num 4)) (p3 f1))
      increment ← try (over (axpy n increment (minus 1)) (p2 f4))
      increment ← try (over (axpy n increment (num 4)) (p3 f4))
      increment ← try (over (axpy n increment (num 4)) (p2 f5))
      increment ← try (over (axpy n increment (minus 8)) (p3 f5))
      candidate (add n p.state (scale n increment h))

unfoldable pub hoch_ost4_4 : Point → List Float → List Float → List Float → List Float → List Float → Pass
hoch_ost4_4 p a au f2 f3 u4 =
    let n = p.n in
    let h = p.step in
    let f1 = p.f0 in do
      f4 ← shifted_stage n a u4 au (p.time ⊕ h)
      i5 ← try (over (λ k. scale n k (decimal 5 1)) (phi_term n a (h ⊘ num 2) 1 (num 1) f1))
      i5 ← try (over (axpy n i5 (minus 2)) (a52 n a h f1))
      i5 ← try (over (axpy n i5 (minus 1)) (a54 n a h f1))
      sum23 ← now (add n f2 f3)
      i5 ← try (over (axpy n i5 (num 1)) (a52 n a h sum23))
      i5 ← try (over (axpy n i5 (num 1)) (a54 n a h f4))
      u5 ← now (add n p.state (scale n i5 h))
      hoch_ost4_5 p a au f4 u5

unfoldable pub hoch_ost4_3 : Point → List Float → List Float → List Float → List Float → Pass
hoch_ost4_3 p a au f2 u3 =
    let n = p.n in
    let h = p.step in
    let p2 = phi_term n a h 2 (num 1) in do
      f3 ← shifted_stage n a u3 au (p.time ⊕ h ⊘ num 2)
      i4 ← try (phi_term n a h 1 (num 1) p.f0)
      i4 ← try (over (axpy n i4 (minus 2)) (p2 p.f0))
      i4 ← try (over (axpy n i4 (num 1)) (p2 f2))
      i4 ← try (over (axpy n i4 (num 1)) (p2 f3))
      u4 ← now (add n p.state (scale n i4 h))
      hoch_ost4_4 p a au f2 f3 u4

unfoldable pub hoch_ost4_2 : Point → List Float → List Float → List Float → Pass
hoch_ost4_2 p a au u2 =
    let n = p.n in
    let h = p.step in
    let half = h ⊘ num 2 in
    let p2h = phi_term n a half 2 (num 1) in do
      f2 ← shifted_stage n a u2 au (p.time ⊕ half)
      i3 ← try (over (λ k. scale n k (decimal 5 1)) (phi_term n a half 1 (num 1) p.f0))
      i3 ← try (over (axpy n i3 (minus 1)) (p2h p.f0))
      i3 ← try (over (axpy n i3 (num 1)) (p2h f2))
      u3 ← now (add n p.state (scale n i3 h))
      hoch_ost4_3 p a au f2 u3

-- hoch_ost4's i5 as one action, where p1h is p1h f1 and sum23 is f2 + f3
unfoldable pub sum5 : Point → List Float → Tried → List Float → List Float → Tried
sum5 p a p1h sum23 f4 =
    let n = p.n in
    let h = p.step in
    let i5 = over (λ k. scale n k (decimal 5 1)) p1h in
    let i5 = more n i5 (minus 2) (a52 n a h p.f0) in
    let i5 = more n i5 (minus 1) (a54 n a h p.f0) in
    let i5 = more n i5 (num 1) (a52 n a h sum23) in
    more n i5 (num 1) (a54 n a h f4)

-- a52 and a54 of phi terms that are already worked out
unfoldable pub a52_of : ℕ → Tried → Tried → Tried → Tried → Tried
a52_of n p2h p3 p2 p3h = combine_all n ((decimal 5 1, p2h) ∷ (minus 1, p3) ∷ (decimal 25 2, p2) ∷ (minus_decimal 5 1, p3h) ∷ [])

unfoldable pub a54_of : ℕ → Tried → Tried → Tried
a54_of n p2h inner = combine_all n ((decimal 25 2, p2h) ∷ (minus 1, inner) ∷ [])

-- hoch_ost4's phi terms of a vector with the coefficient 1, of the order k: at the whole step and at the half
abbrev pub whole : Point → List Float → ℕ → List Float → Tried
whole p a k = phi_term p.n a p.step k (num 1)

abbrev pub halved : Point → List Float → ℕ → List Float → Tried
halved p a k = phi_term p.n a (p.step ⊘ num 2) k (num 1)
