-- The bare exponential, phi action and error norm: they hold no session. Definitions only.
use Rattle.std.specs.Prelude.{ℕ, ◌*◌, cond, ◌&&◌, List, [], ◌∷◌, leb, eqb, Float, length, Result, Ok, Err}
use Rattle.loops.specs.Loop.{tab, ◌!◌}
use Rattle.float.specs.Arith.{finite}
use Rattle.evaluation.specs.Evaluation.{all_finite}
use Rattle.matrix.specs.Matrix.{admitted, exponential}
use Rattle.matrix.specs.Vector.{vec}
use Rattle.methods.specs.Phi.{phi_action}
use Rattle.engine.specs.Engine.{error_norm}
use Rattle.session.specs.declared.Answer.{Answer}
use Rattle.session.specs.declared.Answer.TheVariants.{Filled, Norm}
use Rattle.session.specs.declared.Refusal.{Refusal}
use Rattle.session.specs.declared.Refusal.TheVariants as Why
use Rattle.session.specs.Tests.{Tests, tested, unless}
use Rattle.session.specs.Session.{largest, size_ok, clear, tolerances_ok}

-- what a bare call tells, and what it leaves in the lent output
pub record Bare : Type 0 where
  pub answer : Result Answer Refusal
  pub out : List Float

abbrev pub bare : Result Answer Refusal → List Float → Bare
bare answer out = record { answer = answer; out = out }

-- refused, with the output as it was lent
abbrev pub refuse_bare : List Float → Refusal → Bare
refuse_bare out refusal = bare (Err refusal) out

-- a matrix of size 1 to 20 and an output of as many places
unfoldable pub exponential_tests : ℕ → List Float → ℕ → Tests
exponential_tests size m lent =
    ((leb 1 size && leb size largest) && (eqb (length m) (size * size) && eqb lent (size * size)), Why.Places) ∷ (all_finite m, Why.NotFinite) ∷ []

-- the exponential, its terms and its squarings
unfoldable pub exponential_call : ℕ → List Float → List Float → Bare
exponential_call size m out =
    unless (tested (exponential_tests size m (length out))) (refuse_bare out)
    (cond (admitted m size) (bare (Ok (Filled (exponential m size).terms (exponential m size).squarings)) (exponential m size).entries) (refuse_bare out Why.Arithmetic))

-- a dimension, an order, a factor, a matrix, an input and an output
unfoldable pub phi_tests : ℕ → ℕ → Float → List Float → List Float → ℕ → Tests
phi_tests n order scaleA a input lent =
    ((size_ok n && leb 1 order && leb order 4) && (eqb (length a) (n * n) && eqb (length input) n && eqb lent n), Why.Places)
    ∷ (finite scaleA && all_finite a && all_finite input, Why.NotFinite)
    ∷ []

-- the phi action, with the terms and squarings of its exponential
unfoldable pub phi_call : ℕ → ℕ → Float → List Float → List Float → List Float → Bare
phi_call n order scaleA a input out =
    let action = phi_action n a scaleA order (vec n (λ i. input ! i)) in
    unless (tested (phi_tests n order scaleA a input (length out))) (refuse_bare out)
    (cond action.tally.ok (bare (Ok (Filled action.tally.terms action.tally.squarings)) (tab n (λ i. action.v ! i))) (refuse_bare out Why.Arithmetic))

-- a dimension, the tolerances, and three vectors
unfoldable pub norm_tests : ℕ → Float → List Float → List Float → List Float → List Float → Tests
norm_tests n relative absolute error state candidate =
    (size_ok n && clear n absolute && clear n error && clear n state && clear n candidate, Why.Places)
    ∷ (tolerances_ok n relative absolute, Why.Tolerance)
    ∷ (all_finite error && all_finite state && all_finite candidate, Why.NotFinite)
    ∷ []

unfoldable pub norm_call : ℕ → Float → List Float → List Float → List Float → List Float → Result Answer Refusal
norm_call n relative absolute error state candidate =
    unless (tested (norm_tests n relative absolute error state candidate)) Err (Ok (Norm (error_norm n relative absolute state candidate error)))
