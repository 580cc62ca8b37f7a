-- Read off the definitions of the calls: which number a call gives, and what a refusal leaves. Definitions only.
use Rattle.std.specs.Prelude.{ℕ, ◌≡◌, ◌⊎◌, Bool, true, false, List, [], ◌∷◌, ◌++◌, Float, length, Some, None}
use Rattle.float.specs.Arith.{◌⊕◌, finite}
use Rattle.matrix.specs.Matrix.{admitted}
use Rattle.matrix.specs.Vector.{vec}
use Rattle.loops.specs.Loop.{◌!◌}
use Rattle.methods.specs.Phi.{phi_action}
use Rattle.methods.specs.Step.{Progress, refused, asking, ended}
use Rattle.session.specs.declared.Session.{Session}
use Rattle.session.specs.declared.Told.{Told}
use Rattle.session.specs.declared.Wish.{Wish}
use Rattle.session.specs.declared.Refusal.TheVariants as Why
use Rattle.session.specs.Tests.{Tests, refusal_number}
use Rattle.session.specs.Values.{number}
use Rattle.session.specs.Session.{Run, session_tests, progress}
use Rattle.session.specs.Calls.{Outcome, opened, nothing, begun, answered, begin_tests, supply_tests, accept_tests, first_step_tests, open_call, begin_call, supply_call, accept_call}
use Rattle.session.specs.Calls.{drop_call, first_step_call}
use Rattle.session.specs.Bare.{Bare, exponential_tests, phi_tests, norm_tests, exponential_call, phi_call, norm_call}

-- ---- which number

-- k is the number of the first test that fails, and 0 where all hold
unfoldable pub First : Tests → ℕ → Type 0
First [] k = k ≡ 0
First ((holds, refusal) ∷ tests) k = ((holds ≡ false) × (k ≡ refusal_number refusal)) ⊎ ((holds ≡ true) × First tests k)

-- 6 comes last: the step's arithmetic was admitted as far as it went
unfoldable pub works : Progress → Bool
works refused = false
works (asking x time) = true
works (ended x e g work) = true

-- the number that each call gives, for every session and whatever is handed in
pub record Numbers : Type 0 where
  pub opens : (r : Run) → First (session_tests None (opened r)) (number (open_call r).answer)
  pub begin : (s : Session) (step : Float) (wish : Wish) (jacobian out : List Float)
      → First (begin_tests s step (Some wish) jacobian (length out) ++ ((works (progress (begun s step (Some wish) jacobian)), Why.Arithmetic) ∷ []))
      (number (begin_call s step wish jacobian out).told.answer)
  pub supply : (s : Session) (place : ℕ) (answer out : List Float)
      → First (supply_tests s place answer (length out) ++ ((works (progress (answered s answer)), Why.Arithmetic) ∷ [])) (number (supply_call s place answer out).told.answer)
  pub accept : (s : Session) (derivative : List Float)
      → First (accept_tests s derivative ++ ((works (progress s), Why.Arithmetic) ∷ (finite (s.time ⊕ s.step), Why.Arithmetic) ∷ [])) (number (accept_call s derivative).answer)
  pub drop : (s : Session) → First (session_tests None s) (number (drop_call s).answer)
  pub first_step : (s : Session) (largest : Float) → First (first_step_tests s largest) (number (first_step_call s largest).answer)
  pub exponential : (size : ℕ) (m out : List Float)
      → First (exponential_tests size m (length out) ++ ((admitted m size, Why.Arithmetic) ∷ [])) (number (exponential_call size m out).answer)
  pub phi_action : (n order : ℕ) (scaleA : Float) (a input out : List Float)
      → First (phi_tests n order scaleA a input (length out) ++ (((phi_action n a scaleA order (vec n (λ i. input ! i))).tally.ok, Why.Arithmetic) ∷ []))
      (number (phi_call n order scaleA a input out).answer)
  pub error_norm : (n : ℕ) (relative : Float) (absolute error state candidate : List Float)
      → First (norm_tests n relative absolute error state candidate) (number (norm_call n relative absolute error state candidate))

-- ---- what a refusal leaves: the session bit for bit as it came, and the lent output unwritten

unfoldable pub Kept : Session → Told → Type 0
Kept s r = (number r.answer ≡ 0 → ⊥) → r.session ≡ s

unfoldable pub Unchanged : Session → List Float → Outcome → Type 0
Unchanged s out r = (number r.told.answer ≡ 0 → ⊥) → (r.told.session ≡ s) × (r.out ≡ out)

unfoldable pub Unwritten : List Float → Bare → Type 0
Unwritten out r = (number r.answer ≡ 0 → ⊥) → r.out ≡ out

pub record Refusals : Type 0 where
  -- a refused open has no session to give back
  pub opens : (r : Run) → Kept nothing (open_call r)
  pub begin : (s : Session) (step : Float) (wish : Wish) (jacobian out : List Float) → Unchanged s out (begin_call s step wish jacobian out)
  pub supply : (s : Session) (place : ℕ) (answer out : List Float) → Unchanged s out (supply_call s place answer out)
  pub accept : (s : Session) (derivative : List Float) → Kept s (accept_call s derivative)
  pub drop : (s : Session) → Kept s (drop_call s)
  pub first_step : (s : Session) (largest : Float) → Kept s (first_step_call s largest)
  pub exponential : (size : ℕ) (m out : List Float) → Unwritten out (exponential_call size m out)
  pub phi_action : (n order : ℕ) (scaleA : Float) (a input out : List Float) → Unwritten out (phi_call n order scaleA a input out)
