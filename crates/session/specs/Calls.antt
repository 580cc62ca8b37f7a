-- The six calls of a session. Each gives the answer, the session returned and, where one is lent, the output: all that a call does. Definitions only.
use Rattle.std.specs.Prelude.{ℕ, ◌+◌, ◌*◌, Bool, true, cond, ◌&&◌, ◌||◌, List, [], ◌∷◌, ◌++◌, eqb, Float, length, replicate, Result, Ok, Err, Option, Some, None}
use Rattle.std.specs.Float.Ieee.{le}
use Rattle.loops.specs.Loop.{tab, stores, ◌!◌}
use Rattle.float.specs.Arith.{◌⊕◌, zero+, epsilon, finite}
use Rattle.evaluation.specs.Evaluation.{all_finite}
use Rattle.evaluation.specs.Sizes.{places}
use Rattle.methods.specs.Sizes.{etd2_number, exprb32_number, exprb43_number}
use Rattle.methods.specs.declared.Work.{Work}
use Rattle.methods.specs.Step.{Progress, refused, asking, ended}
use Rattle.engine.specs.Engine.{error_norm, first_step}
use Rattle.session.specs.declared.Session.{Session}
use Rattle.session.specs.declared.Told.{Told}
use Rattle.session.specs.declared.Answer.{Answer}
use Rattle.session.specs.declared.Answer.TheVariants.{Ask, Ready, Resting, FirstStep}
use Rattle.session.specs.declared.Refusal.{Refusal}
use Rattle.session.specs.declared.Refusal.TheVariants as Why
use Rattle.session.specs.declared.History.TheVariants.{Missing, Held}
use Rattle.session.specs.declared.Wish.{Wish}
use Rattle.session.specs.declared.Phase.TheVariants.{Rest, Asking, Waiting}
use Rattle.session.specs.Tests.{Tests, tested, unless}
use Rattle.session.specs.Session.{Run, joined, run_of, fresh, idle, clear, used_jacobian, wanted_by, open_place, step_ok, session_tests, progress}

-- ---- outcomes

-- what a call tells and returns, and what it leaves in the lent output
pub record Outcome : Type 0 where
  pub told : Told
  pub out : List Float

abbrev pub outcome : Told → List Float → Outcome
outcome told out = record { told = told; out = out }

abbrev pub told : Result Answer Refusal → Session → Told
told answer session = record { answer = answer; session = session }

abbrev pub tell : Answer → Session → Told
tell answer session = told (Ok answer) session

-- refused: the session goes back as it came
abbrev pub refuse : Session → Refusal → Told
refuse s refusal = told (Err refusal) s

-- the same, with the output as it was lent
abbrev pub refuse_lent : Session → List Float → Refusal → Outcome
refuse_lent s out refusal = outcome (refuse s refusal) out

-- ---- sessions

-- a run with no attempt
unfoldable pub opened : Run → Session
opened r = joined r idle

-- what a refused open returns: any call refuses it by 1
unfoldable pub nothing : Session
nothing =
    opened (record {
      scheme = 0;
      n = 0;
      time = zero+;
      state = replicate places zero+;
      derivative = replicate places zero+;
      relative = zero+;
      absolute = replicate places zero+;
      history = Missing;
      previous = replicate places zero+;
    })

-- the run of s with another attempt, which has no answer yet
unfoldable pub begun : Session → Float → Option Wish → List Float → Session
begun s step attempt jacobian = joined (run_of s) (fresh attempt step jacobian)

-- the run of s at rest
unfoldable pub rested : Session → Session
rested s = opened (run_of s)

-- s with one answer more
unfoldable pub answered : Session → List Float → Session
answered s answer =
    joined (run_of s) (record {
      attempt = s.attempt;
      step = s.step;
      jacobian = s.jacobian;
      count = s.count + 1;
      answers = stores (λ i _. answer ! i) (places * s.count) places s.answers;
    })

-- s moved to a time and a state; Etd2 keeps the nonlinear part
unfoldable pub moved : Session → Float → List Float → List Float → List Float → Session
moved s time state derivative nonlinear =
    opened (record {
      scheme = s.scheme;
      n = s.n;
      time = time;
      state = state;
      derivative = derivative;
      relative = s.relative;
      absolute = s.absolute;
      history = cond (eqb s.scheme etd2_number) Held s.history;
      previous = cond (eqb s.scheme etd2_number) nonlinear s.previous;
    })

-- ---- answers

-- Exprb32 and Exprb43 have an error vector
unfoldable pub has_error : ℕ → Bool
has_error scheme = eqb scheme exprb32_number || eqb scheme exprb43_number

-- Ready with the error norm and the counts: right-hand sides, one Jacobian, and the matrix products of the pass
unfoldable pub ready_of : Session → List Float → List Float → Work → Answer
ready_of s candidate error work =
    let norm = cond (has_error s.scheme) (error_norm s.n s.relative s.absolute s.state candidate error) zero+ in
    Ready norm (wanted_by s) 1 work.products

-- what is told of a session with an attempt: the question, with its place, or the candidate fills the output; where it is refused, `old` goes back
unfoldable pub shown : Session → Session → List Float → Progress → Outcome
shown old s out refused = refuse_lent old out Why.Arithmetic
shown old s out (asking x time) = outcome (tell (Ask (open_place s) time) s) (tab s.n (λ i. x ! i))
shown old s out (ended x e g work) = outcome (tell (ready_of s x e work) s) (tab s.n (λ i. x ! i))

-- the candidate becomes the state, if the time then is finite
unfoldable pub arrived : Session → List Float → List Float → List Float → Told
arrived s candidate derivative nonlinear =
    let time = s.time ⊕ s.step in
    cond (finite time) (tell Resting (moved s time candidate derivative nonlinear)) (refuse s Why.Arithmetic)

-- what accept does with an attempt that has come so far; one that still asks is never met (`Counts.accept`, specs/Claims.antt)
unfoldable pub settled : Session → List Float → Progress → Told
settled s derivative refused = refuse s Why.Arithmetic
settled s derivative (asking x time) = refuse s Why.Arithmetic
settled s derivative (ended x e g work) = arrived s x derivative g

-- ---- the tests of a call: those of the session, then those of what is handed in, places, then tolerances, step, numbers

-- a vector of n numbers, with the test of a lent output's length
unfoldable pub vector_tests : ℕ → List Float → Bool → Tests
vector_tests n x lent = (clear n x && lent, Why.Places) ∷ (all_finite x, Why.NotFinite) ∷ []

-- a step, an attempt and its Jacobian, with the lent output's length
unfoldable pub attempt_tests : ℕ → Float → Option Wish → List Float → ℕ → Tests
attempt_tests n step attempt jacobian lent =
    (clear (used_jacobian attempt n) jacobian && eqb lent n, Why.Places) ∷ (step_ok step, Why.Step) ∷ (all_finite jacobian, Why.NotFinite) ∷ []

-- the largest step
unfoldable pub largest_tests : Float → Tests
largest_tests largest = (le epsilon largest, Why.Step) ∷ []

unfoldable pub begin_tests : Session → Float → Option Wish → List Float → ℕ → Tests
begin_tests s step attempt jacobian lent = session_tests (Some Rest) s ++ attempt_tests s.n step attempt jacobian lent

unfoldable pub supply_tests : Session → ℕ → List Float → ℕ → Tests
supply_tests s place answer lent = session_tests (Some (Asking place)) s ++ vector_tests s.n answer (eqb lent s.n)

unfoldable pub accept_tests : Session → List Float → Tests
accept_tests s derivative = session_tests (Some Waiting) s ++ vector_tests s.n derivative true

unfoldable pub first_step_tests : Session → Float → Tests
first_step_tests s largest = session_tests None s ++ largest_tests largest

-- ---- the calls

unfoldable pub open_call : Run → Told
open_call r = unless (tested (session_tests None (opened r))) (refuse nothing) (tell Resting (opened r))

unfoldable pub begin_call : Session → Float → Wish → List Float → List Float → Outcome
begin_call s step wish jacobian out =
    let next = begun s step (Some wish) jacobian in
    unless (tested (begin_tests s step (Some wish) jacobian (length out))) (refuse_lent s out) (shown s next out (progress next))

unfoldable pub supply_call : Session → ℕ → List Float → List Float → Outcome
supply_call s place answer out =
    let next = answered s answer in
    unless (tested (supply_tests s place answer (length out))) (refuse_lent s out) (shown s next out (progress next))

unfoldable pub accept_call : Session → List Float → Told
accept_call s derivative = unless (tested (accept_tests s derivative)) (refuse s) (settled s derivative (progress s))

unfoldable pub drop_call : Session → Told
drop_call s = unless (tested (session_tests None s)) (refuse s) (tell Resting (rested s))

unfoldable pub first_step_call : Session → Float → Told
first_step_call s largest =
    unless (tested (first_step_tests s largest)) (refuse s)
    (tell (FirstStep (first_step s.n s.relative s.absolute s.state s.derivative largest)) s)
