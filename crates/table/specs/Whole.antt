-- A run by a table: its opening, and a whole step, which is begin, an answer for each question, and accept. Definitions only.
use Rattle.std.specs.Prelude.{ℕ, cond, List, [], ◌∷◌, ◌++◌, Float, replicate, Result, Ok, Err, Some, None}
use Rattle.loops.specs.Loop.{iter}
use Rattle.float.specs.Arith.{◌⊕◌, zero+}
use Rattle.evaluation.specs.Sizes.{places}
use Rattle.session.specs.declared.Session.{Session}
use Rattle.session.specs.declared.Told.{Told}
use Rattle.session.specs.declared.Answer.{Answer}
use Rattle.session.specs.declared.Answer.TheVariants.{Ask, Ready, Resting, FirstStep, Filled, Norm}
use Rattle.session.specs.declared.Refusal.{Refusal}
use Rattle.session.specs.declared.Refusal.TheVariants as Why
use Rattle.session.specs.declared.Wish.TheVariants.{Difference}
use Rattle.session.specs.declared.Phase.TheVariants.{Rest}
use Rattle.session.specs.Tests.{Tests, tested, unless}
use Rattle.session.specs.Values.{is_refused}
use Rattle.session.specs.Session.{Run, jacobian_room, wanted, step_ok, session_tests}
use Rattle.session.specs.Calls.{Outcome, told, refuse, opened, nothing, open_call, begin_call, supply_call, accept_call}
use Rattle.table.specs.Table.{table_ok, derivative}

-- ---- an opening

-- the run with another derivative
abbrev pub with_derivative : Run → List Float → Run
with_derivative r d = record {
  scheme = r.scheme;
  n = r.n;
  time = r.time;
  state = r.state;
  derivative = d;
  relative = r.relative;
  absolute = r.absolute;
  history = r.history;
  previous = r.previous;
}

-- what open refuses with a derivative of +0.0, then 8
unfoldable pub opening_tests : Run → List ℕ → Tests
opening_tests r t = session_tests None (opened (with_derivative r (replicate places zero+))) ++ ((table_ok r.n t, Why.Table) ∷ [])

-- then the run opens with the table's derivative, refused by 3 where that is not finite
unfoldable pub open_by_table : Run → List ℕ → Told
open_by_table r t = unless (tested (opening_tests r t)) (refuse nothing) (open_call (with_derivative r (derivative r.n t r.time r.state)))

-- ---- a whole step

-- what is handed in: 8, then the step's 5
unfoldable pub handed_tests : ℕ → List ℕ → Float → Tests
handed_tests n t step = (table_ok n t, Why.Table) ∷ (step_ok step, Why.Step) ∷ []

-- the session's checks, at rest, then those
unfoldable pub whole_tests : Session → List ℕ → Float → Tests
whole_tests s t step = session_tests (Some Rest) s ++ handed_tests s.n t step

-- the attempt begins, its Jacobian differenced
unfoldable pub started : Session → Float → Outcome
started s step = begin_call s step Difference (replicate jacobian_room zero+) (replicate s.n zero+)

-- the answer to an Ask, at its place: the table's derivative at the state and the time asked about. Nothing else is answered
unfoldable pub answer_to : Result Answer Refusal → ℕ → List ℕ → Outcome → Outcome
answer_to (Ok (Ask place time)) n t o = supply_call o.told.session place (derivative n t time o.out) o.out
answer_to (Ok (Ready norm rhs jacobians products)) n t o = o
answer_to (Ok Resting) n t o = o
answer_to (Ok (FirstStep step)) n t o = o
answer_to (Ok (Filled terms squarings)) n t o = o
answer_to (Ok (Norm norm)) n t o = o
answer_to (Err refusal) n t o = o

unfoldable pub replied : ℕ → List ℕ → Outcome → Outcome
replied n t o = answer_to o.told.answer n t o

-- so many answers, one after the other
unfoldable pub answers : ℕ → List ℕ → ℕ → Outcome → Outcome
answers n t m o = iter m (λ _ o. replied n t o) o

-- the derivative at the candidate
unfoldable pub derivative_there : ℕ → List ℕ → Outcome → List Float
derivative_there n t o = derivative n t (o.told.session.time ⊕ o.told.session.step) o.out

-- a candidate is accepted, whatever its norm; a refusal stays one
unfoldable pub accept_after : Result Answer Refusal → ℕ → List ℕ → Outcome → Told
accept_after (Ok (Ask place time)) n t o = o.told
accept_after (Ok (Ready norm rhs jacobians products)) n t o = accept_call o.told.session (derivative_there n t o)
accept_after (Ok Resting) n t o = o.told
accept_after (Ok (FirstStep step)) n t o = o.told
accept_after (Ok (Filled terms squarings)) n t o = o.told
accept_after (Ok (Norm norm)) n t o = o.told
accept_after (Err refusal) n t o = o.told

unfoldable pub accepted : ℕ → List ℕ → Outcome → Told
accepted n t o = accept_after o.told.answer n t o

-- begin, an answer for each right-hand side that the attempt wants, accept
unfoldable pub stepped : Session → List ℕ → Float → Told
stepped s t step = accepted s.n t (answers s.n t (wanted s.scheme s.n (Some Difference)) (started s step))

-- what is refused on the way returns the session as it came to the whole step
unfoldable pub keeping : Session → Told → Told
keeping s r = cond (is_refused r.answer) (told r.answer s) r

unfoldable pub whole_step : Session → List ℕ → Float → Told
whole_step s t step = unless (tested (whole_tests s t step)) (refuse s) (keeping s (stepped s t step))
