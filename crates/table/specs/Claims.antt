-- What follows from the definition of a whole step. Definitions only.
use Rattle.std.specs.Prelude.{ℕ, ◌≡◌, ◌⊎◌, false, List, Float, Ok, Err, Some}
use Rattle.evaluation.specs.Evaluation.{all_finite}
use Rattle.session.specs.declared.Session.{Session}
use Rattle.session.specs.declared.Answer.TheVariants.{Ask, Ready, Resting}
use Rattle.session.specs.declared.Refusal.{Refusal}
use Rattle.session.specs.declared.Refusal.TheVariants as Why
use Rattle.session.specs.declared.Wish.TheVariants.{Difference}
use Rattle.session.specs.Tests.{tested}
use Rattle.session.specs.Refusals.{Kept}
use Rattle.session.specs.Session.{Run, wanted}
use Rattle.session.specs.Calls.{nothing}
use Rattle.table.specs.Table.{derivative}
use Rattle.table.specs.Whole.{opening_tests, open_by_table, whole_tests, started, answers, derivative_there, whole_step}

-- for every run and every table
pub record Openings : Type 0 where
  -- refused: it is the session that a refused open gives
  pub kept : (r : Run) (t : List ℕ) → Kept nothing (open_by_table r t)
  -- what open refuses with a derivative of +0.0, then 8: the first of these that fails gives its refusal
  pub order : (r : Run) (t : List ℕ) (why : Refusal) → tested (opening_tests r t) ≡ Err why → (open_by_table r t).answer ≡ Err why
  -- where they hold it rests, or is refused by 3: the table's derivative is not finite
  pub later : (r : Run) (t : List ℕ) → tested (opening_tests r t) ≡ Ok tt → ((open_by_table r t).answer ≡ Ok Resting)
      ⊎ (((open_by_table r t).answer ≡ Err Why.NotFinite) × (all_finite (derivative r.n t r.time r.state) ≡ false))

-- for every session, every table and every step
pub record WholeSteps : Type 0 where
  -- refused: the session goes back bit for bit as it came
  pub kept : (s : Session) (t : List ℕ) (step : Float) → Kept s (whole_step s t step)
  -- the session's checks, then 8, then the step's 5: the first of these that fails gives its refusal
  pub order : (s : Session) (t : List ℕ) (step : Float) (why : Refusal) → tested (whole_tests s t step) ≡ Err why → (whole_step s t step).answer ≡ Err why
  -- where they hold it rests, or is refused by 3 or 6
  pub later : (s : Session) (t : List ℕ) (step : Float) → tested (whole_tests s t step) ≡ Ok tt → ((whole_step s t step).answer ≡ Ok Resting)
      ⊎ (((whole_step s t step).answer ≡ Err Why.NotFinite) ⊎ ((whole_step s t step).answer ≡ Err Why.Arithmetic))
  -- an overflowing derivative is 3: at the m-th question ..
  pub overflow : (s : Session) (t : List ℕ) (step : Float) → tested (whole_tests s t step) ≡ Ok tt → (m place : ℕ) (time : Float)
      → let o = answers s.n t m (started s step) in o.told.answer ≡ Ok (Ask place time) → all_finite (derivative s.n t time o.out) ≡ false
      → (whole_step s t step).answer ≡ Err Why.NotFinite
  -- .. and at the candidate, whatever the new time is
  pub candidate : (s : Session) (t : List ℕ) (step : Float) → tested (whole_tests s t step) ≡ Ok tt → (norm : Float) (rhs jacobians products : ℕ)
      → let o = answers s.n t (wanted s.scheme s.n (Some Difference)) (started s step) in
      o.told.answer ≡ Ok (Ready norm rhs jacobians products) → all_finite (derivative_there s.n t o) ≡ false → (whole_step s t step).answer ≡ Err Why.NotFinite
  -- after the answers that the attempt wants nothing is asked
  pub answered : (s : Session) (t : List ℕ) (step : Float) → tested (whole_tests s t step) ≡ Ok tt
      → (place : ℕ) (time : Float) → (answers s.n t (wanted s.scheme s.n (Some Difference)) (started s step)).told.answer ≡ Ok (Ask place time) → ⊥
  -- the place of each question is handed on: the m-th of them, from 0, carries m
  pub place : (s : Session) (t : List ℕ) (step : Float) → tested (whole_tests s t step) ≡ Ok tt → (m place : ℕ) (time : Float)
      → (answers s.n t m (started s step)).told.answer ≡ Ok (Ask place time) → place ≡ m
