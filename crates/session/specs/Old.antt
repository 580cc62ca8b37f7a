-- A session of the older layout, with one absolute tolerance, and how it is brought over. Definitions only.
use Rattle.std.specs.Prelude.{ℕ, ◌+◌, ◌≤◌, ◌<◌, ◌≡◌, Bool, true, false, cond, ◌&&◌, List, [], ◌∷◌, ltb, Float, take, Result, Ok, Err, Option}
use Rattle.loops.specs.Loop.{tab, ◌!◌}
use Rattle.float.specs.Arith.{zero+}
use Rattle.evaluation.specs.Evaluation.{all_finite}
use Rattle.evaluation.specs.Sizes.{places, answer_room}
use Rattle.engine.specs.Engine.{scaled_error_norm, estimate_initial_step}
use Rattle.engine.specs.Claims.{Equal}
use Rattle.session.specs.declared.Phase.{Phase}
use Rattle.session.specs.declared.Session.{Session}
use Rattle.session.specs.declared.OldSession.{OldSession}
use Rattle.session.specs.declared.Head.{Head}
use Rattle.session.specs.declared.Answer.{Answer}
use Rattle.methods.specs.declared.Work.{Work}
use Rattle.session.specs.declared.Answer.TheVariants.{Ready, FirstStep, Norm}
use Rattle.session.specs.declared.Refusal.{Refusal}
use Rattle.session.specs.declared.Refusal.TheVariants as Why
use Rattle.session.specs.Tests.{Tests, refusal_number, tested, unless}
use Rattle.session.specs.Values.{number}
use Rattle.session.specs.Session.{jacobian_room, clear, used_history, wanted_by, names, size_ok, attempt_places, good2, good7, positive, good5, good3, session_tests}
use Rattle.session.specs.Figures.{time_at, step_at, relative_at, absolute_at, part, figures_of}
use Rattle.session.specs.Calls.{tell, refuse, has_error, ready_of, first_step_tests, first_step_call}
use Rattle.session.specs.Bare.{norm_call}
use Rattle.session.specs.Runs.{Call, wants_of, perform}

-- ---- the old layout: up to the tolerance as today; then one place, and each array behind the one before it

abbrev pub old_state_at : ℕ
old_state_at = absolute_at + 1

abbrev pub old_derivative_at : ℕ
old_derivative_at = old_state_at + places

abbrev pub old_previous_at : ℕ
old_previous_at = old_derivative_at + places

abbrev pub old_jacobian_at : ℕ
old_jacobian_at = old_previous_at + places

abbrev pub old_answers_at : ℕ
old_answers_at = old_jacobian_at + jacobian_room

-- how many figures there were
abbrev pub old_figures : ℕ
old_figures = old_answers_at + answer_room

-- the old session that head and figures hold
unfoldable pub old_session_of : Head → List Float → OldSession
old_session_of k figures = record {
  scheme = k.scheme;
  n = k.n;
  time = figures ! time_at;
  state = part figures old_state_at places;
  derivative = part figures old_derivative_at places;
  relative = figures ! relative_at;
  absolute = figures ! absolute_at;
  history = k.history;
  previous = part figures old_previous_at places;
  attempt = k.attempt;
  step = figures ! step_at;
  jacobian = part figures old_jacobian_at jacobian_room;
  count = k.count;
  answers = part figures old_answers_at answer_room;
}

-- ---- brought over

-- one tolerance in the first n of sixteen places, in all where n is above 16, and +0.0 in the others
unfoldable pub copied : ℕ → Float → List Float
copied n one = tab places (λ i. cond (ltb i n) one zero+)

-- what an old session holds, with these tolerances for its own
abbrev pub tolerating : OldSession → List Float → Session
tolerating o absolute = record {
  scheme = o.scheme;
  n = o.n;
  time = o.time;
  state = o.state;
  derivative = o.derivative;
  relative = o.relative;
  absolute = absolute;
  history = o.history;
  previous = o.previous;
  attempt = o.attempt;
  step = o.step;
  jacobian = o.jacobian;
  count = o.count;
  answers = o.answers;
}

-- its tolerance copied n times, and nothing judged
unfoldable pub brought_over : OldSession → Session
brought_over o = tolerating o (copied o.n o.absolute)

-- over lent figures: those of the session that it is brought over as, or, where a length does not match, as they were
unfoldable pub lent_bring_over : Bool → Head → List Float → List Float → List Float
lent_bring_over fits k old figures = cond fits (figures_of (brought_over (old_session_of k old))) figures

-- ---- what was refused before

-- two tolerances
unfoldable pub both_positive : Float → Float → Bool
both_positive relative absolute = positive relative && positive absolute

-- 1, of the run: its tolerance is no place that could be out of use
unfoldable pub old_run_places : OldSession → Bool
old_run_places o = clear o.n o.state && clear o.n o.derivative && clear (used_history o.history o.n) o.previous

-- the tests of an old session: as those of today, which but for 1 and 4 read no tolerance, so that it has none for them; no call named a question then
unfoldable pub old_tests : Option Phase → OldSession → Tests
old_tests wants o =
    let s = tolerating o [] in
    (cond (size_ok o.n) (old_run_places o && attempt_places s) false, Why.Places)
    ∷ (good2 s, Why.Scheme)
    ∷ (good7 wants s, Why.Phase)
    ∷ (both_positive o.relative o.absolute, Why.Tolerance)
    ∷ (good5 o.attempt o.step, Why.Step)
    ∷ (good3 s, Why.NotFinite)
    ∷ []

-- those of the bare error norm
unfoldable pub old_norm_tests : ℕ → Float → Float → List Float → List Float → List Float → Tests
old_norm_tests n relative absolute error state candidate =
    (size_ok n && clear n error && clear n state && clear n candidate, Why.Places)
    ∷ (both_positive relative absolute, Why.Tolerance)
    ∷ (all_finite error && all_finite state && all_finite candidate, Why.NotFinite)
    ∷ []

-- and what it told: the Rust's norm
unfoldable pub old_norm_call : ℕ → Float → Float → List Float → List Float → List Float → Result Answer Refusal
old_norm_call n relative absolute error state candidate =
    unless (tested (old_norm_tests n relative absolute error state candidate)) Err (Ok (Norm (scaled_error_norm n relative absolute state candidate error)))

-- ---- THE CLAIM: as before

pub record AsBefore : Type 0 where
  -- a session that is brought over is judged as it was, n of every kind, by a call that names no question but the open one
  pub judged : (wants : Option Phase) (o : OldSession) → names wants o.count ≡ true → tested (session_tests wants (brought_over o)) ≡ tested (old_tests wants o)
  -- by one that names another, by 1, 2 or 7 as it was, and otherwise by 9
  pub strays : (wants : Option Phase) (o : OldSession) → names wants o.count ≡ false
      → tested (session_tests wants (brought_over o)) ≡ unless (tested (take 3 (old_tests wants o))) Err (Err Why.Question)
  -- so the next call, whatever else it hands in, refuses by that number each one that it would have refused before
  pub next : (c : Call) (o : OldSession) (refusal : Refusal) → names (wants_of c) o.count ≡ true → tested (old_tests (wants_of c) o) ≡ Err refusal
      → number (perform c (brought_over o)).told.answer ≡ refusal_number refusal
  -- its tolerance stands in the first n places, and +0.0 in the others
  pub own : (o : OldSession) (i : ℕ) → i < o.n → i < places → (brought_over o).absolute ! i ≡ o.absolute
  pub others : (o : OldSession) (i : ℕ) → o.n ≤ i → i < places → (brought_over o).absolute ! i ≡ zero+
  -- a session with n equal tolerances is told the Rust's figures
  pub ready : (s : Session) (one : Float) → Equal s.n one s.absolute → (candidate error : List Float) (work : Work)
      → ready_of s candidate error work ≡ Ready (cond (has_error s.scheme) (scaled_error_norm s.n s.relative one s.state candidate error) zero+) (wanted_by s) 1 work.products
  pub first : (s : Session) (one : Float) → Equal s.n one s.absolute → (largest : Float)
      → first_step_call s largest
      ≡ unless (tested (first_step_tests s largest)) (refuse s) (tell (FirstStep (estimate_initial_step s.n s.relative one s.state s.derivative largest)) s)
  -- the bare error norm with one tolerance for all answers as it did, its refusals too
  pub norm : (n : ℕ) (relative one : Float) (error state candidate : List Float)
      → norm_call n relative (copied n one) error state candidate ≡ old_norm_call n relative one error state candidate
