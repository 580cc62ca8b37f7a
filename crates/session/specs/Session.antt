-- A session, what a call refuses it for, and how far its attempt has come. Definitions only.
use Rattle.std.specs.Prelude.{ℕ, ◌+◌, ◌-◌, ◌*◌, ◌/◌, ◌%◌, ◌≤◌, ◌<◌, ◌≡◌, Bool, true, false, cond, not, ◌&&◌, ◌||◌, List, [], ◌∷◌, ltb, leb, eqb, Float, length, replicate, take, Option, Some, None}
use Rattle.std.specs.Float.Ieee.{lt, eq}
use Rattle.loops.specs.Loop.{every, mat, ◌!◌}
use Rattle.float.specs.Arith.{zero+, finite, plus_zero}
use Rattle.evaluation.specs.Evaluation.{all_finite}
use Rattle.evaluation.specs.Sizes.{places, answer_room}
use Rattle.methods.specs.Sizes.{etd2_number}
use Rattle.methods.specs.declared.Point.{Point}
use Rattle.methods.specs.Step.{Progress, refused, asking, questions, perform_step}
use Rattle.engine.specs.Engine.{perturbed, jacobian_entry, column_ok}
use Rattle.session.specs.declared.Wish.TheVariants.{Given, Difference}
use Rattle.session.specs.declared.Wish.{Wish}
use Rattle.session.specs.declared.Session.{Session}
use Rattle.session.specs.declared.History.{History}
use Rattle.session.specs.declared.History.TheVariants.{Missing, Held}
use Rattle.session.specs.declared.Phase.{Phase}
use Rattle.session.specs.declared.Phase.TheVariants.{Rest, Asking, Waiting}
use Rattle.session.specs.declared.Refusal.TheVariants as Why
use Rattle.std.specs.Prelude.{Option, Some, None as Nothing}
use Rattle.session.specs.Tests.{Tests}

-- ---- sizes that the session adds to those of methods/specs/Sizes.antt; the code has each as a const of the same value

-- the room of a Jacobian: JACOBIAN
abbrev pub jacobian_room : ℕ
jacobian_room = places * places

-- how many schemes there are: SCHEMES
abbrev pub schemes : ℕ
schemes = 16

-- the largest matrix that is exponentiated: LARGEST
abbrev pub largest : ℕ
largest = 20

-- ---- a session is a run and its attempt

-- the run: what is handed to open, and what accept moves on
pub record Run : Type 0 where
  pub scheme : ℕ
  pub n : ℕ
  pub time : Float
  pub state : List Float
  pub derivative : List Float
  pub relative : Float
  pub absolute : List Float
  pub history : History
  pub previous : List Float

-- the attempt, if there is one, with its answers so far
pub record Trial : Type 0 where
  pub attempt : Option Wish
  pub step : Float
  pub jacobian : List Float
  pub count : ℕ
  pub answers : List Float

-- both as one flat record
abbrev pub joined : Run → Trial → Session
joined r t = record {
  scheme = r.scheme;
  n = r.n;
  time = r.time;
  state = r.state;
  derivative = r.derivative;
  relative = r.relative;
  absolute = r.absolute;
  history = r.history;
  previous = r.previous;
  attempt = t.attempt;
  step = t.step;
  jacobian = t.jacobian;
  count = t.count;
  answers = t.answers;
}

abbrev pub run_of : Session → Run
run_of s = record {
  scheme = s.scheme;
  n = s.n;
  time = s.time;
  state = s.state;
  derivative = s.derivative;
  relative = s.relative;
  absolute = s.absolute;
  history = s.history;
  previous = s.previous;
}

abbrev pub trial_of : Session → Trial
trial_of s = record { attempt = s.attempt; step = s.step; jacobian = s.jacobian; count = s.count; answers = s.answers }

-- an attempt that has no answer yet
unfoldable pub fresh : Option Wish → Float → List Float → Trial
fresh attempt step jacobian = record { attempt = attempt; step = step; jacobian = jacobian; count = 0; answers = replicate answer_room zero+ }

-- no attempt
unfoldable pub idle : Trial
idle = fresh None zero+ (replicate jacobian_room zero+)

-- ---- places in use

-- the places from `used` on are +0.0
unfoldable pub clear : ℕ → List Float → Bool
clear used x = every (length x) (λ p. ltb p used || plus_zero (x ! p))

-- place p holds an entry of an answer: answer k begins at place 16 k
abbrev pub in_answers : ℕ → ℕ → ℕ → Bool
in_answers count n p = ltb (p / places) count && ltb (p % places) n

-- the places that hold no entry of an answer are +0.0
unfoldable pub clear_answers : ℕ → ℕ → List Float → Bool
clear_answers count n x = every (length x) (λ p. in_answers count n p || plus_zero (x ! p))

-- how many places of the history are in use
unfoldable pub used_history : History → ℕ → ℕ
used_history Missing n = 0
used_history Held n = n

-- how many places of the Jacobian are in use
unfoldable pub used_jacobian : Option Wish → ℕ → ℕ
used_jacobian None n = 0
used_jacobian (Some Given) n = n * n
used_jacobian (Some Difference) n = 0

-- without an attempt the step is a place not in use
unfoldable pub step_clear : Option Wish → Float → Bool
step_clear None step = plus_zero step
step_clear (Some wish) step = true

-- how many answers an attempt asks for: its right-hand sides
unfoldable pub wanted : ℕ → ℕ → Option Wish → ℕ
wanted scheme n None = 0
wanted scheme n (Some Given) = questions scheme
wanted scheme n (Some Difference) = n + questions scheme

abbrev pub wanted_by : Session → ℕ
wanted_by s = wanted s.scheme s.n s.attempt

-- ---- the phase

-- the place of the open question: how many answers there are so far
abbrev pub open_place : Session → ℕ
open_place s = s.count

-- without an attempt at rest; with one asking the open question while an answer is wanted, then waiting for accept
unfoldable pub phase_at : Option Wish → ℕ → Bool → Phase
phase_at None place more = Rest
phase_at (Some wish) place more = cond more (Asking place) Waiting

unfoldable pub phase_of : Session → Phase
phase_of s = phase_at s.attempt (open_place s) (ltb s.count (wanted_by s))

unfoldable pub phase_number : Phase → ℕ
phase_number Rest = 0
phase_number (Asking place) = 1
phase_number Waiting = 2

-- a call wants the session in one phase, or takes it in any: None
unfoldable pub admits : Option Phase → Phase → Bool
admits None phase = true
admits (Some one) phase = eqb (phase_number one) (phase_number phase)

-- a call that wants a question to be asked wants the one at its place
unfoldable pub names : Option Phase → ℕ → Bool
names None place = true
names (Some Rest) place = true
names (Some (Asking one)) place = eqb one place
names (Some Waiting) place = true

-- ---- the conditions of the table of refusals, on the session: each holds where its number is not given

-- a dimension is 1 to 16
unfoldable pub size_ok : ℕ → Bool
size_ok n = leb 1 n && leb n places

-- 1, of the run
unfoldable pub run_places : Session → Bool
run_places s =
    clear s.n s.absolute && clear s.n s.state && clear s.n s.derivative && clear (used_history s.history s.n) s.previous

-- 1, of the attempt
unfoldable pub attempt_places : Session → Bool
attempt_places s = step_clear s.attempt s.step && clear (used_jacobian s.attempt s.n) s.jacobian && clear_answers s.count s.n s.answers

-- 1: the dimension, and every place not in use
unfoldable pub good1 : Session → Bool
good1 s = cond (size_ok s.n) (run_places s && attempt_places s) false

-- only Etd2 has a history
unfoldable pub history_ok : History → ℕ → Bool
history_ok Missing scheme = true
history_ok Held scheme = eqb scheme etd2_number

-- 2: the scheme, its history, and no more answers than are asked for
unfoldable pub good2 : Session → Bool
good2 s = ltb s.scheme schemes && history_ok s.history s.scheme && leb s.count (wanted_by s)

-- 7: the phase that the call wants
unfoldable pub good7 : Option Phase → Session → Bool
good7 wants s = admits wants (phase_of s)

-- 9: the place of the open question, where the call names one
unfoldable pub good9 : Option Phase → Session → Bool
good9 wants s = names wants (open_place s)

-- a tolerance is finite and positive
unfoldable pub positive : Float → Bool
positive x = finite x && lt zero+ x

-- the relative one, and each of n absolute ones
unfoldable pub tolerances_ok : ℕ → Float → List Float → Bool
tolerances_ok n relative absolute = positive relative && every n (λ i. positive (absolute ! i))

-- 4: the tolerances
unfoldable pub good4 : Session → Bool
good4 s = tolerances_ok s.n s.relative s.absolute

-- a step is finite and not zero
unfoldable pub step_ok : Float → Bool
step_ok step = finite step && not (eq step zero+)

-- 5: the attempt's step
unfoldable pub good5 : Option Wish → Float → Bool
good5 None step = true
good5 (Some wish) step = step_ok step

-- 3: every other number
unfoldable pub good3 : Session → Bool
good3 s = finite s.time && all_finite s.state && all_finite s.derivative && all_finite s.previous && all_finite s.jacobian && all_finite s.answers

-- the tests of a session, in the order 1, 2, 7, 9, 4, 5, 3
unfoldable pub session_tests : Option Phase → Session → Tests
session_tests wants s =
    (good1 s, Why.Places)
    ∷ (good2 s, Why.Scheme)
    ∷ (good7 wants s, Why.Phase)
    ∷ (good9 wants s, Why.Question)
    ∷ (good4 s, Why.Tolerance)
    ∷ (good5 s.attempt s.step, Why.Step)
    ∷ (good3 s, Why.NotFinite)
    ∷ []

-- what every session that is not refused has
pub record Sound (s : Session) : Type 0 where
  pub some : 1 ≤ s.n
  pub small : s.n ≤ places
  pub scheme : s.scheme < schemes
  pub enough : s.count ≤ wanted_by s
  pub calm : all_finite s.state ≡ true

-- ---- the attempt, as far as its answers go

-- whether there is a history
unfoldable pub is_held : History → Bool
is_held Missing = false
is_held Held = true

-- the nonlinear part of the last step, where it is kept
unfoldable pub previous_of : History → List Float → Option (List Float)
previous_of Missing previous = Nothing
previous_of Held previous = Some previous

-- what the schemes start from
unfoldable pub point_of : Session → Point
point_of s = record { n = s.n; time = s.time; step = s.step; state = s.state; f0 = s.derivative; previous = previous_of s.history s.previous }

-- the step with the Jacobian a, over the answers from the j-th on
abbrev pub stepped : Session → List Float → ℕ → Progress
stepped s a j = perform_step s.scheme (point_of s) a (s.count - j) j s.answers

-- a column's question; its time is the run's
unfoldable pub question : List Float → Float → Progress
question x time = cond (all_finite x) (asking x time) refused

-- column by column: every answered one is tested, then the next is asked, or the step goes on with the Jacobian that they give
unfoldable pub differencing : Session → Progress
differencing s =
    let column = column_ok s.n s.state s.derivative s.answers in
    let jacobian = mat s.n (jacobian_entry s.state s.derivative s.answers) in
    cond (ltb s.count s.n)
    (cond (every s.count column) (question (perturbed s.n s.state s.count) s.time) refused)
    (cond (every s.n column) (stepped s jacobian s.n) refused)

-- by the kind of attempt
unfoldable pub progress_of : Option Wish → Session → Progress
progress_of None s = refused
progress_of (Some Given) s = stepped s (take (s.n * s.n) s.jacobian) 0
progress_of (Some Difference) s = differencing s

-- where the attempt stands
unfoldable pub progress : Session → Progress
progress s = progress_of s.attempt s
