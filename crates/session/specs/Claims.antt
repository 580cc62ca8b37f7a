-- What follows from the definitions of the calls: counts, closed sessions, tolerances, products, drops, the first step and the error norms. Definitions only.
use Rattle.std.specs.Prelude.{ℕ, ◌*◌, ◌≤◌, ◌<◌, ◌≡◌, true, false, cond, List, [], ◌∷◌, T, Float, length, Result, Ok, Err, Option, Some}
use Rattle.std.specs.Float.{binary64}
use Rattle.std.specs.Float.Ieee.{fits, is_nan}
use Rattle.loops.specs.Loop.{◌!◌}
use Rattle.float.specs.Arith.{plus_zero}
use Rattle.evaluation.specs.Sizes.{places, answer_room}
use Rattle.matrix.specs.Matrix.{Few}
use Rattle.methods.specs.Step.{exponentials, asking}
use Rattle.engine.specs.Claims.{Between}
use Rattle.session.specs.declared.Phase.{Phase}
use Rattle.session.specs.declared.Session.{Session}
use Rattle.session.specs.declared.Told.{Told}
use Rattle.session.specs.declared.Answer.{Answer}
use Rattle.session.specs.declared.Answer.TheVariants.{Ask, Ready, Resting, FirstStep, Filled, Norm}
use Rattle.session.specs.declared.Refusal.{Refusal}
use Rattle.session.specs.declared.Refusal.TheVariants as Why
use Rattle.session.specs.declared.Wish.{Wish}
use Rattle.session.specs.declared.Phase.TheVariants.{Rest, Waiting}
use Rattle.session.specs.Tests.{tested}
use Rattle.session.specs.Values.{values_of, number}
use Rattle.session.specs.Session.{Run, jacobian_room, wanted_by, good1, good7, good9, positive, good4, session_tests, is_held, progress}
use Rattle.session.specs.Calls.{tell, nothing, open_call, begin_call, supply_call, drop_call, first_step_call}
use Rattle.session.specs.Bare.{exponential_call, phi_call, norm_call}
use Rattle.session.specs.Runs.{Call, begin, supply, accept, drop, first_step, perform, after}

-- ---- what the code's types give

-- an array of doubles
pub record Doubles (size : ℕ) (x : List Float) : Type 0 where
  pub places : length x ≡ size
  pub fit : (i : ℕ) → T (fits binary64 (x ! i))

-- a session of the code's types: its scheme is a byte, its figures are doubles, its arrays have their lengths
pub record Typed (s : Session) : Type 0 where
  pub scheme : s.scheme < 256
  pub time : T (fits binary64 s.time)
  pub relative : T (fits binary64 s.relative)
  pub step : T (fits binary64 s.step)
  pub absolute : Doubles places s.absolute
  pub state : Doubles places s.state
  pub derivative : Doubles places s.derivative
  pub previous : Doubles places s.previous
  pub jacobian : Doubles jacobian_room s.jacobian
  pub answers : Doubles answer_room s.answers

-- a supplied answer has sixteen places
unfoldable pub TypedCall : Call → Type 0
TypedCall (begin step wish jacobian out) = Unit
TypedCall (supply place answer out) = length answer ≡ places
TypedCall (accept derivative) = Unit
TypedCall drop = Unit
TypedCall (first_step largest) = Unit

unfoldable pub TypedCalls : List Call → Type 0
TypedCalls [] = Unit
TypedCalls (c ∷ cs) = TypedCall c × TypedCalls cs

-- ---- counts: Ask's session has fewer answers than its attempt wants, Ready's exactly as many

unfoldable pub CountedBy : Result Answer Refusal → ℕ → ℕ → Type 0
CountedBy (Ok (Ask place time)) count most = count < most
CountedBy (Ok (Ready norm rhs jacobians products)) count most = count ≡ most
CountedBy (Ok Resting) count most = Unit
CountedBy (Ok (FirstStep step)) count most = Unit
CountedBy (Ok (Filled terms squarings)) count most = Unit
CountedBy (Ok (Norm norm)) count most = Unit
CountedBy (Err refusal) count most = Unit

unfoldable pub Counted : Told → Type 0
Counted r = CountedBy r.answer r.session.count (wanted_by r.session)

pub record Counts : Type 0 where
  pub begin : (s : Session) (step : Float) (wish : Wish) (jacobian out : List Float) → Counted (begin_call s step wish jacobian out).told
  pub supply : (s : Session) (place : ℕ) (answer out : List Float) → Counted (supply_call s place answer out).told
  -- a session that accept takes is never still asking
  pub accept : (s : Session) → tested (session_tests (Some Waiting) s) ≡ Ok tt → (x : List Float) (time : Float) → progress s ≡ asking x time → ⊥

-- ---- closed: a session that an accepted call returns is refused by nothing but its phase and the place of its question

unfoldable pub Closed : Session → Type 0
Closed s = (wants : Option Phase) → tested (session_tests wants s) ≡ cond (good7 wants s) (cond (good9 wants s) (Ok tt) (Err Why.Question)) (Err Why.Phase)

pub record Closes : Type 0 where
  pub opens : (r : Run) → number (open_call r).answer ≡ 0 → Closed (open_call r).session
  pub call : (c : Call) (s : Session) → TypedCall c → number (perform c s).told.answer ≡ 0 → Closed (perform c s).told.session
  -- so no call of a run from an accepted opening on meets 1 to 5 because of the session
  pub run : (r : Run) (cs : List Call) → number (open_call r).answer ≡ 0 → TypedCalls cs → Closed (after (open_call r).session cs)

-- ---- each of the n tolerances counts, and no place past them does

pub record Tolerances : Type 0 where
  -- one of the n that is not finite and positive fails the test of 4
  pub each : (s : Session) (i : ℕ) → i < s.n → positive (s.absolute ! i) ≡ false → good4 s ≡ false
  -- where the n and the relative one are, it holds, whatever stands past n
  pub all : (s : Session) → positive s.relative ≡ true → ((i : ℕ) → i < s.n → positive (s.absolute ! i) ≡ true) → good4 s ≡ true
  -- one past n that is not +0.0 fails the test of 1
  pub past : (s : Session) → length s.absolute ≡ places → (i : ℕ) → s.n ≤ i → i < places → plus_zero (s.absolute ! i) ≡ false → good1 s ≡ false

-- ---- how far the exponentials went

-- the exponentials of a session's pass
abbrev pub exponentials_of : Session → ℕ
exponentials_of s = exponentials s.scheme (is_held s.history)

pub record Products : Type 0 where
  -- of every session of the code's types, forged or not, and whatever is handed in, Ready's products are at most 47 for each exponential of its scheme's pass
  pub begin : (s : Session) (step : Float) (wish : Wish) (jacobian out : List Float) → Typed s
      → (norm : Float) (rhs jacobians products : ℕ) → (begin_call s step wish jacobian out).told.answer ≡ Ok (Ready norm rhs jacobians products) → products ≤ 47 * exponentials_of s
  pub supply : (s : Session) (place : ℕ) (answer out : List Float) → Typed s
      → (norm : Float) (rhs jacobians products : ℕ) → (supply_call s place answer out).told.answer ≡ Ok (Ready norm rhs jacobians products) → products ≤ 47 * exponentials_of s
  -- so at most 1,598
  pub most : (s : Session) → 47 * exponentials_of s ≤ 1598
  -- a pass that asks carries no sum: the place of its question alone
  pub asking : (place : ℕ) (time : Float) → (values_of (Ok (Ask place time))).counts ≡ place ∷ 0 ∷ 0 ∷ []
  -- Filled's terms and squarings are no more than an exponential may take, of every matrix and every input of doubles
  pub exponential : (size : ℕ) (m out : List Float) → ((i : ℕ) → T (fits binary64 (m ! i)))
      → (terms squarings : ℕ) → (exponential_call size m out).answer ≡ Ok (Filled terms squarings) → Few terms squarings
  pub phi_action : (n order : ℕ) (scaleA : Float) (a input out : List Float) → ((i : ℕ) → T (fits binary64 (input ! i)))
      → (terms squarings : ℕ) → (phi_call n order scaleA a input out).answer ≡ Ok (Filled terms squarings) → Few terms squarings

-- ---- drops, and the session of a refused open

-- one supply for each place, answer and lent output
unfoldable pub supplies : List (ℕ × (List Float × List Float)) → List Call
supplies [] = []
supplies ((place, (answer, out)) ∷ rest) = supply place answer out ∷ supplies rest

pub record Drops : Type 0 where
  -- at rest: the session as it was
  pub at_rest : (s : Session) → Typed s → tested (session_tests (Some Rest) s) ≡ Ok tt → drop_call s ≡ tell Resting s
  -- after begin and any supplies, refused ones too: the session before begin
  pub attempt : (s : Session) → Typed s → tested (session_tests (Some Rest) s) ≡ Ok tt
      → (step : Float) (wish : Wish) (jacobian out : List Float) (answers : List (ℕ × (List Float × List Float))) → TypedCalls (supplies answers)
      → drop_call (after s (begin step wish jacobian out ∷ supplies answers)) ≡ tell Resting s
  -- every call refuses what a refused open returns by 1
  pub nothing : (c : Call) → number (perform c nothing).told.answer ≡ 1

-- ---- the first step: no NaN, between 2 ^ -52 and the largest step

unfoldable pub FirstSteps : Type 0
FirstSteps =
    (s : Session) (largest step : Float) → (first_step_call s largest).answer ≡ Ok (FirstStep step) → Between largest step

-- ---- the error norm of Ready, and the bare one: never a NaN

-- for every session of the code's types, and whatever is handed in
pub record Norms : Type 0 where
  pub begin : (s : Session) (step : Float) (wish : Wish) (jacobian out : List Float) → Typed s
      → (norm : Float) (rhs jacobians products : ℕ) → (begin_call s step wish jacobian out).told.answer ≡ Ok (Ready norm rhs jacobians products) → is_nan norm ≡ false
  pub supply : (s : Session) (place : ℕ) (answer out : List Float) → Typed s
      → (norm : Float) (rhs jacobians products : ℕ) → (supply_call s place answer out).told.answer ≡ Ok (Ready norm rhs jacobians products) → is_nan norm ≡ false
  pub bare : (n : ℕ) (relative : Float) (absolute error state candidate : List Float)
      → ((i : ℕ) → T (fits binary64 (absolute ! i))) → length error ≡ places → length state ≡ places → length candidate ≡ places
      → (norm : Float) → norm_call n relative absolute error state candidate ≡ Ok (Norm norm) → is_nan norm ≡ false
