-- The calls over lent figures: what each leaves of the session whose figures it was lent. Definitions only.
use Rattle.std.specs.Prelude.{ℕ, ◌*◌, Bool, cond, List, Float, take, Result, Ok, Err, None}
use Rattle.session.specs.declared.Session.{Session}
use Rattle.session.specs.declared.Head.{Head}
use Rattle.session.specs.declared.History.{History}
use Rattle.session.specs.declared.Left.{Left}
use Rattle.session.specs.declared.lent.Lent.{Lent}
use Rattle.session.specs.declared.attempt.Attempt.{Attempt}
use Rattle.session.specs.declared.Told.{Told}
use Rattle.session.specs.declared.Answer.{Answer}
use Rattle.session.specs.declared.Answer.TheVariants.{Resting}
use Rattle.session.specs.declared.Refusal.{Refusal}
use Rattle.session.specs.declared.Refusal.TheVariants as Why
use Rattle.loops.specs.Loop.{mat}
use Rattle.methods.specs.Step.{Progress}
use Rattle.engine.specs.Engine.{perturbed, jacobian_entry, column_ok}
use Rattle.session.specs.Session.{stepped, question}
use Rattle.session.specs.Calls.{Outcome, told, nothing}
use Rattle.session.specs.Figures.{session_of, head_of, figures_of}

-- ---- what the code's steps hand on

-- the session over the figures that are lent
abbrev pub lent : Lent → Session
lent s = session_of s.head s.figures.now

-- the session whose attempt it is
abbrev pub tried : Attempt → Session
tried a = session_of a.head a.figures.now

-- the head of a run that is to be opened
abbrev pub unopened : ℕ → ℕ → History → Head
unopened scheme n history = record { scheme = scheme; n = n; history = history; attempt = None; count = 0 }

-- a column of the differenced Jacobian
abbrev pub column_of : Session → ℕ → Bool
column_of s = column_ok s.n s.state s.derivative s.answers

-- the next column's question
abbrev pub column_asked : Session → Progress
column_asked s = question (perturbed s.n s.state s.count) s.time

-- the step with the Jacobian that the columns give
abbrev pub stepped_from : Session → Progress
stepped_from s = stepped s (mat s.n (jacobian_entry s.state s.derivative s.answers)) s.n

-- the step with the supplied one
abbrev pub supplied_from : Session → Progress
supplied_from s = stepped s (take (s.n * s.n) s.jacobian) 0

-- ---- the calls

-- the session that a call left, as a head and in the figures, with its answer
abbrev pub told_by : Left → List Float → Told
told_by r figures = told r.answer (session_of r.head figures)

-- refused, with the head as it was
abbrev pub refused_by : Head → Refusal → Left
refused_by head refusal = record { answer = Err refusal; head = head }

-- at rest, with this head
abbrev pub resting_at : Head → Left
resting_at head = record { answer = Ok Resting; head = head }

-- what is left: the answer, the head, the figures
pub record Remains : Type 0 where
  pub left : Left
  pub figures : List Float

abbrev pub remains : Left → List Float → Remains
remains left figures = record { left = left; figures = figures }

-- the answer of a call and the session that it returned
unfoldable pub left : Told → Left
left t = record { answer = t.answer; head = head_of t.session }

-- a call on the session that head and figures hold; where a length does not match, it is refused for its places and all is left as it was
unfoldable pub lent_call : Bool → Head → List Float → (Session → Told) → Remains
lent_call fits k figures call =
    let t = call (session_of k figures) in
    cond fits (remains (left t) (figures_of t.session)) (remains (refused_by k Why.Places) figures)

-- what an open tells, which fills all the figures; one that is lent others is refused for its places
unfoldable pub lent_open : Bool → List Float → Told → Remains
lent_open fits figures t =
    cond fits (remains (left t) (figures_of t.session)) (remains (refused_by (head_of nothing) Why.Places) figures)

-- a call that only tells
unfoldable pub lent_ask : Bool → Told → Result Answer Refusal
lent_ask fits t = cond fits t.answer (Err Why.Places)

-- the same with an output
pub record Fills : Type 0 where
  pub remains : Remains
  pub out : List Float

abbrev pub fills : Left → List Float → List Float → Fills
fills left figures out = record { remains = remains left figures; out = out }

unfoldable pub lent_fill : Bool → Head → List Float → List Float → (Session → List Float → Outcome) → Fills
lent_fill fits k figures out call =
    let o = call (session_of k figures) out in
    cond fits (fills (left o.told) (figures_of o.told.session) o.out) (fills (refused_by k Why.Places) figures out)
