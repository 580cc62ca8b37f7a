-- The shape of a scheme's pass, whatever the answers: how many questions it asks, how many exponentials it makes, and that every vector it asks about or ends in has
-- 16 places, +0.0 past n; and what the exponentials take at the most. Definitions only.
use Rattle.std.specs.Prelude.{◌≡◌, ℕ, suc, ◌+◌, ◌*◌, ◌<◌, ◌≤◌, Bool, true, T, IfSome, is_some, List, length, Float}
use Rattle.std.specs.Float.{binary64}
use Rattle.std.specs.Float.Ieee.{fits}
use Rattle.loops.specs.Loop.{◌!◌}
use Rattle.float.specs.Arith.{zero+, finite}
use Rattle.evaluation.specs.Evaluation.{all_finite}
use Rattle.methods.specs.declared.Point.{Point}
use Rattle.methods.specs.Tally.{Report}
use Rattle.methods.specs.declared.Work.{Work}
use Rattle.matrix.specs.Matrix.{Few}
use Rattle.methods.specs.Phi.{phi_action}
use Rattle.methods.specs.Pass.{Pass, ask, done, replay}
use Rattle.methods.specs.Parts.{in32, counted_in32}
use Rattle.methods.specs.Step.{pass, questions, exponentials, asking, ended, finish, perform_step}

-- every way through the pass asks exactly so many questions
pub data Asks : ℕ → Pass → Type 0 where
  asks_more : {m : ℕ} {tally : Report} {x : List Float} {time : Float} {next : List Float → Pass} → ((answer : List Float) → Asks m (next answer)) → Asks (suc m) (ask tally x time next)
  asks_none : {tally : Report} {x e : List Float} → Asks 0 (done tally x e)

-- every way through the pass makes exactly so many exponentials, those of each question and of the end counted
pub data Makes : ℕ → Pass → Type 0 where
  makes_more : {m : ℕ} {tally : Report} {x : List Float} {time : Float} {next : List Float → Pass}
      → ((answer : List Float) → Makes m (next answer)) → Makes (tally.exponentials + m) (ask tally x time next)
  makes_last : {tally : Report} {x e : List Float} → Makes tally.exponentials (done tally x e)

-- a vector of n: 16 places, +0.0 from place n on
pub record Vector (n : ℕ) (x : List Float) : Type 0 where
  pub places : length x ≡ 16
  pub clear : (i : ℕ) → n ≤ i → i < 16 → x ! i ≡ zero+

-- every state asked about, every candidate and every error vector is a vector of n
pub data Vectors (n : ℕ) : Pass → Type 0 where
  asked_vector : {tally : Report} {x : List Float} {time : Float} {next : List Float → Pass} → Vector n x → ((answer : List Float) → Vectors n (next answer)) → Vectors n (ask tally x time next)
  ended_vectors : {tally : Report} {x e : List Float} → Vector n x → Vector n e → Vectors n (done tally x e)

-- a vector of n whose places are all finite
pub record Whole (n : ℕ) (x : List Float) : Type 0 where
  pub vector : Vector n x
  pub numbers : all_finite x ≡ true

-- what is known of a step that asks, over `count` answers
pub record Asked (n m count : ℕ) (x : List Float) (time : Float) : Type 0 where
  pub early : count < m
  pub state : Whole n x
  pub moment : finite time ≡ true

-- what is known of a step that has ended
pub record Ended (n m count : ℕ) (x e g : List Float) : Type 0 where
  pub late : m ≤ count
  pub candidate : Whole n x
  pub error : Whole n e
  pub nonlinear : Whole n g

-- the first n places are doubles
pub record Doubles (n : ℕ) (x : List Float) : Type 0 where
  pub fit : (i : ℕ) → i < n → T (fits binary64 (x ! i))

-- the work of a step that has ended: so many exponentials, and at most 47 products for each
pub record Worked (m : ℕ) (work : Work) : Type 0 where
  pub made : work.exponentials ≡ m
  pub few : work.products ≤ 47 * m

-- ---- THE STATEMENTS

-- the pass of scheme k asks `questions k` questions; above 15 it asks none
abbrev pub AsksQuestions : Type 0
AsksQuestions = (k : ℕ) (p : Point) (a au nonlinear0 : List Float) → Asks (questions k) (pass k p a au nonlinear0)

-- it makes `exponentials k` exponentials, with or without a previous nonlinear part; above 15 it makes none
abbrev pub MakesExponentials : Type 0
MakesExponentials = (k : ℕ) (p : Point) (a au nonlinear0 : List Float) → Makes (exponentials k (is_some p.previous)) (pass k p a au nonlinear0)

-- no scheme makes more than 34
abbrev pub AtMost34 : Type 0
AtMost34 = (k : ℕ) (held : Bool) → exponentials k held ≤ 34

-- its vectors are vectors of the dimension
abbrev pub PassVectors : Type 0
PassVectors = (k : ℕ) (p : Point) (a au nonlinear0 : List Float) → p.n ≤ 16 → Vectors p.n (pass k p a au nonlinear0)

-- a step that asks has had fewer answers than its scheme has questions, and asks about a finite vector at a finite time
abbrev pub AsksEarly : Type 0
AsksEarly =
    (k : ℕ) (p : Point) (a : List Float) (count j : ℕ) (answers : List Float) (x : List Float) (time : Float)
    → p.n ≤ 16
    → perform_step k p a count j answers ≡ asking x time
    → Asked p.n (questions k) count x time

-- a step that has ended has had an answer for each question, and ends in finite vectors
abbrev pub EndsLate : Type 0
EndsLate =
    (k : ℕ) (p : Point) (a : List Float) (count j : ℕ) (answers : List Float) (x e g : List Float) (work : Work)
    → p.n ≤ 16
    → perform_step k p a count j answers ≡ ended x e g work
    → Ended p.n (questions k) count x e g

-- it has made its scheme's exponentials, and at most 47 matrix products for each
abbrev pub StepWork : Type 0
StepWork =
    (k : ℕ) (p : Point) (a : List Float) (count j : ℕ) (answers : List Float) (x e g : List Float) (work : Work)
    → p.n ≤ 16
    → Doubles p.n p.f0
    → IfSome p.previous (Doubles p.n)
    → perform_step k p a count j answers ≡ ended x e g work
    → Worked (exponentials k (is_some p.previous)) work

-- a phi action of order up to 4 on doubles goes no further than its exponential may
abbrev pub PhiReach : Type 0
PhiReach =
    (n : ℕ) (a : List Float) (scaleA : Float) (order : ℕ) (input : List Float)
    → n ≤ 16
    → order ≤ 4
    → Doubles n input
    → Few (phi_action n a scaleA order input).tally.terms (phi_action n a scaleA order input).tally.squarings

-- the code's counts of 32 bits are the counts themselves, whatever the numbers are
abbrev pub StepFits : Type 0
StepFits =
    (k : ℕ) (p : Point) (a au g r : List Float) (count j : ℕ) (answers : List Float)
    → let stand = replay p.n (pass k p a au g) count j answers in counted_in32 (finish r (in32 stand)) ≡ finish r stand
