-- A scheme's pass as a tree of questions, and how far given answers lead into it. Definitions only.
use Rattle.std.specs.Prelude.{ℕ, zero, suc, ◌+◌, ◌*◌, cond, ◌&&◌, List, Float}
use Rattle.loops.specs.Loop.{◌!◌}
use Rattle.float.specs.Arith.{finite}
use Rattle.evaluation.specs.Evaluation.{all_finite}
use Rattle.matrix.specs.Vector.{vec, mat_vec}
use Rattle.methods.specs.Numbers.{num, minus}
use Rattle.evaluation.specs.Sizes.{places}
use Rattle.methods.specs.Vectors.{subtract, axpy}
use Rattle.methods.specs.Tally.{Report, Tried, clean, joined}

-- A pass asks about a state and a time, and goes on with the answer; or it ends in a candidate and an error vector.
-- The tally is that of the exponentials since the last question.
pub data Pass : Type 0 where
  ask : Report → List Float → Float → (List Float → Pass) → Pass
  done : Report → List Float → List Float → Pass

-- more exponentials before the next question or the end
unfoldable pub also : Report → Pass → Pass
also first (ask tally x t next) = ask (joined first tally) x t next
also first (done tally x e) = done (joined first tally) x e

-- A line of a scheme: a vector worked out at once, one that exponentials were worked out for, or a question with what is made of its answer.
pub data Line : Type 0 where
  now : List Float → Line
  try : Tried → Line
  question : List Float → Float → (List Float → List Float) → Line

infixl 20 ◌>>=◌
unfoldable pub ◌>>=◌ : Line → (List Float → Pass) → Pass
now x >>= next = next x
try p >>= next = also p.tally (next p.v)
question x t made >>= next = ask clean x t (λ answer. next (made answer))

-- evaluate_new: the answer itself
abbrev pub evaluate_new : List Float → Float → Line
evaluate_new stage time = question stage time (λ value. value)

-- shifted_stage: the answer, less a times the stage, plus au
abbrev pub shifted_stage : ℕ → List Float → List Float → List Float → Float → Line
shifted_stage n a stage au time = question stage time (λ value. axpy n (axpy n value (minus 1) (mat_vec n a stage)) (num 1) au)

-- remainder: the answer, less f0, less a times (stage - base)
abbrev pub remainder : ℕ → List Float → List Float → List Float → List Float → Float → Line
remainder n a stage base f0 time = question stage time (λ value. axpy n (axpy n value (minus 1) f0) (minus 1) (mat_vec n a (subtract n stage base)))

-- ---- replaying a pass over the answers so far

-- where a pass stands: a test failed, it asks, or it has ended, with what its exponentials reported in all
pub data Stand : Type 0 where
  fails : Stand
  asks : List Float → Float → Stand
  ends : List Float → List Float → Report → Stand

-- an end takes a report in; a pass that asks carries none
unfoldable pub counting : Report → Stand → Stand
counting tally fails = fails
counting tally (asks x t) = asks x t
counting tally (ends x e rest) = ends x e (joined tally rest)

-- a stand under a report: it fails where an exponential was not admitted
unfoldable pub under : Report → Stand → Stand
under tally s = cond tally.ok (counting tally s) fails

-- answer j: its first n places
unfoldable pub answer : ℕ → List Float → ℕ → List Float
answer n answers j = vec n (λ i. answers ! (places * j + i))

-- The pass over `count` answers, the first of them answer j. Every question on the way is tested, answered ones too.
unfoldable pub replay : ℕ → Pass → ℕ → ℕ → List Float → Stand
replay n (ask tally x t next) zero j answers = under tally (cond (all_finite x && finite t) (asks x t) fails)
replay n (ask tally x t next) (suc count) j answers = under tally (cond (all_finite x && finite t) (replay n (next (answer n answers j)) count (suc j) answers) fails)
replay n (done tally x e) count j answers = under tally (cond (all_finite x && all_finite e) (ends x e clean) fails)
