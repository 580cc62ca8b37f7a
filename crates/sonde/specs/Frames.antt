-- The bytes of the program `sonde`: what its input says, and what it writes. Definitions only.
use Rattle.std.specs.Prelude.{ℕ, zero, suc, ◌+◌, ◌*◌, Bool, cond, List, [], ◌∷◌, ◌++◌, leb, Float, length, take, drop, replicate, Result, Ok, Err, Option, Some, None}
use Rattle.std.specs.Float.{binary64}
use Rattle.std.specs.Float.Ieee.{of_bits}
use Rattle.float.specs.Arith.{zero+}
use Rattle.evaluation.specs.Sizes.{places}
use Rattle.matrix.specs.Vector.{vec}
use Rattle.wire.specs.Wire.{byte_at, word16, word64, doubles_bytes}
use Rattle.session.specs.declared.Session.{Session}
use Rattle.session.specs.declared.Answer.{Answer}
use Rattle.session.specs.declared.Refusal.{Refusal}
use Rattle.session.specs.declared.Refusal.TheVariants as Why
use Rattle.session.specs.declared.History.TheVariants.{Missing}
use Rattle.session.specs.Tests.{refusal_number}
use Rattle.session.specs.Session.{Run}
use Rattle.table.specs.Whole.{open_by_table, whole_step}

-- ---- the input

-- the double that begins at place i
abbrev pub double_at : List ℕ → ℕ → Float
double_at b i = of_bits binary64 (word64 b i)

-- byte 0: n, how many components there are
unfoldable pub size_in : List ℕ → ℕ
size_in b = byte_at b 0

-- byte 1: the scheme
unfoldable pub scheme_in : List ℕ → ℕ
scheme_in b = byte_at b 1

-- bytes 2 and 3: how many steps
unfoldable pub steps_in : List ℕ → ℕ
steps_in b = word16 b 2

-- bytes 4 to 11: the time
unfoldable pub time_in : List ℕ → Float
time_in b = double_at b 4

-- bytes 12 to 19: the step
unfoldable pub step_in : List ℕ → Float
step_in b = double_at b 12

-- bytes 20 to 27: the relative tolerance
unfoldable pub relative_in : List ℕ → Float
relative_in b = double_at b 20

-- where the n absolute tolerances begin
abbrev pub absolute_from : ℕ
absolute_from = 28

-- the n states
abbrev pub state_from : ℕ → ℕ
state_from n = absolute_from + 8 * n

-- and the table
abbrev pub table_from : ℕ → ℕ
table_from n = state_from n + 8 * n

-- n doubles from place `from` on, as a vector
unfoldable pub vector_in : ℕ → List ℕ → ℕ → List Float
vector_in n b from = vec n (λ i. double_at b (from + 8 * i))

-- the table is what is left
unfoldable pub table_in : List ℕ → List ℕ
table_in b = drop (table_from (size_in b)) b

-- whether it comes to its table; an input that is cut short of it is not judged any further
unfoldable pub reaches_table : List ℕ → Bool
reaches_table b = leb (table_from (size_in b)) (length b)

-- the run that it opens, without a history; its derivative is left at +0.0, and `open_by_table` gives it the table's
unfoldable pub run_in : List ℕ → Run
run_in b = record {
  scheme = scheme_in b;
  n = size_in b;
  time = time_in b;
  state = vector_in (size_in b) b (state_from (size_in b));
  derivative = replicate places zero+;
  relative = relative_in b;
  absolute = vector_in (size_in b) b absolute_from;
  history = Missing;
  previous = replicate places zero+;
}

-- ---- the output

-- a frame: the time, then the first n places of the state, as doubles
unfoldable pub frame : ℕ → Float → List Float → List ℕ
frame n time state = doubles_bytes (time ∷ take n state)

-- how a run goes: the bytes of its frames, and by what it is refused, if it is
pub record Course : Type 0 where
  pub frames : List ℕ
  pub refusal : Option Refusal

-- all steps are made
abbrev pub finished : Course
finished = record { frames = []; refusal = None }

-- refused, with no frame any more
abbrev pub ends_by : Refusal → Course
ends_by refusal = record { frames = []; refusal = Some refusal }

-- a frame, and what comes then
abbrev pub framed : List ℕ → Course → Course
framed bytes next = record { frames = bytes ++ next.frames; refusal = next.refusal }

-- where a call is not refused, the run goes on
unfoldable pub unless_refused : Result Answer Refusal → Course → Course
unless_refused (Ok answer) next = next
unless_refused (Err refusal) next = ends_by refusal

-- so many whole steps from a session on, each by the input's table and step; a frame for each
unfoldable pub steps_by : List ℕ → ℕ → Session → Course
steps_by b zero s = finished
steps_by b (suc k) s =
    let told = whole_step s (table_in b) (step_in b) in
    unless_refused told.answer (framed (frame (size_in b) told.session.time told.session.state) (steps_by b k told.session))

-- the run of an input: 1 if it is cut short of its table; what the opening is refused by; then its steps
unfoldable pub course_of : List ℕ → Course
course_of b =
    let told = open_by_table (run_in b) (table_in b) in
    cond (reaches_table b) (unless_refused told.answer (steps_by b (steps_in b) told.session)) (ends_by Why.Places)

-- a refusal's byte
unfoldable pub last_byte : Option Refusal → List ℕ
last_byte None = []
last_byte (Some refusal) = refusal_number refusal ∷ []

-- all that is written: the frames, and the refusal
unfoldable pub written : Course → List ℕ
written c = c.frames ++ last_byte c.refusal
