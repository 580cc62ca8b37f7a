-- What the code's parts work out, where it is no line of the Rust: contracts cite it. Definitions only.
use Rattle.std.specs.Prelude.{ℕ, zero, suc, ◌+◌, ◌-◌, ◌*◌, ◌%◌, ◌^◌, Bool, true, cond, ◌&&◌, Option, Some, None, List, nat_lt, slice_set, Float}
use Rattle.std.specs.Float.Ieee.{le}
use Rattle.loops.specs.Loop.{iter, every, mat, ◌!◌}
use Rattle.float.specs.Arith.{◌⊗◌, zero+, one, limit, finite, abs, sum_of}
use Rattle.matrix.specs.Matrix.{at, exponential, reach}
use Rattle.matrix.specs.Vector.{zeros, vec}
use Rattle.methods.specs.declared.Work.{Work}
use Rattle.methods.specs.declared.Tally.{Tally}
use Rattle.methods.specs.declared.Action.{Action}
use Rattle.methods.specs.declared.replay.Replay.{Replay}
use Rattle.methods.specs.declared.Reached.{Reached}
use Rattle.methods.specs.declared.Reached.TheVariants.{Question, End}
use Rattle.methods.specs.Tally.{Report, Tried, tested}
use Rattle.methods.specs.Phi.{checked, augmented_entry}
use Rattle.methods.specs.Pass.{Pass, Stand, fails, asks, ends, under, replay}
use Rattle.methods.specs.Step.{Progress, refused, asking, ended}

-- row i of scale_a times a, with one number behind it
unfoldable pub input_row : ℕ → List Float → Float → Float → ℕ → ℕ → Float
input_row n a scaleA input i j = cond (nat_lt j n) (scaleA ⊗ at a n i j) input

-- the first k rows of a matrix, and +0.0 below
unfoldable pub rows_to : ℕ → ℕ → (ℕ → ℕ → Float) → List Float
rows_to k size entry = mat size (λ i j. cond (nat_lt i k) (entry i j) zero+)

-- a one stored behind the diagonal in each of k rows, from row n on
unfoldable pub chained : ℕ → ℕ → ℕ → List Float → List Float
chained n size k o = iter k (λ j o. slice_set o ((n + j) * size + (n + j) + 1) one) o

-- a column of the exponential of the augmented matrix of this size
unfoldable pub phi_into : ℕ → List Float → Float → List Float → ℕ → ℕ → Tried
phi_into n a scaleA input size column =
    let m = mat size (augmented_entry n a scaleA input) in
    checked (reach m size) (vec n (λ i. at (exponential m size).entries size i column))

-- a row sum is finite and at most 2 ^ 31
unfoldable pub admitted_sum : Float → Bool
admitted_sum x = finite x && le x limit

-- the row sums of scale_a times a, with the input behind each row, are admitted
unfoldable pub input_admitted : ℕ → List Float → Float → List Float → Bool
input_admitted n a scaleA input = every n (λ i. admitted_sum (sum_of (n + 1) (λ j. abs (input_row n a scaleA (input ! i) i j))))

-- an action where it is wanted; otherwise whether it is admitted, alone: a pass that asks carries no sum
unfoldable pub if_wanted : Bool → Tried → Tried
if_wanted wanted k = cond wanted k (record { v = zeros; tally = tested k.tally.ok })

-- ---- counts as the code's 32 bits hold them: no pass comes near their end (`step_fits`, proofs/Shape.antt), so perform_step promises the counts themselves

-- a count
unfoldable pub word : ℕ → ℕ
word k = k % 2 ^ 32

-- a report
unfoldable pub narrow : Report → Report
narrow t = record { ok = t.ok; exponentials = word t.exponentials; terms = word t.terms; squarings = word t.squarings }

-- an action, with its report so
unfoldable pub narrowed : Tried → Tried
narrowed k = record { v = k.v; tally = narrow k.tally }

-- where a pass stands
unfoldable pub in32 : Stand → Stand
in32 fails = fails
in32 (asks x t) = asks x t
in32 (ends x e tally) = ends x e (narrow tally)

-- the work of a step
unfoldable pub narrow_work : Work → Work
narrow_work work = record { exponentials = word work.exponentials; products = word work.products }

-- where a step stands
unfoldable pub counted_in32 : Progress → Progress
counted_in32 refused = refused
counted_in32 (asking x t) = asking x t
counted_in32 (ended x e g work) = ended x e g (narrow_work work)

-- ---- the code's own values: it has no report of an exponential that is not admitted, since such a pass fails

-- a report whose tests held
abbrev pub report : Tally → Report
report t = record { ok = true; exponentials = t.exponentials; terms = t.terms; squarings = t.squarings }

-- its counts alone
abbrev pub counts : Report → Tally
counts t = record { exponentials = t.exponentials; terms = t.terms; squarings = t.squarings }

-- an action whose exponentials were admitted
abbrev pub taken : Action → Tried
taken k = record { v = k.v; tally = report k.tally }

-- what of it there is: none where one was not admitted
unfoldable pub made : Tried → Option Action
made p = cond p.tally.ok (Some (record { v = p.v; tally = counts p.tally })) None

-- where a pass stands
unfoldable pub stand : Option Reached → Stand
stand None = fails
stand (Some (Question x t)) = asks x t
stand (Some (End x e tally)) = ends x e (narrow (report tally))

-- a pass over the answers that a scheme is given, but for the first k of them
abbrev pub replay_from : Replay → ℕ → Pass → Stand
replay_from r zero pass = replay r.point.n pass r.count r.first r.answers.now
replay_from r (suc k) pass = replay r.point.n pass (r.count - suc k) (r.first + suc k) r.answers.now

-- what a scheme reaches from its k-th answer on, where its exponentials so far took `tally`
abbrev pub reached : Replay → ℕ → Tally → Pass → Stand
reached r k tally pass = in32 (under (report tally) (replay_from r k pass))
