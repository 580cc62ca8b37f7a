-- `matrix::vector`: a turn for each place in use. Assumes nothing.
use Rattle.std.proofs.Common.{◌≡◌, ◌≤◌, ◌<◌, ℕ, Float}
use Rattle.matrix.specs.Vector.{vec}
use Rattle.matrix.proofs.dimension.vector.Given as goal

abbrev pub invariant-loop-i : goal.invariant-loop-i
invariant-loop-i g l =
    (l.i ≤ l.fn.n) × ((f : ℕ → Float) → ((i : ℕ) (x : Float) → i < l.fn.n → goal.F-post g l.entry i x → x ≡ f i) → l.out ≡ vec l.i f)
