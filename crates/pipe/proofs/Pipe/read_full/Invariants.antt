-- `pipe::Pipe::read_full`: what was read stands at the start of b, and the reader has lost just that. Assumes nothing.
use Rattle.std.proofs.Common.{◌≡◌, ◌-◌, ◌≤◌, length, take}
use Rattle.std.specs.Io.KnownBytes.{Consumes}
use Rattle.pipe.proofs.Pipe.read_full.Given as goal

abbrev pub invariant-loop-done : goal.invariant-loop-done
invariant-loop-done g l = (l.done ≤ length l.b) × (l.self.output ≡ l.initial.self.output)
    × Consumes (g.R.Read.remaining l.initial.self.input) (g.R.Read.remaining l.self.input) (take l.done l.b)

abbrev pub decreases-loop-done : goal.decreases-loop-done
decreases-loop-done g l = length l.initial.b - l.done
