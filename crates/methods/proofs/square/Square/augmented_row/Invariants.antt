-- `methods::Square::augmented_row`: a turn for each place of the row of a, and the input behind it. Assumes nothing.
use Rattle.std.proofs.Common.{◌≡◌, ◌+◌, ◌*◌, ◌≤◌, length}
use Rattle.loops.specs.Loop.{stores}
use Rattle.methods.specs.Parts.{input_row}
use Rattle.methods.proofs.square.Square.augmented_row.Given as goal

abbrev pub invariant-loop-j : goal.invariant-loop-j
invariant-loop-j l =
    (l.from ≡ l.i * l.n) × (l.from + l.n ≤ length l.fn.self.entries.now) × (l.j ≤ l.n) × (length l.out ≡ length l.initial.out) × (l.out ≡ stores
    (λ j x. input_row l.n l.fn.self.entries.now l.scale_a l.input l.i j) l.to l.j l.initial.out)
