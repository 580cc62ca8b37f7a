-- `methods::Square::augmented_rows`: a turn for each row of a. Assumes nothing.
use Rattle.std.proofs.Common.{◌≡◌, ◌*◌, ◌≤◌, length}
use Rattle.methods.specs.Phi.{augmented_entry}
use Rattle.methods.specs.Parts.{rows_to}
use Rattle.methods.proofs.square.Square.augmented_rows.Given as goal

abbrev pub invariant-loop-i : goal.invariant-loop-i
invariant-loop-i l = (l.i ≤ l.fn.self.n) × (length l.initial.out ≡ l.size * l.size) × (length l.out ≡ l.size * l.size)
    × (l.out ≡ rows_to l.i l.size (augmented_entry l.fn.self.n l.fn.self.entries.now l.scale_a l.input))
