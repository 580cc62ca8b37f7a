-- `methods::chain`: a one in each row. Assumes nothing.
use Rattle.std.proofs.Common.{◌≡◌, ◌-◌, ◌≤◌, length}
use Rattle.methods.specs.Parts.{chained}
use Rattle.methods.proofs.square.chain.Given as goal

abbrev pub invariant-loop-i : goal.invariant-loop-i
invariant-loop-i l = (l.i-end ≡ l.size - 1) × (l.n ≤ l.i) × (l.i ≤ l.i-end) × (length l.out ≡ length l.initial.out) × (l.out ≡ chained l.n l.size (l.i - l.n) l.initial.out)

abbrev pub decreases-loop-i : goal.decreases-loop-i
decreases-loop-i l = l.i-end - l.i
