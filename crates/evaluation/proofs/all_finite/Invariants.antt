-- `evaluation::all_finite` meets its contract: the two sums tell of the places passed. Assumes nothing.
use Rattle.std.proofs.Common.{◌*◌}
use Rattle.float.specs.Arith.{finite}
use Rattle.loops.specs.Loop.{◌!◌}
use Rattle.evaluation.proofs.Sums.{Halves}
use Rattle.evaluation.proofs.all_finite.Given as goal

abbrev pub invariant-loop-eight : goal.invariant-loop-eight
invariant-loop-eight l = Halves (λ q. finite (l.x ! q)) (8 * l.eight-index) l.even l.odd
