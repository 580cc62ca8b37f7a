-- `wire::get_doubles`: the doubles before the index are read. Assumes nothing.
use Rattle.std.proofs.Common.{◌*◌}
use Rattle.wire.specs.Wire.{Takes}
use Rattle.wire.proofs.Doubles.{HoldsFirst}
use Rattle.wire.proofs.get_doubles.Given as goal

abbrev pub invariant-loop-y : goal.invariant-loop-y
invariant-loop-y g l = Takes (8 * l.y-index) (HoldsFirst l.y-index l.x) (g.R.Read.remaining l.initial.input) (g.R.Read.remaining l.input)
