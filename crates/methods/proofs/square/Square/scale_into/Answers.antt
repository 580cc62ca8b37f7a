-- `methods::Square::scale_into`: a turn for each place of the matrix. Assumes nothing.
use Rattle.std.proofs.Common.{arith, length-set}
use Rattle.loops.proofs.Loops.{fill_none, fill_call}
use Rattle.loops.proofs.Places.{mat_all}
use Rattle.methods.proofs.Laws.{scale_at}
use Rattle.std.specs.Float.Ieee.{nan}
use Rattle.methods.proofs.square.Square.scale_into.Goals as goal

pub loop-p-init : goal.loop-p-init
loop-p-init c = (omega arith, omega arith, omega arith, fill_none _ _)

pub loop-p-preserved : goal.loop-p-preserved
loop-p-preserved c = (
  omega arith,
  omega arith,
  simp length-set (omega arith),
  fill_call nan _ _ _ _ _ c.loop-p.invariant.3 (omega arith) (scale_at _ c.args.self.now.entries.now c.args.self.now.n c.loop-p.p),
)

pub returns : goal.returns
returns c = mat_all _ _ _ _ _ c.loop-p.invariant.3 (omega arith) (omega arith)
