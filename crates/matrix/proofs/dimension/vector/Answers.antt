-- `matrix::vector`: each entry is what the closure gives at its place. Assumes nothing.
use Rattle.std.proofs.Common.{arith}
use Rattle.matrix.proofs.Vectors.{vec_none, vec_call}
use Rattle.matrix.proofs.dimension.vector.Goals as goal

pub loop-i-init : goal.loop-i-init
loop-i-init g c = (omega arith, λ f e. vec_none f)

pub loop-i-preserved : goal.loop-i-preserved
loop-i-preserved g c =
    (omega arith, λ f e. vec_call f c.loop-i.i c.loop-i.out c.entry.result (c.loop-i.invariant.1 f e) (omega arith) (e c.loop-i.i c.entry.result (omega arith) c.entry.ensures))
