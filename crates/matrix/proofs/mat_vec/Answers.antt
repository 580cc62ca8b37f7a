-- `matrix::mat_vec` meets its contract: the first i entries are the rows' sums. Assumes nothing.
use Rattle.std.proofs.Common.{arith, ◌∙◌}
use Rattle.std.proofs.Math.ListN.{length-set}
use Rattle.matrix.specs.Vector.{mat_vec}
use Rattle.matrix.proofs.Products.{row_sum_of}
use Rattle.matrix.proofs.Vectors.{vec_none, vec_call, vec_end}
use Rattle.matrix.proofs.mat_vec.Goals as goal

pub loop-i-init : goal.loop-i-init
loop-i-init c = (omega arith, vec_none _)

pub loop-i-preserved : goal.loop-i-preserved
loop-i-preserved c = (simp length-set (omega arith), vec_call _ _ _ _ c.loop-i.invariant.1 (omega arith) (c.row_dot.ensures ∙ row_sum_of _ _ _ _ _ c.row.ensures.value c.row.ensures.len))

pub returns : goal.returns
unfolding mat_vec
returns c = vec_end _ _ _ _ c.loop-i.invariant.1 (omega arith)
