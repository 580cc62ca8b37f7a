-- `methods::chain`: a one in each row. Assumes nothing.
use Rattle.std.proofs.Common.{arith, length-set}
use Rattle.loops.proofs.Places.{row_small}
use Rattle.methods.proofs.Augmented.{chained-first, chained_step, chained_end}
use Rattle.methods.proofs.square.chain.Goals as goal

pub loop-i-init : goal.loop-i-init
loop-i-init c = (omega arith, omega arith, omega arith, omega arith, chained-first _ _ _)

pub overflow_mul-out : goal.overflow_mul-out
overflow_mul-out c = omega (arith, row_small c.loop-i.i c.args.size 20 (omega arith) (omega arith))

pub overflow_add-out : goal.overflow_add-out
overflow_add-out c = omega (arith, row_small c.loop-i.i c.args.size 20 (omega arith) (omega arith))

pub overflow_add-out-in-loop-i : goal.overflow_add-out-in-loop-i
overflow_add-out-in-loop-i c = omega (arith, row_small c.loop-i.i c.args.size 20 (omega arith) (omega arith))

pub offset_bounds-out-i : goal.offset_bounds-out-i
offset_bounds-out-i c = omega (arith, row_small c.loop-i.i c.args.size 20 (omega arith) (omega arith))

pub bounds-out-i : goal.bounds-out-i
bounds-out-i c = omega (arith, row_small c.loop-i.i c.args.size 20 (omega arith) (omega arith))

pub loop-i-preserved : goal.loop-i-preserved
loop-i-preserved c = (omega arith, omega arith, omega arith, simp length-set (omega arith), chained_step _ _ _ _ _ (omega arith) c.loop-i.invariant.4)

pub returns : goal.returns
returns c = chained_end _ _ _ _ _ _ c.loop-i.invariant.4 (omega arith)
