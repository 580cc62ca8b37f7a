-- `matrix::kernel::strip` meets its contract. Assumes nothing.
use Rattle.std.proofs.Common.{refl, sym, zero-add, zero-le, arith}
use Rattle.matrix.proofs.Framed.{framed_no_columns, more_columns}
use Rattle.matrix.proofs.kernel.strip.Goals as goal

pub loop-from-init : goal.loop-from-init
loop-from-init g c = (zero-le, framed_no_columns _ _ _ _ _ _ _ (omega arith))

pub loop-from-preserved : goal.loop-from-preserved
loop-from-preserved g c = (omega arith, more_columns _ _ _ _ _ _ _ _ _ _ _ _ _ (sym (zero-add _)) refl c.loop-from.invariant.1 c.put.ensures)

pub returns-in-1 : goal.returns-in-1
returns-in-1 g c = more_columns _ _ _ _ _ _ _ _ _ _ _ _ _ (sym (zero-add _)) (omega (arith, c.in-1.is)) c.loop-from.invariant.1 c.put-in-1.ensures

pub returns-in-2 : goal.returns-in-2
returns-in-2 g c = more_columns _ _ _ _ _ _ _ _ _ _ _ _ _ (sym (zero-add _)) (omega (arith, c.in-2.is)) c.loop-from.invariant.1 c.put-in-2.ensures

pub returns-in-3 : goal.returns-in-3
returns-in-3 g c = more_columns _ _ _ _ _ _ _ _ _ _ _ _ _ (sym (zero-add _)) (omega (arith, c.in-3.is)) c.loop-from.invariant.1 c.put-in-3.ensures
