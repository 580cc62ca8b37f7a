-- `matrix::kernel::rows_product` meets its contract. Assumes nothing.
use Rattle.std.proofs.Common.{refl, sym, zero-add, zero-le, arith}
use Rattle.matrix.proofs.Framed.{framed_no_rows, more_rows}
use Rattle.matrix.proofs.kernel.rows_product.Goals as goal

pub loop-i-init : goal.loop-i-init
loop-i-init c = (zero-le, framed_no_rows _ _ _ _ _ _ _ (omega arith))

pub loop-i-preserved : goal.loop-i-preserved
loop-i-preserved c = (omega arith, more_rows _ _ _ _ _ _ _ _ _ _ _ _ _ (sym (zero-add _)) refl c.loop-i.invariant.1 c.strip_at.ensures)

pub returns-in-1 : goal.returns-in-1
returns-in-1 c = more_rows _ _ _ _ _ _ _ _ _ _ _ _ _ (sym (zero-add _)) (omega (arith, c.in-1.is)) c.loop-i.invariant.1 c.strip_at-in-1.ensures

pub returns-in-2 : goal.returns-in-2
returns-in-2 c = more_rows _ _ _ _ _ _ _ _ _ _ _ _ _ (sym (zero-add _)) (omega (arith, c.in-2.is)) c.loop-i.invariant.1 c.strip_at-in-2.ensures

pub returns-in-3 : goal.returns-in-3
returns-in-3 c = more_rows _ _ _ _ _ _ _ _ _ _ _ _ _ (sym (zero-add _)) (omega (arith, c.in-3.is)) c.loop-i.invariant.1 c.strip_at-in-3.ensures
