-- `matrix::kernel::Rows::norm` meets its contract: the first i rows are admitted, and the largest of their sums is kept. Assumes nothing.
use Rattle.std.proofs.Common.{arith, sym, true, ◌∙◌}
use Rattle.loops.proofs.Loops.{every_none, every_step, every_end, every_fails}
use Rattle.float.proofs.Sums.{most_none, most_step, most_end}
use Rattle.matrix.specs.Calls.{rows_admitted, rows_norm}
use Rattle.matrix.proofs.Products.{row_abs}
use Rattle.matrix.proofs.kernel.Rows.norm.Goals as goal

pub loop-i-init : goal.loop-i-init
loop-i-init c = (sym (every_none _), most_none _ _)

pub returns-then-not-finite-sum : goal.returns-then-not-finite-sum
unfolding rows_admitted
returns-then-not-finite-sum c =
    let e = c.row_sum-sum.ensures ∙ row_abs _ _ _ _ c.row.ensures.value c.row.ensures.len in
    every_fails _ _ c.loop-i.i (omega arith) (rw (← e, ← c.finite.ensures) c.if-not-finite-sum.true)

pub loop-i-preserved : goal.loop-i-preserved
loop-i-preserved c =
    let e = c.row_sum-sum.ensures ∙ row_abs _ _ _ _ c.row.ensures.value c.row.ensures.len in
    (sym (every_step _ _ true _ (sym c.loop-i.invariant.0) (rw (c.finite.ensures, e))) ∙ c.if-not-finite-sum.false, most_step _ _ _ _ _ _ c.loop-i.invariant.1 e c.larger-norm.ensures)

pub returns : goal.returns
unfolding rows_admitted rows_norm
returns c = (sym (every_end _ _ _ _ (sym c.loop-i.invariant.0) (omega arith)), most_end _ _ _ _ _ c.loop-i.invariant.1 (omega arith))
