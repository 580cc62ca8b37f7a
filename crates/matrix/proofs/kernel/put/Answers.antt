-- `matrix::kernel::put` meets its contract. Assumes nothing.
use Rattle.std.proofs.Common.{◌≡◌, refl, sym, zero-add, [], ◌∙◌, arith}
use Rattle.loops.proofs.Loops.{get_or-tab}
use Rattle.matrix.proofs.Framed.{framed_no_rows, more_rows, row_put, length-framed}
use Rattle.matrix.proofs.kernel.put.Goals as goal

pub loop-r-init : goal.loop-r-init
loop-r-init g c = framed_no_rows _ _ _ _ _ _ _ (omega arith)

pub loop-r-preserved : goal.loop-r-preserved
loop-r-preserved g c =
    more_rows _ _ _ _ _ _ _ _ _ _ _ _ _ (sym (zero-add _)) refl c.loop-r.invariant
    (row_put _ _ _ _ _ _ _ _ _ _ (rw c.loop-r.invariant (length-framed _ _ _ _ _ _ _ _)) c.loop-r-test.true (omega arith) c.span-start.ensures.0 (omega arith)
    (c.put_row.ensures ∙ rw c.block-sums.ensures (get_or-tab [] _ _ _ c.loop-r-test.true)))

pub returns : goal.returns
returns g c = let e : c.loop-r.r ≡ g.row.R = omega arith in rw e at c.loop-r.invariant
