-- `methods::Square::augmented_rows`: a turn for each row of a. Assumes nothing.
use Rattle.std.proofs.Common.{arith}
use Rattle.loops.proofs.Places.{row_small}
use Rattle.methods.proofs.Augmented.{rows_length, rows_end, row_step}
use Rattle.methods.proofs.square.Square.augmented_rows.Goals as goal

pub loop-i-init : goal.loop-i-init
loop-i-init c =
    (omega arith, rows_length _ _ 0 _ c.requires.out_value, rows_length _ _ 0 _ c.requires.out_value, c.requires.out_value)

pub overflow_mul-i : goal.overflow_mul-i
overflow_mul-i c = omega (arith, row_small c.loop-i.i c.args.size 20 (omega arith) (omega arith))

pub augmented_row-requires : goal.augmented_row-requires
augmented_row-requires c =
    let row = row_small c.loop-i.i c.args.size 20 (omega arith) (omega arith) in
    (omega arith, omega arith)

pub loop-i-preserved : goal.loop-i-preserved
loop-i-preserved c = (omega arith, omega arith, omega arith, row_step _ _ _ _ _ _ _ _ (omega arith) (omega arith) c.loop-i.invariant.3 c.augmented_row.ensures)

pub returns : goal.returns
returns c = rows_end _ _ _ _ _ c.loop-i.invariant.3 (omega arith)
