-- `methods::Square::augmented_row`: a turn for each place of the row of a, and the input behind it. Assumes nothing.
use Rattle.std.proofs.Common.{refl, arith, length-set}
use Rattle.loops.proofs.Loops.{stores_none}
use Rattle.methods.specs.Vectors.{Sized}
use Rattle.methods.proofs.Laws.{row_inside}
use Rattle.methods.proofs.Augmented.{input_step, input_end}
use Rattle.methods.proofs.square.Square.augmented_row.Goals as goal

pub overflow_mul-from : goal.overflow_mul-from
overflow_mul-from c =
    let s : Sized c.get-n.result c.args.self.now.entries.now = rw c.get-n.ensures.value c.args.self.now.sized in
    omega (arith, row_inside s c.args.i (omega (arith, c.requires, c.get-n.ensures)))

pub loop-j-init : goal.loop-j-init
loop-j-init c =
    let s : Sized c.get-n.result c.args.self.now.entries.now = rw c.get-n.ensures.value c.args.self.now.sized in
    (refl, (row_inside s c.args.i (omega (arith, c.requires, c.get-n.ensures))).0, omega arith, omega arith, stores_none _ _ _)

pub loop-j-preserved : goal.loop-j-preserved
loop-j-preserved c = (
  c.loop-j.invariant.0,
  omega arith,
  omega arith,
  simp length-set (omega arith),
  input_step _ _ _ _ _ _ c.loop-j.invariant.0 _ _ _ _ (omega arith) c.loop-j.invariant.4,
)

pub shape_of-out : goal.shape_of-out
shape_of-out c = simp length-set (omega arith)

pub returns : goal.returns
returns c = rw (← c.get-n.ensures.value) (input_end _ _ _ _ _ _ c.loop-j.invariant.0 _ _ _ _ (omega arith) c.loop-j.invariant.4)
