-- `blocks::square` meets its contract. Assumes nothing.
use Rattle.std.proofs.Common.{arith, refl}
use Rattle.blocks.proofs.Rowwise.{no_rows, next_row, all_rows}
use Rattle.blocks.proofs.square.Goals as goal

pub loop-i-init : goal.loop-i-init
loop-i-init c = no_rows _ _ _ _ _ _ _ c.width.ensures c.requires.1 c.upper_product.ensures

pub loop-i-preserved : goal.loop-i-preserved
loop-i-preserved c = next_row _ _ _ _ _ _ _ _ _ _ (omega arith) c.tail-from.ensures.0 (omega arith) c.lower-all.ensures c.loop-i.invariant c.add_along.ensures

pub returns : goal.returns
returns c = all_rows _ _ _ _ _ _ _ _ _ (omega arith) c.lower-all.ensures refl c.loop-i.invariant c.square_lower.ensures
