-- `blocks::multiply` meets its contract. Assumes nothing.
use Rattle.std.proofs.Common.{arith, refl}
use Rattle.blocks.proofs.Shiftwise.{not_shifted, next_shifted, all_shifted, one_lower}
use Rattle.blocks.proofs.multiply.Goals as goal

pub loop-i-init : goal.loop-i-init
loop-i-init c = not_shifted _ _ _ _ c.requires.len.0 c.requires.finite c.requires.shifting _ _ _ c.lower-all.ensures c.args.s.few.0 c.requires.len.2 c.upper_product.ensures

pub loop-i-preserved : goal.loop-i-preserved
loop-i-preserved c =
    next_shifted _ _ _ _ c.requires.len.0 c.requires.finite c.requires.shifting _ _ _ _ _ _ (omega arith) c.tail-from.ensures.0 (omega arith) c.lower-all.ensures c.loop-i.invariant c.shift_row.ensures

pub returns-after-loop-i : goal.returns-after-loop-i
returns-after-loop-i c =
    all_shifted _ _ _ _ c.requires.len.0 c.requires.finite c.requires.shifting _ _ _ _ _ (omega arith) c.lower-all.ensures refl c.loop-i.invariant c.shift_row-then-s-gt1.ensures

pub returns-else-s-gt1 : goal.returns-else-s-gt1
returns-else-s-gt1 c =
    let s = not_shifted _ _ _ _ c.requires.len.0 c.requires.finite c.requires.shifting _ _ _ c.lower-all.ensures c.args.s.few.0 c.requires.len.2 c.upper_product.ensures in
    one_lower _ _ _ _ c.requires.len.0 c.requires.finite c.requires.shifting _ (omega arith) s
