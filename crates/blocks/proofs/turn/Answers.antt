-- `blocks::turn` meets its contract: it is that of the whole matrix. Assumes nothing.
use Rattle.std.proofs.Common.{arith}
use Rattle.blocks.proofs.Turns.{product_held, turn_low, turn_held}
use Rattle.blocks.proofs.turn.Goals as goal

pub add_term-requires-clause-low : goal.add_term-requires-clause-low
add_term-requires-clause-low c =
    let r = c.requires in
    turn_low _ _ _ _ _ _ _ r.some (omega arith) r.len.1 (product_held _ _ _ _ _ r.len.2 r.len.0 r.finite.0 r.finite.1 c.multiply.ensures) r.low

pub returns-clause-turned : goal.returns-clause-turned
returns-clause-turned c =
    let r = c.requires in
    turn_held _ _ _ _ _ _ _ r.some (omega arith) r.len.1 (product_held _ _ _ _ _ r.len.2 r.len.0 r.finite.0 r.finite.1 c.multiply.ensures) _ _ _ (omega arith) (omega arith) c.add_term.ensures
