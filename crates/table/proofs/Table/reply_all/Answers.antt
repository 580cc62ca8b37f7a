-- `table::Table::reply_all` meets its contract. Assumes nothing.
use Rattle.std.proofs.Common.{arith}
use Rattle.table.proofs.Steps.{answers_none, answers-more, answers_end}
use Rattle.table.proofs.Table.reply_all.Goals as goal

pub loop-init : goal.loop-init
loop-init c = (omega arith, c.requires, answers_none _ _ _)

pub loop-preserved : goal.loop-preserved
loop-preserved c = (omega arith, omega (arith, c.reply.auto.room, c.loop.invariant.1), answers-more _ _ _ _ c.loop.invariant.2 c.reply.ensures)

pub returns : goal.returns
returns c = answers_end _ _ _ _ _ c.loop.invariant.2 (omega arith)
