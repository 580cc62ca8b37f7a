-- `table::Table::step` meets its contract. Assumes nothing.
use Rattle.table.proofs.Steps.{step_made, take-zeros}
use Rattle.table.proofs.Table.step.Goals as goal

pub returns : goal.returns
returns c =
    let s = c.args.self.now in
    step_made c.args.k c.args.figures.now s.bytes.now c.args.step c.requires (rw c.get.ensures.value (take-zeros s.n 16 s.small)) c.wanted-wanted.ensures.0
    c.begin_over-left.ensures c.reply_all.ensures c.accept.ensures
