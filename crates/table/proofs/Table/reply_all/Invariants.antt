-- `table::Table::reply_all`: so many answers. Assumes nothing.
use Rattle.std.proofs.Common.{◌≤◌, ◌≡◌, length}
use Rattle.session.specs.Calls.{outcome}
use Rattle.session.specs.Lent.{told_by}
use Rattle.table.specs.Whole.{answers}
use Rattle.table.proofs.Table.reply_all.Given as goal

abbrev pub invariant-loop : goal.invariant-loop
invariant-loop l =
    (l.counter ≤ l.wanted) × (l.self.n ≤ length l.room)
    × (outcome (told_by l.left l.figures) l.room ≡ answers l.self.n l.self.bytes.now l.counter (outcome (told_by l.initial.left l.initial.figures) l.initial.room))
