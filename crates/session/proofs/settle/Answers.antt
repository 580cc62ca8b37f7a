-- `session::settle` meets its contract. Assumes nothing.
use Rattle.std.proofs.Common.{ap}
use Rattle.std.specs.Prelude.{None}
use Rattle.session.specs.Lent.{told_by}
use Rattle.session.proofs.Laws.{passed_sound, settle_none, settle_question, settle_done}
use Rattle.session.proofs.settle.Goals as goal

pub invariant_of-tried : goal.invariant_of-tried
invariant_of-tried c = record { sound = passed_sound None _ c.requires }

pub returns-in_default : goal.returns-in_default
returns-in_default c = settle_none _ _ _ _ c.in_default.ensures (ap (λ l. told_by l c.args.figures.now) c.refused.ensures)

pub returns-in-Question : goal.returns-in-Question
returns-in-Question c =
    settle_question _ _ _ _ _ _ (rw c.in-Question.is at c.in-Some.ensures) (ap (λ l. told_by l c.args.figures.now) c.refused-in-Question.ensures)

pub returns-in-Done : goal.returns-in-Done
returns-in-Done c = settle_done _ _ _ _ _ _ _ _ (rw c.in-Done.is at c.in-Some.ensures) c.arrive.ensures
