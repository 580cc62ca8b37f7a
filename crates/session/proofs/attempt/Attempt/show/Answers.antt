-- `session::Attempt::show` meets its contract. Assumes nothing.
use Rattle.std.proofs.Common.{arith}
use Rattle.session.specs.Figures.{session_of}
use Rattle.session.proofs.Laws.{wanted-small, show_none, show_question, show_done}
use Rattle.session.proofs.attempt.Attempt.show.Goals as goal

pub overflow_cast-result : goal.overflow_cast-result
unfolding session_of
overflow_cast-result c =
    let sound = c.args.self.now.sound in omega (arith, sound.enough, wanted-small c.args.self.now.head.scheme c.args.self.now.head.n c.args.self.now.head.attempt sound.small)

pub copy_out-requires : goal.copy_out-requires
unfolding session_of
copy_out-requires c = omega (arith, c.args.self.now.sound.small, c.requires)

pub copy_out-requires-in-Done : goal.copy_out-requires-in-Done
unfolding session_of
copy_out-requires-in-Done c = omega (arith, c.args.self.now.sound.small, c.requires)

pub returns-in_err-x : goal.returns-in_err-x
returns-in_err-x c = λ old. rw c.from_residual.ensures (show_none old _ _ c.args.out.now _ c.in_err-x.ensures)

pub returns-in-Question : goal.returns-in-Question
unfolding session_of
returns-in-Question c = λ old. show_question old _ _ _ _ _ _ (rw c.in-Question.is at c.in_ok-x.ensures) c.requires c.copy_out.ensures

pub returns-in-Done : goal.returns-in-Done
unfolding session_of
returns-in-Done c = λ old. show_done old _ _ _ _ _ _ _ _ _ (rw c.in-Done.is at c.in_ok-x.ensures) c.requires c.copy_out-in-Done.ensures c.ready_of.ensures
