-- `session::test_begin` meets its contract. Assumes nothing.
use Rattle.std.specs.Prelude.{Some}
use Rattle.session.proofs.Tests.{passed_on}
use Rattle.std.proofs.Common.{sym, ◌∙◌}
use Rattle.session.specs.declared.Phase.TheVariants.{Rest}
use Rattle.session.specs.Calls.{begin_tests}
use Rattle.session.specs.Figures.{session_of}
use Rattle.session.proofs.Laws.{passed_sound, session_then, session_fails}
use Rattle.session.proofs.test_begin.Goals as goal

pub new-requires : goal.new-requires
unfolding session_of
new-requires c = (passed_sound (Some Rest) _ (sym c.test_session.ensures ∙ c.in_ok-test_session.was)).small

pub returns-in_err-test_session : goal.returns-in_err-test_session
unfolding begin_tests session_of
returns-in_err-test_session c = passed_on _ _ c.from_residual.ensures.1 ∙ session_fails _ _ _ c.test_session.ensures c.in_err-test_session.was

pub returns : goal.returns
unfolding begin_tests session_of
returns c = session_then _ _ _ c.test_session.ensures c.in_ok-test_session.was (rw c.new.ensures at c.test_attempt.ensures)
