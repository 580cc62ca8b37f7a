-- `session::test_first_step` meets its contract. Assumes nothing.
use Rattle.std.proofs.Common.{◌∙◌}
use Rattle.session.proofs.Tests.{passed_on}
use Rattle.session.specs.Calls.{first_step_tests}
use Rattle.session.specs.Figures.{session_of}
use Rattle.session.proofs.Laws.{session_then, session_fails}
use Rattle.session.proofs.test_first_step.Goals as goal

pub returns-in_err-test_session : goal.returns-in_err-test_session
unfolding first_step_tests session_of
returns-in_err-test_session c = passed_on _ _ c.from_residual.ensures.1 ∙ session_fails _ _ _ c.test_session.ensures c.in_err-test_session.was

pub returns : goal.returns
unfolding first_step_tests session_of
returns c = session_then _ _ _ c.test_session.ensures c.in_ok-test_session.was c.test_largest.ensures
