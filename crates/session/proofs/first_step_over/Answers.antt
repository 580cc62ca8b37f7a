-- `session::first_step_over` meets its contract. Assumes nothing.
use Rattle.std.proofs.Common.{sym, ◌∙◌}
use Rattle.std.specs.Prelude.{None}
use Rattle.session.specs.Tests.{unless}
use Rattle.session.specs.Figures.{session_of}
use Rattle.session.specs.Calls.{first_step_call}
use Rattle.session.proofs.Tests.{passed_on}
use Rattle.session.proofs.Laws.{first_step_passes, passed_sound}
use Rattle.session.proofs.first_step_over.Goals as goal

pub returns-in_err-test_first_step : goal.returns-in_err-test_first_step
unfolding first_step_call unless
returns-in_err-test_first_step c = rw (← c.test_first_step.ensures, c.in_err-test_first_step.was, passed_on _ _ c.from_residual.ensures.1)

pub new-requires : goal.new-requires
unfolding session_of
new-requires c = (passed_sound None _ (first_step_passes _ _ (sym c.test_first_step.ensures ∙ c.in_ok-test_first_step.was))).small

pub returns : goal.returns
unfolding first_step_call unless session_of
returns c = rw (← c.test_first_step.ensures, c.in_ok-test_first_step.was, c.estimate_initial_step.ensures, c.new.ensures, c.part.ensures, c.part-2.ensures, c.part-3.ensures)
