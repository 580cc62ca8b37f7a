-- `session::error_norm` meets its contract. Assumes nothing.
use Rattle.std.proofs.Common.{sym, ◌∙◌}
use Rattle.session.specs.Tests.{unless}
use Rattle.session.specs.Bare.{norm_call}
use Rattle.session.proofs.Tests.{passed_on}
use Rattle.session.proofs.Laws.{norm_sized}
use Rattle.session.proofs.error_norm.Goals as goal

pub new-n-requires : goal.new-n-requires
unfolding norm_call unless
new-n-requires c = (norm_sized _ _ _ _ _ _ (sym c.test_norm.ensures ∙ c.in_ok-test_norm.was)).1

pub scaled_error_norm-requires : goal.scaled_error_norm-requires
unfolding norm_call unless
scaled_error_norm-requires c = rw c.new-n.ensures (norm_sized _ _ _ _ _ _ (sym c.test_norm.ensures ∙ c.in_ok-test_norm.was)).0

pub returns : goal.returns
unfolding norm_call unless
returns c = rw (← c.test_norm.ensures, c.in_ok-test_norm.was, c.scaled_error_norm.ensures, c.new-n.ensures)

pub returns-in_err-test_norm : goal.returns-in_err-test_norm
unfolding norm_call unless
returns-in_err-test_norm c = rw (← c.test_norm.ensures, c.in_err-test_norm.was, passed_on _ _ c.from_residual.ensures.1)
