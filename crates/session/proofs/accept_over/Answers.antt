-- `session::accept_over` meets its contract. Assumes nothing.
use Rattle.std.proofs.Common.{sym, ◌∙◌}
use Rattle.std.specs.Prelude.{Some}
use Rattle.session.specs.declared.Phase.TheVariants.{Waiting}
use Rattle.session.specs.Tests.{unless}
use Rattle.session.specs.Calls.{accept_call}
use Rattle.session.proofs.Laws.{accept_passes}
use Rattle.session.proofs.Writes.{passes_any}
use Rattle.session.proofs.accept_over.Goals as goal

pub settle-requires : goal.settle-requires
settle-requires c = passes_any (Some Waiting) _ (accept_passes _ _ (sym c.test_accept.ensures ∙ c.in_default.is)).0

pub returns-in-Err : goal.returns-in-Err
unfolding accept_call unless
returns-in-Err c = rw (← c.test_accept.ensures, c.in-Err.is, c.refused.ensures)

pub returns : goal.returns
unfolding accept_call unless
returns c = rw (← c.test_accept.ensures, c.in_default.is) c.settle.ensures
