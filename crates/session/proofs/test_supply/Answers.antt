-- `session::test_supply` meets its contract. Assumes nothing.
use Rattle.session.specs.declared.Refusal.TheVariants as Why
use Rattle.std.proofs.Common.{false, refl, sym, ◌∙◌, eq-eqb, ne_eqb}
use Rattle.std.proofs.Math.Bool.{and-false}
use Rattle.session.proofs.Tests.{passed_on, stops}
use Rattle.session.specs.Calls.{supply_tests, vector_tests}
use Rattle.session.specs.Figures.{session_of}
use Rattle.session.proofs.Laws.{session_then, session_fails}
use Rattle.session.proofs.test_supply.Goals as goal

pub returns-in_err-test_session : goal.returns-in_err-test_session
unfolding supply_tests session_of
returns-in_err-test_session c = passed_on _ _ c.from_residual.ensures.1 ∙ session_fails _ _ _ c.test_session.ensures c.in_err-test_session.was

pub returns-then-lent-k : goal.returns-then-lent-k
unfolding supply_tests vector_tests session_of
returns-then-lent-k c =
    session_then _ _ _ c.test_session.ensures c.in_ok-test_session.was
    (stops {b = false} Why.Places _ (sym (rw (ne_eqb _ _ c.if-lent-k.true) (and-false _))) refl)

pub returns : goal.returns
unfolding supply_tests session_of
returns c = rw (eq-eqb _ _ c.if-lent-k.false) (session_then _ _ _ c.test_session.ensures c.in_ok-test_session.was c.test_vector.ensures)
