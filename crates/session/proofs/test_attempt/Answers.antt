-- `session::test_attempt` meets its contract. Assumes nothing.
use Rattle.session.specs.declared.Refusal.TheVariants as Why
use Rattle.std.proofs.Common.{not, ap, ◌&&◌, eqb}
use Rattle.session.specs.Calls.{attempt_tests}
use Rattle.session.proofs.Tests.{stops, holds_on, all_hold}
use Rattle.session.proofs.test_attempt.Goals as goal

pub returns-then-not-clear-lent : goal.returns-then-not-clear-lent
unfolding attempt_tests
returns-then-not-clear-lent c =
    rw (← c.used_jacobian-used.ensures, ← c.get.ensures.value)
    (stops Why.Places _ (ap (λ b. b && eqb c.args.lent c.get.result) c.clear.ensures) (ap not c.if-not-clear-lent.true))

pub returns-then-not-step_ok : goal.returns-then-not-step_ok
unfolding attempt_tests
returns-then-not-step_ok c =
    rw (← c.used_jacobian-used.ensures, ← c.get.ensures.value) (holds_on Why.Places _ (ap (λ b. b && eqb c.args.lent c.get.result) c.clear.ensures) (ap not c.if-not-clear-lent.false)
    (stops Why.Step _ c.step_ok.ensures (ap not c.if-not-step_ok.true)))

pub returns-then-not-finite : goal.returns-then-not-finite
unfolding attempt_tests
returns-then-not-finite c =
    rw (← c.used_jacobian-used.ensures, ← c.get.ensures.value) (holds_on Why.Places _ (ap (λ b. b && eqb c.args.lent c.get.result) c.clear.ensures) (ap not c.if-not-clear-lent.false)
    (holds_on Why.Step _ c.step_ok.ensures (ap not c.if-not-step_ok.false) (stops Why.NotFinite _ c.finite.ensures (ap not c.if-not-finite.true))))

pub returns : goal.returns
unfolding attempt_tests
returns c =
    rw (← c.used_jacobian-used.ensures, ← c.get.ensures.value) (holds_on Why.Places _ (ap (λ b. b && eqb c.args.lent c.get.result) c.clear.ensures) (ap not c.if-not-clear-lent.false)
    (holds_on Why.Step _ c.step_ok.ensures (ap not c.if-not-step_ok.false) (holds_on Why.NotFinite _ c.finite.ensures (ap not c.if-not-finite.false) all_hold)))
