-- `session::test_vector` meets its contract. Assumes nothing.
use Rattle.session.specs.declared.Refusal.TheVariants as Why
use Rattle.std.proofs.Common.{not, sym, ap, ◌∙◌}
use Rattle.std.proofs.Math.Bool.{and-true}
use Rattle.session.specs.Calls.{vector_tests}
use Rattle.session.proofs.Tests.{stops, holds_on, all_hold}
use Rattle.session.proofs.test_vector.Goals as goal

pub returns-then-not-clear : goal.returns-then-not-clear
unfolding vector_tests
returns-then-not-clear c = stops Why.Places _ (c.clear.ensures ∙ sym (and-true _)) (ap not c.if-not-clear.true)

pub returns-then-not-all_finite : goal.returns-then-not-all_finite
unfolding vector_tests
returns-then-not-all_finite c =
    holds_on Why.Places _ (c.clear.ensures ∙ sym (and-true _)) (ap not c.if-not-clear.false)
    (stops Why.NotFinite _ c.all_finite.ensures (ap not c.if-not-all_finite.true))

pub returns : goal.returns
unfolding vector_tests
returns c =
    holds_on Why.Places _ (c.clear.ensures ∙ sym (and-true _)) (ap not c.if-not-clear.false)
    (holds_on Why.NotFinite _ c.all_finite.ensures (ap not c.if-not-all_finite.false) all_hold)
