-- `session::test_largest` meets its contract. Assumes nothing.
use Rattle.session.specs.declared.Refusal.TheVariants as Why
use Rattle.std.proofs.Common.{ap, not, refl}
use Rattle.session.specs.Calls.{largest_tests}
use Rattle.session.proofs.Tests.{stops, holds_on, all_hold}
use Rattle.session.proofs.test_largest.Goals as goal

pub returns-then-not-largest : goal.returns-then-not-largest
unfolding largest_tests
returns-then-not-largest c = stops Why.Step _ refl (ap not c.if-not-largest.true)

pub returns : goal.returns
unfolding largest_tests
returns c = holds_on Why.Step _ refl (ap not c.if-not-largest.false) all_hold
