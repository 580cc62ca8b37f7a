-- `session::test_session` meets its contract. Assumes nothing.
use Rattle.session.specs.declared.Refusal.TheVariants as Why
use Rattle.std.proofs.Common.{◌≡◌, true, not, ap, sym, ◌∙◌}
use borrow.Author.Tests.{not-false}
use Rattle.session.specs.Session.{session_tests}
use Rattle.session.specs.Figures.{session_of}
use Rattle.session.proofs.Tests.{stops, holds_on, all_hold}
use Rattle.session.proofs.Laws.{good1_size}
use Rattle.session.proofs.Parts.{attempt_step}
use Rattle.session.proofs.test_session.Goals as goal

pub returns-then-not-good1 : goal.returns-then-not-good1
unfolding session_tests
returns-then-not-good1 c = stops Why.Places _ c.good1.ensures (ap not c.if-not-good1.true)

pub invariant_of-s : goal.invariant_of-s
unfolding session_tests
invariant_of-s c = record { small = unfold session_of in (good1_size _ (sym c.good1.ensures ∙ not-false c.good1.result (ap not c.if-not-good1.false))).1 }

pub returns-then-not-good2 : goal.returns-then-not-good2
unfolding session_tests
returns-then-not-good2 c = holds_on Why.Places _ c.good1.ensures (ap not c.if-not-good1.false) (stops Why.Scheme _ c.good2.ensures (ap not c.if-not-good2.true))

pub returns-then-not-in_phase : goal.returns-then-not-in_phase
unfolding session_tests
returns-then-not-in_phase c =
    holds_on Why.Places _ c.good1.ensures (ap not c.if-not-good1.false)
    (holds_on Why.Scheme _ c.good2.ensures (ap not c.if-not-good2.false)
    (stops Why.Phase _ c.good7-in_phase.ensures (ap not c.if-not-in_phase.true)))

pub returns-then-not-asked : goal.returns-then-not-asked
unfolding session_tests
returns-then-not-asked c =
    let in_phase : c.good7-in_phase.result ≡ true = cc in
    holds_on Why.Places _ c.good1.ensures (ap not c.if-not-good1.false)
    (holds_on Why.Scheme _ c.good2.ensures (ap not c.if-not-good2.false)
    (holds_on Why.Phase _ c.good7-in_phase.ensures (ap not in_phase)
    (stops Why.Question _ c.good9-asked.ensures (ap not c.if-not-asked.true))))

pub returns-then-not-tolerances : goal.returns-then-not-tolerances
unfolding session_tests
returns-then-not-tolerances c =
    let in_phase : c.good7-in_phase.result ≡ true = cc in
    let asked : c.good9-asked.result ≡ true = cc in
    holds_on Why.Places _ c.good1.ensures (ap not c.if-not-good1.false)
    (holds_on Why.Scheme _ c.good2.ensures (ap not c.if-not-good2.false)
    (holds_on Why.Phase _ c.good7-in_phase.ensures (ap not in_phase)
    (holds_on Why.Question _ c.good9-asked.ensures (ap not asked)
    (stops Why.Tolerance _ c.good4-tolerances.ensures (ap not c.if-not-tolerances.true)))))

pub returns-then-not-step : goal.returns-then-not-step
unfolding session_tests
returns-then-not-step c =
    holds_on Why.Places _ c.good1.ensures (ap not c.if-not-good1.false)
    (holds_on Why.Scheme _ c.good2.ensures (ap not c.if-not-good2.false)
    (holds_on Why.Phase _ c.good7-in_phase.ensures (ap not c.if-not-in_phase.false)
    (holds_on Why.Question _ c.good9-asked.ensures (ap not c.if-not-asked.false)
    (holds_on Why.Tolerance _ c.good4-tolerances.ensures (ap not c.if-not-tolerances.false)
    (stops Why.Step _ (attempt_step _ _ c.good5-step.ensures) (ap not c.if-not-step.true))))))

pub returns-then-not-numbers : goal.returns-then-not-numbers
unfolding session_tests
returns-then-not-numbers c =
    holds_on Why.Places _ c.good1.ensures (ap not c.if-not-good1.false)
    (holds_on Why.Scheme _ c.good2.ensures (ap not c.if-not-good2.false)
    (holds_on Why.Phase _ c.good7-in_phase.ensures (ap not c.if-not-in_phase.false)
    (holds_on Why.Question _ c.good9-asked.ensures (ap not c.if-not-asked.false)
    (holds_on Why.Tolerance _ c.good4-tolerances.ensures (ap not c.if-not-tolerances.false)
    (holds_on Why.Step _ (attempt_step _ _ c.good5-step.ensures) (ap not c.if-not-step.false)
    (stops Why.NotFinite _ c.good3-numbers.ensures (ap not c.if-not-numbers.true)))))))

pub returns : goal.returns
unfolding session_tests
returns c =
    holds_on Why.Places _ c.good1.ensures (ap not c.if-not-good1.false)
    (holds_on Why.Scheme _ c.good2.ensures (ap not c.if-not-good2.false)
    (holds_on Why.Phase _ c.good7-in_phase.ensures (ap not c.if-not-in_phase.false)
    (holds_on Why.Question _ c.good9-asked.ensures (ap not c.if-not-asked.false)
    (holds_on Why.Tolerance _ c.good4-tolerances.ensures (ap not c.if-not-tolerances.false)
    (holds_on Why.Step _ (attempt_step _ _ c.good5-step.ensures) (ap not c.if-not-step.false)
    (holds_on Why.NotFinite _ c.good3-numbers.ensures (ap not c.if-not-numbers.false) all_hold))))))
