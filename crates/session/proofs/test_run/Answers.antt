-- `session::test_run` meets its contract. Assumes nothing.
use Rattle.std.proofs.Common.{ap, not, refl}
use Rattle.session.specs.declared.Refusal.TheVariants as Why
use Rattle.session.specs.Session.{size_ok}
use Rattle.session.proofs.Tests.{stops, holds_on, all_hold}
use Rattle.session.proofs.Opens.{opening, opened_scheme}
use Rattle.session.proofs.test_run.Goals as goal

pub returns-then-not-n : goal.returns-then-not-n
unfolding size_ok
returns-then-not-n c =
    rw (opening _)
    (stops Why.Places _ refl (ap not c.if-not-n.true))

pub returns-then-not-run_clear : goal.returns-then-not-run_clear
unfolding size_ok
returns-then-not-run_clear c =
    rw (opening _)
    (holds_on Why.Places _ refl (ap not c.if-not-n.false)
    (stops Why.Places _ c.run_clear.ensures (ap not c.if-not-run_clear.true)))

pub returns-then-not-scheme-history_ok : goal.returns-then-not-scheme-history_ok
unfolding size_ok
returns-then-not-scheme-history_ok c =
    rw (opening _)
    (holds_on Why.Places _ refl (ap not c.if-not-n.false)
    (holds_on Why.Places _ c.run_clear.ensures (ap not c.if-not-run_clear.false)
    (stops Why.Scheme _ (opened_scheme _ c.history_ok.ensures) (ap not c.if-not-scheme-history_ok.true))))

pub returns-then-not-tolerances_ok : goal.returns-then-not-tolerances_ok
unfolding size_ok
returns-then-not-tolerances_ok c =
    rw (opening _)
    (holds_on Why.Places _ refl (ap not c.if-not-n.false)
    (holds_on Why.Places _ c.run_clear.ensures (ap not c.if-not-run_clear.false)
    (holds_on Why.Scheme _ (opened_scheme _ c.history_ok.ensures) (ap not c.if-not-scheme-history_ok.false)
    (stops Why.Tolerance _ (rw c.new.ensures at c.tolerances_ok.ensures) (ap not c.if-not-tolerances_ok.true)))))

pub returns-then-not-run_finite : goal.returns-then-not-run_finite
unfolding size_ok
returns-then-not-run_finite c =
    rw (opening _)
    (holds_on Why.Places _ refl (ap not c.if-not-n.false)
    (holds_on Why.Places _ c.run_clear.ensures (ap not c.if-not-run_clear.false)
    (holds_on Why.Scheme _ (opened_scheme _ c.history_ok.ensures) (ap not c.if-not-scheme-history_ok.false)
    (holds_on Why.Tolerance _ (rw c.new.ensures at c.tolerances_ok.ensures) (ap not c.if-not-tolerances_ok.false)
    (stops Why.NotFinite _ c.run_finite.ensures (ap not c.if-not-run_finite.true))))))

pub returns : goal.returns
unfolding size_ok
returns c =
    rw (opening _)
    (holds_on Why.Places _ refl (ap not c.if-not-n.false)
    (holds_on Why.Places _ c.run_clear.ensures (ap not c.if-not-run_clear.false)
    (holds_on Why.Scheme _ (opened_scheme _ c.history_ok.ensures) (ap not c.if-not-scheme-history_ok.false)
    (holds_on Why.Tolerance _ (rw c.new.ensures at c.tolerances_ok.ensures) (ap not c.if-not-tolerances_ok.false)
    (holds_on Why.NotFinite _ c.run_finite.ensures (ap not c.if-not-run_finite.false)
    all_hold)))))
