-- `session::test_norm` meets its contract. Assumes nothing.
use Rattle.session.specs.declared.Refusal.TheVariants as Why
use Rattle.std.proofs.Common.{not, refl, sym, ap, ◌∙◌}
use borrow.Author.Tests.{not-false}
use Rattle.session.specs.Bare.{norm_tests}
use Rattle.session.proofs.Tests.{stops, holds_on, all_hold}
use Rattle.session.proofs.Laws.{placed_sized, placed_by}
use Rattle.session.proofs.test_norm.Goals as goal

pub returns-then-not-n-clear : goal.returns-then-not-n-clear
unfolding norm_tests
returns-then-not-n-clear c =
    stops Why.Places _ (placed_by _ _ _ _ _ c.clear.ensures c.clear-2.ensures c.clear-3.ensures c.clear-4.ensures) (ap not c.if-not-n-clear.true)

pub new-requires : goal.new-requires
new-requires c =
    (placed_sized _ _ _ _ _ (sym (placed_by _ _ _ _ _ c.clear.ensures c.clear-2.ensures c.clear-3.ensures c.clear-4.ensures)
    ∙ not-false _ (ap not c.if-not-n-clear.false))).1

pub returns-then-not-tolerances_ok : goal.returns-then-not-tolerances_ok
unfolding norm_tests
returns-then-not-tolerances_ok c =
    holds_on Why.Places _ (placed_by _ _ _ _ _ c.clear.ensures c.clear-2.ensures c.clear-3.ensures c.clear-4.ensures) (ap not c.if-not-n-clear.false)
    (stops Why.Tolerance _ (rw (← c.new.ensures) c.tolerances_ok.ensures) (ap not c.if-not-tolerances_ok.true))

pub returns-then-not-all_finite : goal.returns-then-not-all_finite
unfolding norm_tests
returns-then-not-all_finite c =
    holds_on Why.Places _ (placed_by _ _ _ _ _ c.clear.ensures c.clear-2.ensures c.clear-3.ensures c.clear-4.ensures) (ap not c.if-not-n-clear.false)
    (holds_on Why.Tolerance _ (rw (← c.new.ensures) c.tolerances_ok.ensures) (ap not c.if-not-tolerances_ok.false)
    (stops Why.NotFinite _ (rw (c.all_finite.ensures, c.all_finite-2.ensures, c.all_finite-3.ensures) refl) (ap not c.if-not-all_finite.true)))

pub returns : goal.returns
unfolding norm_tests
returns c =
    holds_on Why.Places _ (placed_by _ _ _ _ _ c.clear.ensures c.clear-2.ensures c.clear-3.ensures c.clear-4.ensures) (ap not c.if-not-n-clear.false)
    (holds_on Why.Tolerance _ (rw (← c.new.ensures) c.tolerances_ok.ensures) (ap not c.if-not-tolerances_ok.false)
    (holds_on Why.NotFinite _ (rw (c.all_finite.ensures, c.all_finite-2.ensures, c.all_finite-3.ensures) refl) (ap not c.if-not-all_finite.false) all_hold))
