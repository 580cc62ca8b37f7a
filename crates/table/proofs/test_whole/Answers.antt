-- `table::test_whole` meets its contract. Assumes nothing.
use Rattle.std.specs.Prelude.{Some}
use Rattle.std.proofs.Common.{◌≡◌, refl, sym, ◌∙◌, ap, not, true, false}
use Rattle.session.proofs.Tests.{passed_on, stops, holds_on, all_hold}
use Rattle.session.specs.declared.Phase.TheVariants.{Rest}
use Rattle.session.specs.declared.Refusal.TheVariants as Why
use Rattle.session.specs.Figures.{session_of}
use Rattle.session.proofs.Laws.{passed_sound, session_then, session_fails}
use Rattle.table.specs.Table.{table_ok}
use Rattle.table.specs.Whole.{whole_tests, handed_tests}
use Rattle.table.proofs.test_whole.Goals as goal

pub new-requires : goal.new-requires
unfolding session_of
new-requires c = (passed_sound (Some Rest) _ (sym c.test_session.ensures ∙ c.in_ok-test_session.was)).small

pub returns-in_err-test_session : goal.returns-in_err-test_session
unfolding whole_tests session_of
returns-in_err-test_session c = rw (passed_on _ _ c.from_residual.ensures.1) (sym (session_fails _ _ _ c.test_session.ensures c.in_err-test_session.was))

pub returns-in_default : goal.returns-in_default
unfolding whole_tests handed_tests session_of
returns-in_default c =
    let bad : table_ok c.args.k.n c.args.bytes.now ≡ false = rw c.new.ensures at c.in_default.ensures in
    sym (session_then _ _ _ c.test_session.ensures c.in_ok-test_session.was (stops {b = false} Why.Table _ (sym bad) refl))

pub returns-then-not-step_ok : goal.returns-then-not-step_ok
unfolding whole_tests handed_tests session_of
returns-then-not-step_ok c =
    let good : table_ok c.args.k.n c.args.bytes.now ≡ true = rw (c.in-Some.ensures.0, c.in-Some.ensures.1, c.new.ensures) at c.in-Some.table.well_formed in
    sym (session_then _ _ _ c.test_session.ensures c.in_ok-test_session.was
    (holds_on {b = true} Why.Table _ (sym good) refl (stops Why.Step _ c.step_ok.ensures (ap not c.if-not-step_ok.true))))

pub returns : goal.returns
unfolding whole_tests handed_tests session_of
returns c =
    let good : table_ok c.args.k.n c.args.bytes.now ≡ true = rw (c.in-Some.ensures.0, c.in-Some.ensures.1, c.new.ensures) at c.in-Some.table.well_formed in (
      sym (session_then _ _ _ c.test_session.ensures c.in_ok-test_session.was
          (holds_on {b = true} Why.Table _ (sym good) refl (holds_on Why.Step _ c.step_ok.ensures (ap not c.if-not-step_ok.false) all_hold))),
      c.in-Some.ensures.0 ∙ c.new.ensures,
      c.in-Some.ensures.1,
    )
