-- `schemes::perform_step`: the two tests, and the scheme, whose counts fit 32 bits. Assumes nothing.
use Rattle.std.proofs.Common.{refl, arith}
use Rattle.methods.proofs.Shape.{step_fits}
use Rattle.methods.specs.Step.{perform_step, progress}
use Rattle.schemes.proofs.Choice.{told_refused, told_question, told_end, no_scheme}
use Rattle.schemes.proofs.perform_step.Goals as goal

pub returns-then-not-all_finite : goal.returns-then-not-all_finite
unfolding perform_step progress
returns-then-not-all_finite c = rw (← c.times-au.ensures, ← c.subtract-nonlinear.ensures, ← c.all_finite.ensures, ← c.all_finite-2.ensures, c.if-not-all_finite.true) refl

pub returns-in_default : goal.returns-in_default
unfolding perform_step progress
returns-in_default c =
    rw (← c.times-au.ensures, ← c.subtract-nonlinear.ensures, ← c.all_finite.ensures, ← c.all_finite-2.ensures, c.if-not-all_finite.false)
    (no_scheme _ _ _ _ _ _ _ _ _ (omega (arith, c.in_default.ensures)))

pub returns-in_err-x : goal.returns-in_err-x
unfolding perform_step
returns-in_err-x c =
    rw (← c.times-au.ensures, ← c.subtract-nonlinear.ensures, ← c.all_finite.ensures, ← c.all_finite-2.ensures, c.if-not-all_finite.false)
    (told_refused _ _ (step_fits _ _ _ _ _ _ _ _ _) c.from_residual.ensures (rw c.in-Ok.ensures at c.in_err-x.ensures))

pub returns-in-Question : goal.returns-in-Question
unfolding perform_step
returns-in-Question c =
    rw (← c.times-au.ensures, ← c.subtract-nonlinear.ensures, ← c.all_finite.ensures, ← c.all_finite-2.ensures, c.if-not-all_finite.false)
    (told_question _ _ (step_fits _ _ _ _ _ _ _ _ _) _ _ (rw (c.in-Question.is, c.in-Ok.ensures) at c.in_ok-x.ensures))

pub returns-in-End : goal.returns-in-End
unfolding perform_step
returns-in-End c =
    rw (← c.times-au.ensures, ← c.subtract-nonlinear.ensures, ← c.all_finite.ensures, ← c.all_finite-2.ensures, c.if-not-all_finite.false)
    (told_end _ _ (step_fits _ _ _ _ _ _ _ _ _) _ _ _ _ (rw (c.in-End.is, c.in-Ok.ensures) at c.in_ok-x.ensures) c.work.ensures)
