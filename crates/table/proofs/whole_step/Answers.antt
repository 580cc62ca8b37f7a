-- `table::whole_step` meets its contract. Assumes nothing.
use Rattle.std.proofs.Common.{rules, ◌≡◌, arith, length, eq-eqb, ne_eqb}
use Rattle.session.specs.Figures.{FIGURES}
use Rattle.session.proofs.Bodies.{lent_made, lent_refused}
use Rattle.table.proofs.Steps.{whole_refused, whole_made}
use Rattle.table.proofs.whole_step.Goals as goal

pub returns-in_default : goal.returns-in_default
returns-in_default c = lent_refused _ _ (ne_eqb _ _ c.in_default.ensures.cases) _ c.refused.ensures

pub returns-in-Err : goal.returns-in-Err
returns-in-Err c =
    let a = c.args in
    let w = c.in-Some.ensures.cases in
    let refused = rw w.same at c.in-Err.ensures in
    rw w.same (lent_made a.k a.figures.now (eq-eqb _ _ w.long) _ w.long _ (whole_refused a.k _ a.bytes.now a.step refused c.refused-in-Err.ensures))

pub returns : goal.returns
returns c =
    let a = c.args in
    let w = c.in-Some.ensures.cases in
    let passes = rw w.same at c.in-Ok.ensures.0 in
    let stepped = rw (w.same, c.in-Ok.ensures.2) at c.step-left.ensures in
    let long : length c.keep.new.figures ≡ FIGURES = omega (arith, w.long) in
    lent_made a.k a.figures.now (eq-eqb _ _ w.long) _ long _
    (whole_made a.k a.figures.now a.bytes.now a.step passes (record { places = w.long; fit = search rules }) c.step-left.result c.step-left.new.figures stepped c.keep.ensures)
