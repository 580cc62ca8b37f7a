-- `table::open_by_table` meets its contract. Assumes nothing.
use Rattle.std.proofs.Common.{◌≡◌, arith, length, eq-eqb}
use Rattle.session.specs.Figures.{FIGURES}
use Rattle.session.proofs.Bodies.{lent-opened, lent-unopened, left_wrong, first_wrong, then_wrong}
use Rattle.table.proofs.open_by_table.Goals as goal
use Rattle.table.proofs.open_by_table.Goals.{in_default-via-in-Some+in_default, in_default-via-in_default}

pub returns : goal.returns
returns c =
    let w = c.in-Some.ensures.cases in
    let v = c.in-Some-Some in
    let a = v.ensures.cases in
    let u = v.ensures'.cases in
    let long : length c.open_over.new.figures ≡ FIGURES = omega (arith, w.long) in
    lent-opened c.open_over.result.head _ (rw (eq-eqb _ _ w.long, eq-eqb _ _ a.long, eq-eqb _ _ u.long)) _ long _ (rw (a.same, u.same) at c.open_over.ensures)

pub returns-in_default : goal.returns-in_default
returns-in_default c =
    elim c.in_default.branch [
      | in_default-via-in-Some+in_default w ↦ lent-unopened _ _ (then_wrong _ _ _ w.in_default.ensures'.cases) _ c.no_head.ensures c.refused.ensures
      | in_default-via-in_default w ↦ lent-unopened _ _ (left_wrong _ _ (then_wrong _ _ _ w.in_default.ensures.cases)) _ c.no_head.ensures c.refused.ensures
    ]

pub returns-in_default-as_mut_array : goal.returns-in_default-as_mut_array
returns-in_default-as_mut_array c =
    lent-unopened _ _ (left_wrong _ _ (first_wrong _ _ _ c.in_default-as_mut_array.ensures.cases)) _ c.no_head-in_default-as_mut_array.ensures
    c.refused-in_default-as_mut_array.ensures
