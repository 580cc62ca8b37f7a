-- `library::vunchrem_bring_over` meets its contract. Assumes nothing.
use Rattle.std.proofs.Common.{refl, sym, ◌∙◌, eq-eqb, ne_eqb}
use Rattle.session.specs.Old.{lent_bring_over}
use Rattle.library.specs.Library.{Crossing}
use Rattle.library.proofs.Brought.{brought}
use Rattle.library.proofs.vunchrem_bring_over.Goals as goal

pub returns-in_default : goal.returns-in_default
unfolding Crossing
returns-in_default c = rw (ne_eqb _ _ c.in_default.ensures.cases) (refl, refl)

pub returns-then-is_some : goal.returns-then-is_some
unfolding Crossing lent_bring_over
returns-then-is_some c =
    let made = sym c.is_some.ensures ∙ c.if-is_some.true in
    rw (eq-eqb _ _ c.in-Some.ensures.cases.long, ← c.bring_over.ensures.long, made)
    (refl, brought _ _ _ (rw (made, c.head_in.ensures, c.in-Some.ensures.cases.same) at c.bring_over.ensures.brought))

pub returns-else-is_some : goal.returns-else-is_some
unfolding Crossing lent_bring_over
returns-else-is_some c =
    let made = sym c.is_some.ensures ∙ c.if-is_some.false in
    rw (eq-eqb _ _ c.in-Some.ensures.cases.long, ← c.bring_over.ensures.long, made) (refl, (rw made at c.bring_over.ensures.brought))
