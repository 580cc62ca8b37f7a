-- `library::vunchrem_first_step` meets its contract. Assumes nothing.
use Rattle.std.proofs.Common.{refl, true, sym, ◌∙◌, eq-eqb}
use Rattle.session.specs.Lent.{lent_ask}
use Rattle.library.specs.Library.{Crossing}
use Rattle.library.proofs.Laws.{held, not_held}
use Rattle.library.proofs.vunchrem_first_step.Goals as goal

pub returns-in_default : goal.returns-in_default
unfolding Crossing
returns-in_default c = rw (not_held true _ _ c.held.ensures c.in_default.not-Some) (refl, refl)

pub say-requires : goal.say-requires
say-requires c = (held true _ _ (sym c.in-Some.is ∙ c.held.ensures)).slices.reply

pub returns : goal.returns
unfolding Crossing lent_ask
returns c =
    let h = held true _ _ (sym c.in-Some.is ∙ c.held.ensures) in
    rw h.both (refl, rw (c.first_step.ensures, eq-eqb _ _ h.slices.figures, h.head) at c.say.ensures)
