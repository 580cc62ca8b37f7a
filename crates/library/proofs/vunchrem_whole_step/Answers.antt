-- `library::vunchrem_whole_step` meets its contract. Assumes nothing.
use Rattle.std.proofs.Common.{refl, sym, ◌∙◌, true, eq-eqb}
use Rattle.session.specs.declared.Session.{Session}
use Rattle.table.specs.Whole.{whole_step}
use Rattle.library.specs.Library.{Crossing}
use Rattle.library.proofs.Laws.{held, not_held}
use Rattle.library.proofs.Kept.{lent_back}
use Rattle.table.proofs.Claims.{whole_same}
use Rattle.library.proofs.vunchrem_whole_step.Goals as goal

pub returns-in_default : goal.returns-in_default
unfolding Crossing
returns-in_default c = rw (not_held true _ _ c.held.ensures c.in_default.not-Some) (refl, refl)

pub give_back-requires : goal.give_back-requires
give_back-requires c = let h = held true _ _ (sym c.in-Some.is ∙ c.held.ensures) in (h.slices.numbers, h.slices.reply)

pub returns : goal.returns
unfolding Crossing
returns c =
    let h = held true _ _ (sym c.in-Some.is ∙ c.held.ensures) in
    rw h.both (
      refl,
      lent_back c.args.numbers.now c.args.figures.now _ h.slices.figures (eq-eqb _ _ h.slices.figures) c.give_back.ensures.0 c.give_back.ensures.1
          (λ (s : Session). whole_step s c.args.table.now c.args.step) (rw (h.head) at c.whole_step-left.ensures) (whole_same _ _ _),
    )
