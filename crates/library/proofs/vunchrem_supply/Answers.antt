-- `library::vunchrem_supply` meets its contract. Assumes nothing.
use Rattle.std.proofs.Common.{refl, sym, ◌∙◌, eqb-true, List, Float}
use Rattle.session.specs.declared.Session.{Session}
use Rattle.session.specs.Calls.{supply_call}
use Rattle.session.proofs.Kept.{supply_same}
use Rattle.library.specs.Library.{Crossing}
use Rattle.session.proofs.Bodies.{right_long}
use Rattle.library.proofs.Laws.{held, not_held}
use Rattle.library.proofs.Kept.{lent_back_out}
use Rattle.library.proofs.vunchrem_supply.Goals as goal

pub returns-in_default : goal.returns-in_default
unfolding Crossing
returns-in_default c = rw (not_held _ _ _ c.held.ensures c.in_default.not-Some) (refl, (refl, refl))

pub give_back-requires : goal.give_back-requires
give_back-requires c = let h = held _ _ _ (sym c.in-Some.is ∙ c.held.ensures) in (h.slices.numbers, h.slices.reply)

pub returns : goal.returns
unfolding Crossing
returns c =
    let h = held _ _ _ (sym c.in-Some.is ∙ c.held.ensures) in
    rw h.both (
      refl,
      lent_back_out c.args.numbers.now c.args.figures.now _ h.slices.figures (right_long _ _ _ _ h.slices.figures (eqb-true _ _ h.fits)) c.give_back.ensures.0 c.give_back.ensures.1
          (λ (s : Session) (o : List Float). supply_call s c.args.place c.args.answer.now o) c.args.out.now (rw (h.head) at c.supply-left.ensures) (supply_same _ _ _ _),
    )
