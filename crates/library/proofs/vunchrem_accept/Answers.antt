-- `library::vunchrem_accept` meets its contract. Assumes nothing.
use Rattle.std.proofs.Common.{refl, sym, ◌∙◌, eqb-true}
use Rattle.session.specs.declared.Session.{Session}
use Rattle.session.specs.Calls.{accept_call}
use Rattle.session.proofs.Kept.{accept_same}
use Rattle.library.specs.Library.{Crossing}
use Rattle.session.proofs.Bodies.{right_long}
use Rattle.library.proofs.Laws.{held, not_held}
use Rattle.library.proofs.Kept.{lent_back}
use Rattle.library.proofs.vunchrem_accept.Goals as goal

pub returns-in_default : goal.returns-in_default
unfolding Crossing
returns-in_default c = rw (not_held _ _ _ c.held.ensures c.in_default.not-Some) (refl, refl)

pub give_back-requires : goal.give_back-requires
give_back-requires c = let h = held _ _ _ (sym c.in-Some.is ∙ c.held.ensures) in (h.slices.numbers, h.slices.reply)

pub returns : goal.returns
unfolding Crossing
returns c =
    let h = held _ _ _ (sym c.in-Some.is ∙ c.held.ensures) in
    rw h.both (
      refl,
      lent_back c.args.numbers.now c.args.figures.now _ h.slices.figures (right_long _ _ _ _ h.slices.figures (eqb-true _ _ h.fits)) c.give_back.ensures.0 c.give_back.ensures.1
          (λ (s : Session). accept_call s c.args.derivative.now) (rw (h.head) at c.accept-left.ensures) (accept_same _ _),
    )
