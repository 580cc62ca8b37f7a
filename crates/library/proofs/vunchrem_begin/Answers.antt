-- `library::vunchrem_begin` meets its contract. Assumes nothing.
use Rattle.std.proofs.Common.{refl, sym, ◌∙◌, eqb-true, List, Float}
use Rattle.session.specs.declared.Session.{Session}
use Rattle.session.specs.Calls.{begin_call}
use Rattle.session.proofs.Kept.{begin_same}
use Rattle.image.specs.Image.{wish_of}
use Rattle.library.specs.Library.{Crossing}
use Rattle.session.proofs.Bodies.{right_long}
use Rattle.library.proofs.Laws.{held, not_held}
use Rattle.library.proofs.Kept.{lent_back_out}
use Rattle.library.proofs.vunchrem_begin.Goals as goal

pub returns-in_default : goal.returns-in_default
unfolding Crossing
returns-in_default c = rw (not_held _ _ _ c.held.ensures c.in_default.not-Some) (refl, (refl, refl))

pub give_back-requires : goal.give_back-requires
give_back-requires c = let h = held _ _ _ (sym c.in-Some.is ∙ c.held.ensures) in (h.slices.numbers, h.slices.reply)

pub returns : goal.returns
unfolding Crossing
returns c =
    let h = held _ _ _ (sym c.in-Some.is ∙ c.held.ensures) in
    rw h.both (
      refl,
      lent_back_out c.args.numbers.now c.args.figures.now _ h.slices.figures (right_long _ _ _ _ h.slices.figures (eqb-true _ _ h.fits)) c.give_back.ensures.0 c.give_back.ensures.1
          (λ (s : Session) (o : List Float). begin_call s c.args.step (wish_of c.args.wish) c.args.jacobian.now o) c.args.out.now (rw (h.head, c.wish_of.ensures) at c.begin-left.ensures) (begin_same _ _ _ _ _),
    )
