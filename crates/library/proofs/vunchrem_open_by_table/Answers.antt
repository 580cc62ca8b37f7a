-- `library::vunchrem_open_by_table` meets its contract. Assumes nothing.
use Rattle.std.proofs.Common.{refl, ◌∙◌, ◌&&◌, eqb, length}
use Rattle.image.specs.Image.{VECTOR, packed}
use Rattle.session.specs.Figures.{FIGURES}
use Rattle.library.specs.Library.{Crossing}
use Rattle.library.proofs.Laws.{and_left, tested, right_three}
use Rattle.library.proofs.Kept.{lent_open_lem}
use Rattle.library.proofs.vunchrem_open_by_table.Goals as goal

pub returns-then-not-fits-lent : goal.returns-then-not-fits-lent
unfolding Crossing
returns-then-not-fits-lent c = rw (← c.lent.ensures, c.if-not-fits-lent.true) (refl, refl)

pub say-requires : goal.say-requires
say-requires c = (tested _ _ c.lent.ensures c.if-not-fits-lent.false).reply

pub copy_from_slice-requires : goal.copy_from_slice-requires
unfolding packed
copy_from_slice-requires c = rw c.numbers_of.ensures (tested _ _ c.lent.ensures c.if-not-fits-lent.false).numbers

pub returns : goal.returns
unfolding Crossing
returns c =
    let a = c.args in
    let absolute = eqb (length a.absolute.now) VECTOR in
    let state = eqb (length a.state.now) VECTOR in
    let figures = (tested (absolute && state) _ c.lent.ensures c.if-not-fits-lent.false).figures in
    rw (← c.lent.ensures, c.if-not-fits-lent.false) (
      refl,
      lent_open_lem a.figures.now
          (right_three (length a.figures.now) FIGURES absolute state figures (and_left (absolute && state) c.lent.result c.if-not-fits-lent.false))
          _ (rw c.scheme_of.ensures at c.open_by_table-left.ensures) (c.copy_from_slice.ensures.after ∙ c.numbers_of.ensures) c.say.ensures,
    )
