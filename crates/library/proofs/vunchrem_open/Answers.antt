-- `library::vunchrem_open` meets its contract. Assumes nothing.
use Rattle.std.proofs.Common.{refl, sym, ◌∙◌, length}
use Rattle.image.specs.Image.{VECTOR, packed}
use Rattle.session.specs.Figures.{FIGURES}
use Rattle.library.specs.Library.{Crossing}
use Rattle.library.proofs.Laws.{and_left, four, tested, right_five}
use Rattle.library.proofs.Kept.{lent_open_lem}
use Rattle.library.proofs.vunchrem_open.Goals as goal

pub returns-then-not-four-lent : goal.returns-then-not-four-lent
unfolding Crossing
returns-then-not-four-lent c = rw (← c.four.ensures, ← c.lent.ensures, c.if-not-four-lent.true) (refl, refl)

pub say-requires : goal.say-requires
say-requires c = (tested c.four.result _ c.lent.ensures c.if-not-four-lent.false).reply

pub copy_from_slice-requires : goal.copy_from_slice-requires
unfolding packed
copy_from_slice-requires c = rw c.numbers_of.ensures (tested c.four.result _ c.lent.ensures c.if-not-four-lent.false).numbers

pub returns : goal.returns
unfolding Crossing
returns c =
    let a = c.args in
    let long = four _ _ _ _ (sym c.four.ensures ∙ and_left c.four.result c.lent.result c.if-not-four-lent.false) in
    rw (← c.four.ensures, ← c.lent.ensures, c.if-not-four-lent.false) (
      refl,
      lent_open_lem a.figures.now
          (right_five (length a.figures.now) (length a.absolute.now) (length a.state.now) (length a.derivative.now) (length a.previous.now) FIGURES VECTOR
          (tested c.four.result _ c.lent.ensures c.if-not-four-lent.false).figures long.first long.second long.third long.fourth)
          _ (rw (c.scheme_of.ensures, c.history_of.ensures) at c.open-left.ensures) (c.copy_from_slice.ensures.after ∙ c.numbers_of.ensures) c.say.ensures,
    )
