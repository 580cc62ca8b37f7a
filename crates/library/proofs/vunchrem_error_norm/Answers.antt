-- `library::vunchrem_error_norm` meets its contract. Assumes nothing.
use Rattle.std.proofs.Common.{refl, sym, ◌∙◌}
use Rattle.library.specs.Library.{Crossing}
use Rattle.library.proofs.Laws.{and_left, and_right, four, hears, whole}
use Rattle.library.proofs.vunchrem_error_norm.Goals as goal

pub returns-then-not-four-hearing : goal.returns-then-not-four-hearing
unfolding Crossing
returns-then-not-four-hearing c = rw (← c.four.ensures, ← c.hearing.ensures, c.if-not-four-hearing.true) (refl, refl)

pub unwrap-requires : goal.unwrap-requires
unwrap-requires c = c.as_array.ensures.variant.1 (four _ _ _ _ (sym c.four.ensures ∙ and_left c.four.result c.hearing.result c.if-not-four-hearing.false)).first

pub unwrap-requires-2 : goal.unwrap-requires-2
unwrap-requires-2 c = c.as_array-2.ensures.variant.1 (four _ _ _ _ (sym c.four.ensures ∙ and_left c.four.result c.hearing.result c.if-not-four-hearing.false)).second

pub unwrap-requires-3 : goal.unwrap-requires-3
unwrap-requires-3 c = c.as_array-3.ensures.variant.1 (four _ _ _ _ (sym c.four.ensures ∙ and_left c.four.result c.hearing.result c.if-not-four-hearing.false)).third

pub unwrap-requires-4 : goal.unwrap-requires-4
unwrap-requires-4 c = c.as_array-4.ensures.variant.1 (four _ _ _ _ (sym c.four.ensures ∙ and_left c.four.result c.hearing.result c.if-not-four-hearing.false)).fourth

pub say-requires : goal.say-requires
say-requires c = hears _ (sym c.hearing.ensures ∙ and_right c.four.result c.hearing.result c.if-not-four-hearing.false)

pub returns : goal.returns
unfolding Crossing
returns c =
    let a = c.args in
    let answer =
    rw (
      whole a.absolute.now _ _ c.as_array.ensures.cases c.unwrap.ensures,
      whole a.error.now _ _ c.as_array-2.ensures.cases c.unwrap-2.ensures,
      whole a.state.now _ _ c.as_array-3.ensures.cases c.unwrap-3.ensures,
      whole a.candidate.now _ _ c.as_array-4.ensures.cases c.unwrap-4.ensures,
    )
    at c.error_norm-answer.ensures
    in
    rw (← c.four.ensures, ← c.hearing.ensures, c.if-not-four-hearing.false, ← answer) (refl, c.say.ensures)
