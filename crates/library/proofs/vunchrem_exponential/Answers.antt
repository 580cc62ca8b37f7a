-- `library::vunchrem_exponential` meets its contract. Assumes nothing.
use Rattle.std.proofs.Common.{refl, sym, ◌∙◌}
use Rattle.library.specs.Library.{Crossing}
use Rattle.library.proofs.Laws.{hears}
use Rattle.library.proofs.vunchrem_exponential.Goals as goal

pub returns-then-not-hearing : goal.returns-then-not-hearing
unfolding Crossing
returns-then-not-hearing c = rw (← c.hearing.ensures, c.if-not-hearing.true) (refl, (refl, refl))

pub say-requires : goal.say-requires
say-requires c = hears _ (sym c.hearing.ensures ∙ c.if-not-hearing.false)

pub returns : goal.returns
unfolding Crossing
returns c = rw (← c.hearing.ensures, c.if-not-hearing.false, ← c.exponential.ensures) (refl, record { said = c.say.ensures; out = refl })
