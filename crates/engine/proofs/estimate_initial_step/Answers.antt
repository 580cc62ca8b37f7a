-- `engine::estimate_initial_step`: the largest rate gives the step. Assumes nothing.
use Rattle.std.proofs.Common.{rules, ◌∙◌, ℕ, refl, Float}
use Rattle.std.proofs.lemmas.Iterator.{YieldsList-from_range}
use Rattle.std.proofs.lemmas.Iterator.Consumers.{fold_from_yields_List}
use Rattle.loops.specs.Loop.{◌!◌}
use Rattle.float.specs.Arith.{larger, zero+}
use Rattle.engine.specs.Engine.{rate, by_rates, first_step}
use Rattle.engine.proofs.Ranges.{most_range}
use Rattle.engine.proofs.estimate_initial_step.Goals as goal

pub returns : goal.returns
unfolding first_step by_rates rate
returns c =
    let a = c.args in
    let r : ℕ → Float = λ i. rate a.relative (a.absolute.now ! i) a.state.now a.derivative.now i in
    let folded = fold_from_yields_List _ (λ s i. larger s (r i)) _ _ c.fold-scale.ensures.ran (YieldsList-from_range 0 _ a.n refl (search rules)) (λ s i b q k. search rules) in
    rw (c.clamp.ensures, c.estimate.ensures, folded ∙ most_range r zero+ a.n)
