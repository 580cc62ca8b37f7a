-- `engine::scaled_error_norm`: the squares are summed from the first on. Assumes nothing.
use Rattle.std.proofs.Common.{rules, ◌∙◌, ◌-◌, ◌≡◌, ℕ, suc, refl, ap, arith, Float}
use Rattle.std.proofs.lemmas.Iterator.{YieldsList-from_range}
use Rattle.std.proofs.lemmas.Iterator.Consumers.{fold_from_yields_List}
use Rattle.loops.specs.Loop.{◌!◌}
use Rattle.float.specs.Arith.{◌⊕◌, powi2, sum_of}
use Rattle.engine.specs.Engine.{ratio, root_mean, error_norm}
use Rattle.engine.proofs.Ranges.{sum_range}
use Rattle.engine.proofs.Small.{float_small}
use Rattle.engine.proofs.scaled_error_norm.Goals as goal

pub int_to_float-get : goal.int_to_float-get
int_to_float-get c = float_small _ (omega arith)

pub returns : goal.returns
unfolding error_norm root_mean ratio
returns c =
    let a = c.args in
    let f : ℕ → Float = λ i. powi2 (ratio a.relative (a.absolute.now ! i) a.state.now a.candidate.now a.error.now i) in
    let folded = fold_from_yields_List _ (λ s i. s ⊕ f i) _ _ c.fold-sum.ensures.ran (YieldsList-from_range 1 _ (a.n - 1) refl (search rules)) (λ s i b q k. search rules) in
    let first : c.powi2-first.result ≡ f 0 = rw (c.powi2-first.ensures, c.ratio.ensures) in
    let whole : suc (a.n - 1) ≡ a.n = omega arith in
    let sum : c.fold-sum.result ≡ sum_of a.n f = rw first at folded ∙ sum_range f (a.n - 1) ∙ ap (λ n. sum_of n f) whole in
    rw (c.sqrt.ensures, sum, c.get-2.ensures.value)
