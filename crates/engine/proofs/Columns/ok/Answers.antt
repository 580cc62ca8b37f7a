-- `engine::Columns::ok`: the moved component is tested, and then the differences. Assumes nothing.
use Rattle.std.proofs.Common.{rules, ◌∙◌, ◌+◌, ◌*◌, ℕ, Bool, refl, sym, arith}
use Rattle.std.proofs.lemmas.Iterator.{YieldsList-from_range}
use Rattle.std.proofs.lemmas.Iterator.Search.{all_from_yields_List}
use Rattle.loops.specs.Loop.{◌!◌}
use Rattle.float.specs.Arith.{◌⊖◌, ◌⊘◌, finite}
use Rattle.engine.proofs.Differences.{column_told}
use Rattle.loops.proofs.Ranges.{all_range}
use Rattle.engine.proofs.Columns.ok.Goals as goal

pub returns-then-moved_finite : goal.returns-then-moved_finite
returns-then-moved_finite c =
    let s = c.args.self.now in
    let test : ℕ → Bool = λ i. finite ((s.answers.now ! (16 * c.args.j + i) ⊖ s.f0.now ! i) ⊘ c.delta-d.result) in
    let each = all_from_yields_List test _ _ _ c.all.ensures.ran (YieldsList-from_range 0 _ s.n refl (search rules)) (λ x b q k. search rules) ∙ all_range test s.n in
    column_told _ _ _ _ _ _ _ _ c.delta-d.ensures (sym c.if-moved_finite.true ∙ c.moved_finite.ensures s.n c.requires.j_lt_n (omega arith)) each

pub returns-else-moved_finite : goal.returns-else-moved_finite
returns-else-moved_finite c =
    let moved = sym c.if-moved_finite.false ∙ c.moved_finite.ensures _ c.requires.j_lt_n (omega arith) in
    c.if-moved_finite.false ∙ column_told _ _ _ _ _ _ _ _ c.delta-d.ensures moved refl
