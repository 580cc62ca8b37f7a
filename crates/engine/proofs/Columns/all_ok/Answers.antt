-- `engine::Columns::all_ok`: each column is tested. Assumes nothing.
use Rattle.std.proofs.Common.{rules, ◌∙◌, refl}
use Rattle.std.proofs.lemmas.Iterator.{YieldsList-from_range}
use Rattle.std.proofs.lemmas.Iterator.Search.{all_from_yields_List}
use Rattle.loops.proofs.Ranges.{all_range}
use Rattle.engine.proofs.Columns.all_ok.Goals as goal

pub returns : goal.returns
returns c = all_from_yields_List _ _ _ _ c.all.ensures.ran (YieldsList-from_range 0 _ c.args.m refl (search rules)) (λ x b q k. search rules) ∙ all_range _ _
