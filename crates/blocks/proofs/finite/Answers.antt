-- `blocks::finite` meets its contract. Assumes nothing.
use Rattle.std.proofs.Common.{rules, ◌∙◌}
use Rattle.std.proofs.lemmas.Iterator.{YieldsList-from_slice}
use Rattle.std.proofs.lemmas.Iterator.Search.{all_from_yields_List}
use Rattle.float.specs.Arith.{finite}
use Rattle.blocks.proofs.Arrays.{each_finite}
use Rattle.blocks.proofs.finite.Goals as goal

pub returns : goal.returns
returns c = all_from_yields_List finite _ _ _ c.all.ensures.ran (YieldsList-from_slice c.args.x.now (cc)) (λ x b q k. search rules) ∙ each_finite c.args.x.now
