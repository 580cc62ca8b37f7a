-- `methods::Square::admits` meets its contract. Assumes nothing.
use Rattle.std.proofs.Common.{rules, arith, ◌∙◌}
use Rattle.std.proofs.lemmas.Iterator.{YieldsList-from_range}
use Rattle.std.proofs.lemmas.Iterator.Search.{all_from_yields_List}
use Rattle.methods.specs.Parts.{input_admitted}
use Rattle.loops.proofs.Ranges.{all_range}
use Rattle.methods.proofs.square.Square.admits.Goals as goal

pub returns : goal.returns
unfolding input_admitted
returns c =
    all_from_yields_List _ _ _ c.all.result c.all.ensures.ran (YieldsList-from_range 0 c.args.self.now.n c.args.self.now.n (rw c.get.ensures.value) (omega arith)) (λ x b q k. search rules)
    ∙ all_range _ _
