-- `matrix::row_sum` meets its contract. Assumes nothing.
use Rattle.std.proofs.Common.{◌≡◌, ◌∙◌, arith, rules, length, take, take_all}
use Rattle.std.proofs.lemmas.Iterator.{YieldsList-from_slice}
use Rattle.std.proofs.lemmas.Iterator.Adapters.{YieldsList-from_skip}
use Rattle.std.proofs.lemmas.Iterator.Consumers.{YieldsList-at, fold_from_yields_List}
use Rattle.float.specs.Arith.{◌⊕◌, abs}
use Rattle.float.proofs.Sums.{sum_from_first}
use Rattle.matrix.proofs.row_sum.Goals as goal

pub returns : goal.returns
returns c =
    -- of a row that is cut no shorter than it is the sum is the row's, so that an edit that cuts it is refused for what it leaves out
    let whole : take (length c.args.row.now) c.args.row.now ≡ c.args.row.now = take_all (length c.args.row.now) c.args.row.now (omega arith) in
    let road = YieldsList-from_skip 1 (YieldsList-at c.skip.ensures.source (YieldsList-from_slice c.args.row.now (cc))) (cc) in
    let e = fold_from_yields_List _ (λ sum x. sum ⊕ abs x) c.abs.result c.fold.result c.fold.ensures.ran road (λ a x b q k. search rules) in
    rw c.abs.ensures at e ∙ sum_from_first abs _ c.requires
