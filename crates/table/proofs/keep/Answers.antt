-- `table::keep` meets its contract. Assumes nothing.
use Rattle.std.proofs.Common.{refl, sym, ◌∙◌}
use Rattle.table.proofs.Steps.{kept_refused, kept_accepted}
use Rattle.table.proofs.keep.Goals as goal

pub returns-then-is_err : goal.returns-then-is_err
returns-then-is_err c s drops =
    kept_refused s c.args.left.now c.args.figures.now (sym c.is_err.ensures.value ∙ c.if-is_err.true) c.drop_over.new.figures c.drop_over.ensures refl drops

pub returns-else-is_err : goal.returns-else-is_err
returns-else-is_err c s drops = kept_accepted s c.args.left.now c.args.figures.now (sym c.is_err.ensures.value ∙ c.if-is_err.false)
