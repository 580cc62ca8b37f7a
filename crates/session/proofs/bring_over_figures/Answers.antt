-- `session::bring_over_figures` meets its contract. Assumes nothing.
use Rattle.std.proofs.Common.{arith, sym, length-take-le}
use Rattle.session.specs.Figures.{absolute_at}
use Rattle.session.proofs.Old.{brought_told}
use Rattle.session.proofs.bring_over_figures.Goals as goal

pub slice_bounds-put-end : goal.slice_bounds-put-end
slice_bounds-put-end c = sym (length-take-le absolute_at c.args.old.now (omega arith))

pub put-requires : goal.put-requires
put-requires c = omega (arith, length-take-le absolute_at c.args.old.now (omega arith))

pub returns : goal.returns
returns c = λ k e. brought_told k c.args.old.now c.args.figures.now c.told-old c.told-figures e c.copied-absolute.ensures c.put.ensures c.put-2.ensures c.put-3.ensures
