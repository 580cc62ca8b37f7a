-- `library::held` meets its contract. Assumes nothing.
use Rattle.std.proofs.Common.{sym, ◌∙◌}
use Rattle.library.proofs.Laws.{and_right, fits}
use Rattle.library.proofs.held.Goals as goal

pub unwrap-requires : goal.unwrap-requires
unwrap-requires c = c.as_array.ensures.variant.1 (fits _ (sym c.lent.ensures ∙ and_right c.args.fits c.lent.result c.if-fits-lent.true)).numbers
