-- `session::places::copy_out` meets its contract. Assumes nothing.
use Rattle.std.proofs.Common.{◌∙◌, arith}
use Rattle.loops.proofs.Stores.{tab_first}
use Rattle.session.proofs.places.copy_out.Goals as goal

pub returns : goal.returns
returns c = c.copy_from_slice.ensures.after ∙ tab_first _ _ (omega arith)
