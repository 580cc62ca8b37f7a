-- `float::plus_zero` meets its contract. Assumes nothing.
use Rattle.std.proofs.Common.{◌∙◌}
use Rattle.float.proofs.Floats.{zero_pattern, no_zero}
use Rattle.float.proofs.plus_zero.Goals as goal

pub returns-then-x : goal.returns-then-x
returns-then-x c = zero_pattern _ c.well_formed.0.1 c.if-x.true

pub returns-else-x : goal.returns-else-x
returns-else-x c = c.if-x.false ∙ no_zero _ c.if-x.false
