-- `matrix::kernel::Rows::row` meets its contract. Assumes nothing.
use Rattle.std.proofs.Common.{arith, ap, length, add-zero, ◌∙◌}
use Rattle.matrix.proofs.Products.{length-row, row_part}
use Rattle.matrix.proofs.kernel.Rows.row.Goals as goal

pub returns-clause-value : goal.returns-clause-value
returns-clause-value c = row_part _ _ _ _ _ (c.span-start.ensures.0 ∙ add-zero _) (omega arith)

pub returns-clause-len : goal.returns-clause-len
returns-clause-len c = ap length (row_part _ _ _ _ _ (c.span-start.ensures.0 ∙ add-zero _) (omega arith)) ∙ length-row _ _ _ _ c.requires c.args.self.now.full
