-- `blocks::squared_column` meets its contract. Assumes nothing.
use Rattle.blocks.proofs.Columns.{column_product}
use Rattle.blocks.proofs.squared_column.Goals as goal

pub returns : goal.returns
returns c = column_product _ _ _ _ _ _ _ _ _ c.lower.ensures c.width-2.ensures c.width-3.ensures c.width.ensures c.last_column-last.ensures c.product.ensures
