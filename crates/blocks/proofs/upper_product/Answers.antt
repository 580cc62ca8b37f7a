-- `blocks::upper_product` meets its contract. Assumes nothing.
use Rattle.blocks.proofs.Upper.{upper_parts}
use Rattle.blocks.proofs.upper_product.Goals as goal

pub returns : goal.returns
returns c = upper_parts _ _ _ _ _ _ _ _ _ _ _ c.lower-all.ensures c.width.ensures c.width-2.ensures c.width-3.ensures c.product.ensures
