-- `matrix::large_product` meets its contract. Assumes nothing.
use Rattle.matrix.proofs.Products.{whole_product}
use Rattle.matrix.proofs.large_product.Goals as goal

pub returns : goal.returns
returns c = whole_product _ _ _ _ _ c.requires.len.2 c.product.ensures
