-- `products::multiply` meets its contract: the walk from the root is ready, and what it leaves is the product's.
-- Assumes nothing.
use Rattle.products.proofs.Steps.{starts, steps}
use Rattle.products.proofs.multiply.Goals as goal

pub row-requires : goal.row-requires
row-requires c = rw c.place.ensures (starts _ _ c.requires.task _ c.requires.fresh)

pub returns-clause-multiplied : goal.returns-clause-multiplied
returns-clause-multiplied c task = steps _ _ task _ _ c.requires.fresh (rw c.place.ensures at c.row.ensures.walked)
