-- `uniques::spread` meets its contract: no sum wraps. Assumes nothing.
use Rattle.std.proofs.Common.{◌∙◌}
use Rattle.uniques.specs.UniqueTable.{spread}
use Rattle.uniques.proofs.spread.Goals as goal

pub returns : goal.returns
unfolding spread
returns c = c.part_of.ensures ∙ simp (c.from.ensures, c.from-2.ensures)
