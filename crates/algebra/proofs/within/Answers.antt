-- `algebra::within` meets its contract: both ends of the range are tested. Assumes nothing.
use Rattle.std.proofs.Common.{◌∙◌}
use Rattle.algebra.proofs.Widths.{range_is}
use Rattle.algebra.proofs.within.Goals as goal

pub returns : goal.returns
returns c = c.contains.ensures.value ∙ range_is c.args.w c.ranges.number c.requires.1
