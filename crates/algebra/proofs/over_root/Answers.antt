-- `algebra::over_root` meets its contract. Assumes nothing.
use Rattle.std.proofs.Common.{arith}
use mir.Facts.{to_z-of_z}
use Rattle.algebra.specs.Division.{over_√2}
use Rattle.algebra.proofs.Entries.{by_parts}
use Rattle.algebra.proofs.over_root.Goals as goal

pub returns : goal.returns
unfolding over_√2
returns c = by_parts (
  grind (arith, to_z-of_z, c.halved.ensures, c.sub_wide.ensures),
  grind (arith, to_z-of_z, c.halved-2.ensures, c.add_wide.ensures),
  grind (arith, to_z-of_z, c.halved-3.ensures, c.add_wide-2.ensures),
  grind (arith, to_z-of_z, c.halved-4.ensures, c.sub_wide-2.ensures),
)
