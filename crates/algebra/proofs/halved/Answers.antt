-- `algebra::halved` meets its contract. Assumes nothing.
use native.Mathlib.Omega.{arith}
use Rattle.algebra.proofs.Halves.{quot_fits, half_fits, half_is}
use Rattle.algebra.proofs.halved.Goals as goal

pub nonzero_div-result : goal.nonzero_div-result
nonzero_div-result c = (omega arith, quot_fits c.ranges.z)

pub overflow_cast-result : goal.overflow_cast-result
overflow_cast-result c = half_fits c.ranges.z c.requires

pub returns : goal.returns
returns c = half_is c.ranges.z c.requires
