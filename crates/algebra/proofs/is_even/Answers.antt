-- `algebra::is_even` meets its contract. Assumes nothing.
use native.Mathlib.Omega.{arith}
use Rattle.algebra.proofs.Halves.{quot_fits, even_is}
use Rattle.algebra.proofs.is_even.Goals as goal

pub nonzero_rem-result : goal.nonzero_rem-result
nonzero_rem-result c = (omega arith, quot_fits c.ranges.z)

pub returns : goal.returns
returns c = even_is c.ranges.z
