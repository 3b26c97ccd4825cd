-- `tables::table_size` meets its contract: the size worked out at once is the one that doubling comes to. Assumes nothing.
use Prim.Native.Nat.{◌*◌}
use native.Mathlib.Omega.{arith}
use Rattle.tables.specs.Table.{table_size}
use Rattle.tables.proofs.Sizes.{doubled_is, size_limit}
use Rattle.tables.proofs.table_size.Goals as goal

pub overflow_mul-size : goal.overflow_mul-size
overflow_mul-size c =
    let next = c.next_power_of_two.ensures in
    let enough = rw c.div_ceil.ensures at next.lower_bound in
    let half = rw c.div_ceil.ensures at next.upper_bound in
    let small = size_limit (2 * c.from.result) c.from-least.result _ (omega arith) enough half next.power.0 next.power.1 in
    record { fits = omega (arith, small) }

pub returns : goal.returns
unfolding table_size
returns c =
    let next = c.next_power_of_two.ensures in
    let enough = rw c.div_ceil.ensures at next.lower_bound in
    let half = rw c.div_ceil.ensures at next.upper_bound in
    let same = doubled_is (2 * c.from.result) c.from-least.result _ (omega arith) enough half next.power.0 next.power.1 in
    cc
