-- The gate count of a list is within its limit.
-- Assumes nothing.
use mathlib.Core.Path.{◌≡◌, refl}
use mathlib.Core.List.{List}
use Prim.Native.Nat.{ℕ, ◌≤◌}
use native.Mathlib.Omega.{arith}
use Rattle.circuits.specs.Refusals.{base_limits}
use Rattle.circuits.specs.Reading.{Reading, read, refused, Circuit, decoded}
use Rattle.circuits.proofs.Within.{decoded_within}
use Rattle.schedules.specs.Schedule.{gate_limit}
use Rattle.pairs.specs.Pair.{gates_read, gate_count}

module _ (list : List ℕ) where
  gates_few : (r : Reading Circuit) → decoded base_limits list ≡ r → gates_read r ≤ gate_limit
  gates_few (read c next) e = (decoded_within base_limits list e).few_gates
  gates_few (refused why) e = omega arith

  pub count_few : gate_count list ≤ gate_limit
  unfolding gate_count
  count_few = gates_few (decoded base_limits list) refl
