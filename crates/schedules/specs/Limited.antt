-- What the step's test asks, so that its products fit. No public contract cites it.
use Rattle.std.specs.Prelude.{ℕ, ◌≤◌}
use Rattle.schedules.specs.Schedule.{gate_limit}

pub record Limited (m p i j : ℕ) : Type 0 where
  pub first : m ≤ gate_limit
  pub second : p ≤ gate_limit
  pub taken_first : i ≤ gate_limit
  pub taken_second : j ≤ gate_limit
