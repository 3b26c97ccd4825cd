-- The gates that a list may have. Definitions only.
use Rattle.std.specs.Prelude.{List, ℕ, ◌≤◌, length}
use Rattle.gates.specs.Gate.{Gate, AllFit}
use Rattle.circuits.specs.declared.Limits.{Limits}

-- none of refusals 5 to 9: the "qubit count" is "1 to 16", the "gate count" not "over 4,096", each qubit "below the count", and
-- no "control equals target"
pub record Within (limits : Limits) (n : ℕ) (gs : List Gate) : Type 0 where
  pub some_qubit : 1 ≤ n
  pub few_qubits : n ≤ limits.qubits
  pub few_gates : length gs ≤ limits.gates
  pub all_fit : AllFit n gs
