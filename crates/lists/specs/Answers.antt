-- What the code answers for a whole list: its counts and its first gate, or the refusal. Definitions only.
use Rattle.std.specs.Prelude.{◌≡◌, ℕ, length, Result, Ok, Err}
use Rattle.circuits.specs.declared.Refusal.{Refusal}
use Rattle.circuits.specs.Reading.{Reading, read, refused, Circuit}
use Rattle.lists.specs.declared.List.{List as ListHead}

-- a list's counts and the offset of its first gate
abbrev pub head_of : ℕ → ℕ → ℕ → ListHead
head_of qubits gates first = record { qubits = qubits; gates = gates; first = first }

abbrev pub list_answer : Reading Circuit → Result ListHead Refusal
list_answer (read c next) = Ok (head_of c.qubits (length c.gates) c.first)
list_answer (refused r) = Err r

-- the list that was read, of which these are the qubit count, the gate count and the offset of the first gate
pub record Listed (m : Reading Circuit) (qubits gates first : ℕ) : Type 0 where
  pub circuit : Circuit
  pub next : ℕ
  pub was_read : m ≡ read circuit next
  pub qubits_are : circuit.qubits ≡ qubits
  pub gates_are : length circuit.gates ≡ gates
  pub first_is : circuit.first ≡ first
