-- The refusals that a list can give, by their numbers, and the limits of the base. Definitions only.
use Rattle.std.specs.Prelude.{ℕ}
use Rattle.circuits.specs.declared.Fault.{Fault}
use Rattle.circuits.specs.declared.Refusal.{Refusal}
use Rattle.circuits.specs.declared.Limits.{Limits}

-- a refusal by its fault and the offset that it returns
abbrev pub refusal : Fault → ℕ → Refusal
refusal fault offset = record { fault = fault; offset = offset }

-- ---- the table, "Holds if"

-- "the bytes end before it does, with fewer than three of its bytes there"
abbrev pub ends_early : Fault
ends_early = Fault.EndsEarly

-- "third byte has its top bit set, or not shortest"
abbrev pub not_shortest : Fault
not_shortest = Fault.NotShortest

-- "qubit count not 1 to 16"
abbrev pub bad_qubit_count : Fault
bad_qubit_count = Fault.QubitCount

-- "gate count over 4,096"
abbrev pub bad_gate_count : Fault
bad_gate_count = Fault.GateCount

-- "code over 11"
abbrev pub unknown_code : Fault
unknown_code = Fault.UnknownCode

-- "qubit not below the count, tested as each is read", and "a mask bit at or past the qubit count"
abbrev pub no_such_qubit : Fault
no_such_qubit = Fault.NoSuchQubit

-- "control equals target", and "a target in the mask .. or equal to the first target"
abbrev pub control_is_target : Fault
control_is_target = Fault.ControlIsTarget

-- "bytes remain"
abbrev pub bytes_remain : Fault
bytes_remain = Fault.BytesRemain

-- "too few controls"
abbrev pub too_few_controls : Fault
too_few_controls = Fault.TooFewControls

-- a fault's number in the paper's table
abbrev pub fault_number : Fault → ℕ
fault_number Fault.EndsEarly = 3
fault_number Fault.NotShortest = 4
fault_number Fault.QubitCount = 5
fault_number Fault.GateCount = 6
fault_number Fault.UnknownCode = 7
fault_number Fault.NoSuchQubit = 8
fault_number Fault.ControlIsTarget = 9
fault_number Fault.BytesRemain = 10
fault_number Fault.TooFewControls = 17

-- ---- the limits of the base: 16 qubits and 4,096 gates

abbrev pub base_limits : Limits
base_limits = record { qubits = 16; gates = 4096 }
