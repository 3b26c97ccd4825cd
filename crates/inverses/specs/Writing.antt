-- What the functions below the writer of the inverse ask and write. Definitions only.
use Rattle.std.specs.Prelude.{List, [], ◌++◌, ℕ, ◌<◌}
use Rattle.gates.specs.Gate.{Gate}
use Rattle.gates.specs.Code.{code_number}
use Rattle.gates.specs.Rule.{code_rule}
use Rattle.gates.specs.declared.Operands.{Operands}
use Rattle.gates.specs.declared.Operands.TheVariants.{Qubit, Controlled, Masked, Exchanging}
use Rattle.circuits.specs.declared.Gate.{Gate as GateData}
use Rattle.circuits.specs.Refusals.{base_limits}
use Rattle.circuits.specs.Reading.{Reading, read, refused, Circuit, decoded}
use Rattle.encodings.specs.Encoding.{number_bytes}

-- three groups hold the mask or the control of a gate, and its targets
abbrev pub Small : GateData → Type 0
Small g = (g.control < 2097152) × (g.target < 2097152) × (g.second < 2097152)

-- what follows a gate's code, by the form that its data have: the control or the mask where there is one, the target, and the second
-- target of a gate that has two
abbrev pub data_bytes : Operands → GateData → List ℕ
data_bytes Qubit g = number_bytes g.target
data_bytes Controlled g = number_bytes g.control ++ number_bytes g.target
data_bytes (Masked least) g = number_bytes g.control ++ number_bytes g.target
data_bytes (Exchanging least) g = number_bytes g.control ++ (number_bytes g.target ++ number_bytes g.second)

-- the bytes of a gate's inverse, by the data of the gate's code, its control or mask and its targets
abbrev pub undo_bytes : GateData → List ℕ
undo_bytes g = number_bytes (code_number (code_rule g.code).inverse) ++ data_bytes (code_rule g.code).operands g

-- the gates of a list, none where it is refused
abbrev pub gates_of : Reading Circuit → List Gate
gates_of (read c next) = c.gates
gates_of (refused r) = []

abbrev pub gates_said : List ℕ → List Gate
gates_said s = gates_of (decoded base_limits s)
