-- The bytes of a gate's inverse, from the data of its code.
-- Assumes nothing.
use mathlib.Core.Path.{◌≡◌, refl, ap, ap₂, ◌∙◌, sym}
use mathlib.Core.Logic.{◌⊎◌, ⊎_elim}
use mathlib.Core.List.{List, ◌++◌}
use Prim.Native.Nat.{ℕ}
use Rattle.gates.specs.Gate.{Gate, on, pair, toffoli, fredkin, inverse}
use Rattle.gates.specs.Code.{code_number}
use Rattle.gates.specs.Rule.{code_rule, gate_rule}
use Rattle.gates.specs.declared.Operands.{Operands}
use Rattle.gates.specs.declared.Operands.TheVariants.{Controlled, Masked}
use Rattle.gates.specs.declared.Rule.{Rule}
use Rattle.circuits.specs.declared.Gate.{Gate as GateData}
use Rattle.circuits.specs.Answers.{gate_data}
use Rattle.circuits.proofs.Codes.{coded_rule, coded_number, inverse_code, kind_operands, pair_operands}
use Rattle.encodings.specs.Encoding.{number_bytes, operand_bytes, gate_bytes}
use Rattle.inverses.specs.Writing.{data_bytes, undo_bytes}

-- ---- what follows the code

pub data_is : (g : GateData) {o o' : Operands} → o ≡ o' → data_bytes o g ≡ data_bytes o' g
data_is g e = ap (λ (o : Operands). data_bytes o g) e

-- after a control or a mask stands the one target
pub data_with : (g : GateData) {o : Operands} → (o ≡ Controlled) ⊎ ((least : ℕ) × (o ≡ Masked least))
    → data_bytes o g ≡ number_bytes g.control ++ number_bytes g.target
data_with g = ⊎_elim (data_is g) (λ e. data_is g e.1)

-- the operands of a gate are those of its inverse
pub inverse_operands : (g : Gate) → operand_bytes (inverse g) ≡ operand_bytes g
inverse_operands (on k q) = refl
inverse_operands (pair k p q) = refl
inverse_operands (toffoli mask q) = refl
inverse_operands (fredkin mask p q) = refl

data_operands : (g : Gate) → data_bytes (gate_rule g).operands (gate_data g) ≡ operand_bytes g
data_operands (on k q) = data_is (gate_data (on k q)) (kind_operands k)
data_operands (pair k p q) = data_is (gate_data (pair k p q)) (pair_operands k)
data_operands (toffoli mask q) = refl
data_operands (fredkin mask p q) = refl

-- of the data of a gate that was read
pub undo_gate : (g : Gate) → undo_bytes (gate_data g) ≡ gate_bytes (inverse g)
undo_gate g =
    ap (λ (r : Rule). number_bytes (code_number r.inverse) ++ data_bytes r.operands (gate_data g)) (coded_rule g)
    ∙ ap₂ (λ (code : ℕ) (bytes : List ℕ). number_bytes code ++ bytes) (ap code_number (inverse_code g) ∙ coded_number (inverse g))
    (data_operands g ∙ sym (inverse_operands g))

-- the inverse's code is written as the number that it becomes
pub undo_said : (g : GateData) {r : Rule} {n : ℕ} → r ≡ code_rule g.code → n ≡ code_number r.inverse
    → undo_bytes g ≡ number_bytes n ++ data_bytes r.operands g
undo_said g {r} is becomes =
    ap (λ (x : Rule). number_bytes (code_number x.inverse) ++ data_bytes x.operands g) (sym is)
    ∙ ap (λ (k : ℕ). number_bytes k ++ data_bytes r.operands g) (sym becomes)
