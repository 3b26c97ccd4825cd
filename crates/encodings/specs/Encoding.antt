-- The bytes of numbers, gates and lists. Definitions only.
use Rattle.std.specs.Prelude.{cond, ◌≡◌, List, [], ◌∷◌, ◌++◌, ℕ, ◌+◌, ◌-◌, ◌/◌, ◌%◌, ◌<◌, length, eqb, ltb}
use Rattle.std.specs.Int.Count.{count_leading_zeros}
use Rattle.gates.specs.Gate.{Gate, on, pair, toffoli, fredkin}
use Rattle.circuits.specs.declared.Limits.{Limits}
use Rattle.circuits.specs.Reading.{read, decoded}
use Rattle.circuits.specs.Codes.{gate_code}

-- ---- bytes

-- "groups of seven bits, lowest group first; the top bit of a byte is set if another follows .. the shortest form only", of a
-- number below 2^21
unfoldable pub number_bytes : ℕ → List ℕ
number_bytes v =
    cond (ltb v 128) (v ∷ [])
    (cond (ltb v 16384) ((v % 128 + 128) ∷ v / 128 ∷ []) ((v % 128 + 128) ∷ (v / 128 % 128 + 128) ∷ v / 16384 ∷ []))

-- "the group count of a number comes from its significant bits": a group for each seven of them or part of seven, and one for 0,
-- which has none. A number of 32 bits has those that are not leading zeros.
unfoldable pub groups : ℕ → ℕ
groups v = cond (eqb v 0) 1 ((32 - count_leading_zeros 32 v + 6) / 7)

-- "per gate its code and one qubit, or for 8 and 9 the control and the target"; for 10 the mask and the target, for 11 the mask and both
abbrev pub operand_bytes : Gate → List ℕ
operand_bytes (on k q) = number_bytes q
operand_bytes (pair k p q) = number_bytes p ++ number_bytes q
operand_bytes (toffoli mask q) = number_bytes mask ++ number_bytes q
operand_bytes (fredkin mask p q) = number_bytes mask ++ (number_bytes p ++ number_bytes q)

abbrev pub gate_bytes : Gate → List ℕ
gate_bytes g = number_bytes (gate_code g) ++ operand_bytes g

abbrev pub gates_bytes : List Gate → List ℕ
gates_bytes [] = []
gates_bytes (g ∷ gs) = gate_bytes g ++ gates_bytes gs

-- "A list is: qubit count, gate count, then per gate .."
unfoldable pub list_bytes : ℕ → List Gate → List ℕ
list_bytes n gs = number_bytes n ++ (number_bytes (length gs) ++ gates_bytes gs)

-- ---- what an accepted list encodes

-- each byte is below 256
abbrev pub Bytes : List ℕ → Type 0
Bytes [] = Unit {0}
Bytes (x ∷ s) = (x < 256) × Bytes s

-- the bytes are accepted, as a list of n qubits with these gates
pub record Decodes (limits : Limits) (bytes : List ℕ) (n : ℕ) (gs : List Gate) : Type 0 where
  pub first : ℕ
  pub next : ℕ
  pub accepted : decoded limits bytes ≡ read (record { qubits = n; first = first; gates = gs }) next
