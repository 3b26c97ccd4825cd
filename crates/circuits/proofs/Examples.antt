-- The paper's circuit 13: "List hex 81 00 00: 4 at byte 0. No bytes: 3 at byte 0." The list of its circuit 3, hex 01 01 00 00. And hex 00:
-- 5 at byte 0, since "each number is checked as it is read", before the gate count that is not there.
-- Assumes nothing.
use mathlib.Core.Path.{◌≡◌, refl}
use mathlib.Core.List.{List, [], ◌∷◌, map}
use Prim.Native.Nat.{ℕ}
use Rattle.std.specs.Prelude.{Option, Some, None}
use Rattle.gates.specs.Gate.{on, X, meant}
use Rattle.circuits.specs.Refusals.{refusal, fault_number, ends_early, not_shortest, bad_qubit_count, base_limits}
use Rattle.circuits.specs.Reading.{Reading, read, refused, Circuit, number, qubit, gate, gates, count, body, list, decoded}

abbrev pub examples : List (List ℕ)
examples = (0x81 ∷ 0x00 ∷ 0x00 ∷ []) ∷ [] ∷ (0x01 ∷ 0x01 ∷ 0x00 ∷ 0x00 ∷ []) ∷ (0x00 ∷ []) ∷ []

abbrev pub answers : List (Reading Circuit)
answers =
    refused (refusal not_shortest 0) ∷ refused (refusal ends_early 0) ∷ read (record { qubits = 1; first = 2; gates = on X 0 ∷ [] }) 4
    ∷ refused (refusal bad_qubit_count 0) ∷ []

-- by their numbers: "4 at byte 0", "3 at byte 0", and 5
abbrev pub numbers : List (Option ℕ)
numbers = Some 4 ∷ Some 3 ∷ None ∷ Some 5 ∷ []

abbrev pub number_of : Reading Circuit → Option ℕ
number_of (read c next) = None
number_of (refused r) = Some (fault_number r.fault)

examples_numbered : map number_of answers ≡ numbers
examples_numbered = refl

pub examples_decoded : map (decoded base_limits) examples ≡ answers
unfolding decoded list count number body gates gate qubit meant
examples_decoded = refl
