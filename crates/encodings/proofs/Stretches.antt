-- What is read of a list is, part after part, the encoding of what it is read as. The law is over the relation between two offsets and
-- the bytes between them: one that holds of each number that is read and of two joined runs holds of all that is read.
-- Assumes nothing.
use mathlib.Core.Path.{◌≡◌, refl, subst, subst₂}
use mathlib.Core.List.{List, [], ◌∷◌, ◌++◌}
use Prim.Native.Nat.{ℕ}
use lib.ListN.{length}
use Rattle.gates.specs.Gate.{Gate, Meant, one, two, mask_one, mask_two, unknown, meant}
use Rattle.circuits.specs.declared.Limits.{Limits}
use Rattle.circuits.specs.Reading.{read, number, qubit, target_qubit, mask, free_qubit, second_qubit, operands, gate, gates, Circuit, decoded}
use Rattle.circuits.specs.Codes.{gate_code}
use Rattle.circuits.proofs.Readings.{read_value, read_next, refused_read, parts, gates_step}
use Rattle.circuits.proofs.Checks.{qubit_checked, target_checked, mask_checked, free_checked, second_checked, count_checked}
use Rattle.circuits.proofs.Codes.{meant_one, meant_two, meant_mask_one, meant_mask_two}
use Rattle.circuits.proofs.Remaining.{decoded_accepted}
use Rattle.encodings.specs.Encoding.{number_bytes, operand_bytes, gate_bytes, gates_bytes}

-- the relation holds of no bytes, of the bytes of a number that is read, and of two runs of which the second starts where the first ends
pub record Stretch (s : List ℕ) (Of : ℕ → List ℕ → ℕ → Type 0) : Type 0 where
  pub of_none : (at : ℕ) → Of at [] at
  pub of_number : (at : ℕ) {v next : ℕ} → number s at ≡ read v next → Of at (number_bytes v) next
  pub of_both : {at middle next : ℕ} {xs ys : List ℕ} → Of at xs middle → Of middle ys next → Of at (xs ++ ys) next

module _ (s : List ℕ) {Of : ℕ → List ℕ → ℕ → Type 0} (stretch : Stretch s Of) where
  module _ (n : ℕ) where
    -- the rest of a gate, after its code
    record Rest (code at : ℕ) (g : Gate) (next : ℕ) : Type 0 where
      code_is : code ≡ gate_code g
      of_operands : Of at (operand_bytes g) next

    operands_rest : (code start at : ℕ) (m : Meant) {g : Gate} {next : ℕ} → meant code ≡ m → operands n start m s at ≡ read g next
        → Rest code at g next
    operands_rest code start at (one k) e f =
        let q = parts (qubit n s at) f in
        subst₂ (Rest code at) (read_value q.second) (read_next q.second)
        (record { code_is = meant_one code e; of_operands = stretch.of_number at (qubit_checked s at n q.first).0 })
    operands_rest code start at (two k) e f =
        let p = parts (qubit n s at) f in
        let q = parts (target_qubit n p.value s p.next) p.second in
        let control = stretch.of_number at (qubit_checked s at n p.first).0 in
        let target = stretch.of_number p.next (target_checked s p.next n p.value q.first).0 in
        subst₂ (Rest code at) (read_value q.second) (read_next q.second)
        (record { code_is = meant_two code e; of_operands = stretch.of_both control target })
    operands_rest code start at mask_one e f =
        let m = parts (mask n 2 s at) f in
        let q = parts (free_qubit n m.value s m.next) m.second in
        let controls = stretch.of_number at (mask_checked s at n 2 m.first).0 in
        let target = stretch.of_number m.next (free_checked s m.next n m.value q.first).0 in
        subst₂ (Rest code at) (read_value q.second) (read_next q.second)
        (record { code_is = meant_mask_one code e; of_operands = stretch.of_both controls target })
    operands_rest code start at mask_two e f =
        let m = parts (mask n 1 s at) f in
        let p = parts (free_qubit n m.value s m.next) m.second in
        let q = parts (second_qubit n m.value p.value s p.next) p.second in
        let controls = stretch.of_number at (mask_checked s at n 1 m.first).0 in
        let first = stretch.of_number m.next (free_checked s m.next n m.value p.first).0 in
        let second = stretch.of_number p.next (second_checked s p.next n m.value p.value q.first).0 in
        subst₂ (Rest code at) (read_value q.second) (read_next q.second)
        (record { code_is = meant_mask_two code e; of_operands = stretch.of_both controls (stretch.of_both first second) })
    operands_rest code start at unknown e f = absurd (refused_read f)

    gate_stretch : (at : ℕ) {g : Gate} {next : ℕ} → gate n s at ≡ read g next → Of at (gate_bytes g) next
    unfolding gate
    gate_stretch at e =
        let c = parts (number s at) e in
        let r = operands_rest c.value at c.next (meant c.value) refl c.second in
        let code = stretch.of_number at c.first in
        stretch.of_both (subst (λ (v : ℕ). Of at (number_bytes v) c.next) r.code_is code) r.of_operands

    pub gates_stretch : (at : ℕ) (gs : List Gate) {next : ℕ} → gates n (length gs) s at ≡ read gs next → Of at (gates_bytes gs) next
    unfolding gates
    gates_stretch at [] e = subst (Of at []) (read_next e) (stretch.of_none at)
    gates_stretch at (g ∷ gs) e =
        let c = gates_step n (length gs) s at e in
        stretch.of_both (gate_stretch at c.gate_here) (gates_stretch c.next gs c.others)

  -- the parts of an accepted list
  pub record Parts (c : Circuit) : Type 0 where
    pub middle : ℕ
    pub of_qubits : Of 0 (number_bytes c.qubits) middle
    pub of_count : Of middle (number_bytes (length c.gates)) c.first
    pub of_gates : Of c.first (gates_bytes c.gates) (length s)

  pub decoded_parts : (limits : Limits) {c : Circuit} {next : ℕ} → decoded limits s ≡ read c next → Parts c
  decoded_parts limits {c} e =
      let a = decoded_accepted limits s e in
      record {
        middle = a.middle;
        of_qubits = stretch.of_number 0 (count_checked s 0 _ _ _ a.qubit_count).0;
        of_count = stretch.of_number a.middle (count_checked s a.middle _ _ _ a.gate_count).0;
        of_gates = gates_stretch c.qubits c.first c.gates a.all_gates;
      }
