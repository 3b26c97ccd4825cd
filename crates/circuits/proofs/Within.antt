-- An accepted list is within the limits; gates that fit, and how large their numbers can be.
-- Assumes nothing.
use mathlib.Core.Path.{◌≡◌, subst}
use mathlib.Core.List.{List, [], ◌∷◌, ◌++◌}
use Prim.Native.Nat.{ℕ, ◌<◌, ◌≤◌}
use native.Mathlib.Omega.{arith}
use lib.ListN.{length}
use lib.Pow.{pow_mono}
use Rattle.gates.specs.Gate.{Gate, on, pair, toffoli, fredkin, Meant, one, two, mask_one, mask_two, unknown, meant, Fits, AllFit}
use Rattle.circuits.specs.declared.Limits.{Limits}
use Rattle.circuits.specs.Refusals.{bad_qubit_count, bad_gate_count}
use Rattle.circuits.specs.Reading.{read, number, qubit, target_qubit, mask, free_qubit, second_qubit, operands, gate, gates, Circuit, decoded}
use Rattle.circuits.specs.Answers.{control, first_target, last_target}
use Rattle.circuits.specs.Within.{Within}
use Rattle.circuits.proofs.Readings.{refused_read, read_value, parts, gates_step}
use Rattle.circuits.proofs.Checks.{qubit_checked, target_checked, mask_checked, free_checked, second_checked, count_checked}
use Rattle.circuits.proofs.Remaining.{decoded_accepted}

-- ---- gates that were read fit

module _ (n : ℕ) (s : List ℕ) where
  operands_fit : (start at : ℕ) (m : Meant) {g : Gate} {next : ℕ} → operands n start m s at ≡ read g next → Fits n g
  operands_fit start at (one k) e =
      let q = parts (qubit n s at) e in
      subst (Fits n) (read_value q.second) (qubit_checked s at n q.first).1
  operands_fit start at (two k) e =
      let p = parts (qubit n s at) e in
      let q = parts (target_qubit n p.value s p.next) p.second in
      let t = target_checked s p.next n p.value q.first in
      subst (Fits n) (read_value q.second) ((qubit_checked s at n p.first).1, t.1, t.2)
  operands_fit start at mask_one e =
      let m = parts (mask n 2 s at) e in
      let q = parts (free_qubit n m.value s m.next) m.second in
      let k = mask_checked s at n 2 m.first in
      let t = free_checked s m.next n m.value q.first in
      subst (Fits n) (read_value q.second) ((k.1, k.2), t.1, t.2)
  operands_fit start at mask_two e =
      let m = parts (mask n 1 s at) e in
      let p = parts (free_qubit n m.value s m.next) m.second in
      let q = parts (second_qubit n m.value p.value s p.next) p.second in
      let k = mask_checked s at n 1 m.first in
      let t = free_checked s m.next n m.value p.first in
      let u = second_checked s p.next n m.value p.value q.first in
      subst (Fits n) (read_value q.second) ((k.1, k.2), (t.1, t.2), (u.1, u.2), u.3)
  operands_fit start at unknown e = absurd (refused_read e)

  pub gate_fits : (at : ℕ) {g : Gate} {next : ℕ} → gate n s at ≡ read g next → Fits n g
  unfolding gate
  gate_fits at e =
      let c = parts (number s at) e in
      operands_fit at c.next (meant c.value) c.second

  gates_fit : (at : ℕ) (gs : List Gate) {next : ℕ} → gates n (length gs) s at ≡ read gs next → AllFit n gs
  gates_fit at [] e = tt
  gates_fit at (g ∷ gs) e =
      let c = gates_step n (length gs) s at e in
      (gate_fits at c.gate_here, gates_fit c.next gs c.others)

-- ---- lists

pub decoded_within : (limits : Limits) (s : List ℕ) {c : Circuit} {next : ℕ} → decoded limits s ≡ read c next → Within limits c.qubits c.gates
decoded_within limits s {c} e =
    let a = decoded_accepted limits s e in
    let q = count_checked s 0 1 limits.qubits bad_qubit_count a.qubit_count in
    let m = count_checked s a.middle 0 limits.gates bad_gate_count a.gate_count in
    record { some_qubit = q.1; few_qubits = q.2; few_gates = m.2; all_fit = gates_fit c.qubits s c.first c.gates a.all_gates }

-- ---- gates that fit, joined

pub append_fit : (n : ℕ) (gs hs : List Gate) → AllFit n gs → AllFit n hs → AllFit n (gs ++ hs)
append_fit n [] hs fit fit' = fit'
append_fit n (g ∷ gs) hs fit fit' = (fit.0, append_fit n gs hs fit.1 fit')

-- ---- the numbers of a gate that fits

pub control_small : (n : ℕ) (g : Gate) → n ≤ 16 → Fits n g → control g < 65536
control_small n (on k q) few fits = omega arith
control_small n (pair k p q) few fits = omega (arith, fits.0)
control_small n (toffoli m q) few fits = omega (arith, fits.0.0, pow_mono {i = n} {j = 16} few)
control_small n (fredkin m p q) few fits = omega (arith, fits.0.0, pow_mono {i = n} {j = 16} few)

pub target_small : (n : ℕ) (g : Gate) → n ≤ 16 → Fits n g → first_target g < 16
target_small n (on k q) few fits = omega (arith, fits)
target_small n (pair k p q) few fits = omega (arith, fits.1)
target_small n (toffoli m q) few fits = omega (arith, fits.1)
target_small n (fredkin m p q) few fits = omega (arith, fits.1.0)

pub second_small : (n : ℕ) (g : Gate) → n ≤ 16 → Fits n g → last_target g < 16
second_small n (on k q) few fits = omega (arith, fits)
second_small n (pair k p q) few fits = omega (arith, fits.1)
second_small n (toffoli m q) few fits = omega (arith, fits.1)
second_small n (fredkin m p q) few fits = omega (arith, fits.2.0)
