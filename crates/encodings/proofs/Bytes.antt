-- An encoding consists of bytes.
-- Assumes nothing.
use mathlib.Core.List.{List, [], ◌∷◌, ◌++◌}
use Prim.Native.Nat.{ℕ, ◌^◌, ◌<◌, ◌≤◌}
use native.Mathlib.Omega.{arith}
use lib.ListN.{length}
use lib.Pow.{pow_mono}
use Rattle.gates.specs.Gate.{Gate, on, pair, toffoli, fredkin, Fits, AllFit}
use Rattle.circuits.specs.declared.Limits.{Limits}
use Rattle.circuits.specs.Within.{Within}
use Rattle.circuits.specs.Codes.{gate_code}
use Rattle.encodings.specs.Encoding.{number_bytes, operand_bytes, gate_bytes, gates_bytes, list_bytes, Bytes}
use Rattle.encodings.proofs.Numbers.{one_byte, two_bytes, three_bytes, one, two, three, sized}
use Rattle.encodings.proofs.Gates.{small_code}

append_bytes : (xs ys : List ℕ) → Bytes xs → Bytes ys → Bytes (xs ++ ys)
append_bytes [] ys bx by = by
append_bytes (x ∷ xs) ys bx by = (bx.0, append_bytes xs ys bx.1 by)

number_bytes_small : (v : ℕ) → v < 2097152 → Bytes (number_bytes v)
number_bytes_small v small = elim (sized v small) [
  | one h ↦ rw (one_byte v h) (omega arith)
  | two l h ↦ rw (two_bytes v l h) (omega arith)
  | three l h ↦ rw (three_bytes v l) (omega arith)
]

module _ (n : ℕ) (few : n < 2097152) (narrow : 2 ^ n ≤ 2097152) where
  operand_bytes_small : (g : Gate) → Fits n g → Bytes (operand_bytes g)
  operand_bytes_small (on k q) fits = number_bytes_small q (omega arith)
  operand_bytes_small (pair k p q) fits =
      append_bytes (number_bytes p) (number_bytes q) (number_bytes_small p (omega arith)) (number_bytes_small q (omega arith))
  operand_bytes_small (toffoli mask q) fits =
      append_bytes (number_bytes mask) (number_bytes q) (number_bytes_small mask (omega (arith, fits.0.0)))
      (number_bytes_small q (omega (arith, fits.1)))
  operand_bytes_small (fredkin mask p q) fits =
      append_bytes (number_bytes mask) (number_bytes p ++ number_bytes q) (number_bytes_small mask (omega (arith, fits.0.0)))
      (append_bytes (number_bytes p) (number_bytes q) (number_bytes_small p (omega (arith, fits.1.0)))
      (number_bytes_small q (omega (arith, fits.2.0))))

  gate_bytes_small : (g : Gate) → Fits n g → Bytes (gate_bytes g)
  gate_bytes_small g fits =
      append_bytes (number_bytes (gate_code g)) (operand_bytes g) (number_bytes_small (gate_code g) (omega (arith, small_code g)))
      (operand_bytes_small g fits)

  gates_bytes_small : (gs : List Gate) → AllFit n gs → Bytes (gates_bytes gs)
  gates_bytes_small [] fit = tt
  gates_bytes_small (g ∷ gs) fit =
      append_bytes (gate_bytes g) (gates_bytes gs) (gate_bytes_small g fit.0) (gates_bytes_small gs fit.1)

module _ (limits : Limits) (small_qubits : limits.qubits ≤ 21) (small_gates : limits.gates < 2097152) where
  pub encoding_bytes : (n : ℕ) (gs : List Gate) → Within limits n gs → Bytes (list_bytes n gs)
  unfolding list_bytes
  encoding_bytes n gs w =
      let m = number_bytes (length gs) in
      append_bytes (number_bytes n) (m ++ gates_bytes gs) (number_bytes_small n (omega arith))
      (append_bytes m (gates_bytes gs) (number_bytes_small (length gs) (omega arith))
      (gates_bytes_small n (omega (arith, w.few_qubits)) (pow_mono {i = n} {j = 21} (omega (arith, w.few_qubits))) gs w.all_fit))
