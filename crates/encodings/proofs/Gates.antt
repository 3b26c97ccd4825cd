-- Gates are read where their encoding stands, in a list of n qubits.
-- Assumes nothing.
use mathlib.Core.Bool.{false}
use mathlib.Core.Path.{◌≡◌, sym, ◌∙◌, ap}
use mathlib.Core.List.{List, [], ◌∷◌, ◌++◌}
use Prim.Native.Nat.{ℕ, ◌+◌, ◌^◌, ◌<◌, ◌≤◌}
use lib.Count.{ones}
use native.Mathlib.Nat.{add-zero}
use native.Mathlib.Omega.{arith}
use borrow.Author.Tests.{lt-ltb, le-leb, ne_eqb}
use lib.ListN.{length}
use Rattle.gates.specs.Gate.{X, Y, Z, H, S, S†, T, T†, CNOT, CZ, Gate, on, pair, toffoli, fredkin, in_mask, meant, Fits, AllFit}
use Rattle.circuits.specs.Reading.{read, qubit, target_qubit, mask_below, mask, free_qubit, second_qubit, gate, gates}
use Rattle.circuits.specs.Codes.{kind_code, pair_code, gate_code}
use Rattle.encodings.specs.Encoding.{number_bytes, gate_bytes, gates_bytes}
use Rattle.circuits.proofs.Codes.{kind_meant, pair_meant}
use Rattle.encodings.proofs.Spelling.{Spelled, split}
use Rattle.encodings.proofs.Numbers.{number_reads}

-- ---- codes take one byte

pub small_code : (g : Gate) → gate_code g < 128
small_code (on X q) = omega arith
small_code (on Y q) = omega arith
small_code (on Z q) = omega arith
small_code (on H q) = omega arith
small_code (on S q) = omega arith
small_code (on S† q) = omega arith
small_code (on T q) = omega arith
small_code (on T† q) = omega arith
small_code (pair CNOT p q) = omega arith
small_code (pair CZ p q) = omega arith
small_code (toffoli mask q) = omega arith
small_code (fredkin mask p q) = omega arith

-- ---- what is spelled there is read: three groups can hold the qubit count and each mask

module _ (n : ℕ) (few : n < 2097152) (narrow : 2 ^ n ≤ 2097152) (s : List ℕ) where
  qubit_reads : (at : ℕ) {q next : ℕ} → q < n → Spelled s at (number_bytes q) next → qubit n s at ≡ read q next
  unfolding qubit
  qubit_reads at {q} h p = rw (number_reads s at p (omega arith), lt-ltb q n h)

  target_reads : (p at : ℕ) {q next : ℕ} → q < n → (p ≡ q → ⊥) → Spelled s at (number_bytes q) next → target_qubit n p s at ≡ read q next
  unfolding target_qubit
  target_reads p at {q} h other e = rw (qubit_reads at h e, ne_eqb q p (λ f. other (sym f)))

  mask_reads : (least at : ℕ) {m next : ℕ} → m < 2 ^ n → least ≤ ones m → Spelled s at (number_bytes m) next → mask n least s at ≡ read m next
  unfolding mask mask_below
  mask_reads least at {m} below many e = rw (number_reads s at e (omega arith), lt-ltb m (2 ^ n) below, le-leb least (ones m) many)

  free_reads : (m at : ℕ) {q next : ℕ} → q < n → in_mask m q ≡ false → Spelled s at (number_bytes q) next → free_qubit n m s at ≡ read q next
  unfolding free_qubit
  free_reads m at {q} h free e = rw (qubit_reads at h e, free)

  second_reads : (m p at : ℕ) {q next : ℕ} → q < n → in_mask m q ≡ false → (p ≡ q → ⊥) → Spelled s at (number_bytes q) next
      → second_qubit n m p s at ≡ read q next
  unfolding second_qubit
  second_reads m p at {q} h free other e = rw (free_reads m at h free e, ne_eqb q p (λ f. other (sym f)))

  gate_reads : (at : ℕ) (g : Gate) {next : ℕ} → Fits n g → Spelled s at (gate_bytes g) next → gate n s at ≡ read g next
  unfolding gate meant
  gate_reads at (on k q) fits e =
      let c = split (number_bytes (kind_code k)) (number_bytes q) e in
      rw (number_reads s at c.0 (omega (arith, small_code (on k q))), kind_meant k, qubit_reads _ fits c.1)
  gate_reads at (pair k p q) fits e =
      let c = split (number_bytes (pair_code k)) (number_bytes p ++ number_bytes q) e in
      let d = split (number_bytes p) (number_bytes q) c.1 in
      rw (number_reads s at c.0 (omega (arith, small_code (pair k p q))), pair_meant k, qubit_reads _ fits.0 d.0)
      (rw (target_reads p _ fits.1 fits.2 d.1))
  gate_reads at (toffoli mask q) fits e =
      let c = split (number_bytes 10) (number_bytes mask ++ number_bytes q) e in
      let d = split (number_bytes mask) (number_bytes q) c.1 in
      rw (number_reads s at c.0 (omega arith), mask_reads 2 _ fits.0.0 fits.0.1 d.0) (rw (free_reads mask _ fits.1 fits.2 d.1))
  gate_reads at (fredkin mask p q) fits e =
      let c = split (number_bytes 11) (number_bytes mask ++ (number_bytes p ++ number_bytes q)) e in
      let d = split (number_bytes mask) (number_bytes p ++ number_bytes q) c.1 in
      let f = split (number_bytes p) (number_bytes q) d.1 in
      rw (number_reads s at c.0 (omega arith), mask_reads 1 _ fits.0.0 fits.0.1 d.0)
      (rw (free_reads mask _ fits.1.0 fits.1.1 f.0) (rw (second_reads mask p _ fits.2.0 fits.2.1 fits.3 f.1)))

  pub gates_read : (at : ℕ) (gs : List Gate) {next : ℕ} → AllFit n gs → Spelled s at (gates_bytes gs) next
      → gates n (length gs) s at ≡ read gs next
  unfolding gates
  gates_read at [] fit e = ap (read []) (sym (e.after ∙ add-zero at))
  gates_read at (g ∷ gs) fit e =
      let c = split (gate_bytes g) (gates_bytes gs) e in
      rw (gate_reads at g fit.0 c.0, gates_read (at + length (gate_bytes g)) gs fit.1 c.1)
