-- The codes of the gates. Definitions only.
use Rattle.std.specs.Prelude.{ℕ}
use Rattle.gates.specs.Gate.{Kind, X, Y, Z, H, S, S†, T, T†, Pair, CNOT, CZ, Gate, on, pair, toffoli, fredkin}

-- "Gate codes: 0 X, 1 Y, 2 Z, 3 H, 4 S, 5 S†, 6 T, 7 T†, 8 CNOT, 9 CZ."; 10 and 11 with a mask
abbrev pub kind_code : Kind → ℕ
kind_code X = 0
kind_code Y = 1
kind_code Z = 2
kind_code H = 3
kind_code S = 4
kind_code S† = 5
kind_code T = 6
kind_code T† = 7

abbrev pub pair_code : Pair → ℕ
pair_code CNOT = 8
pair_code CZ = 9

abbrev pub gate_code : Gate → ℕ
gate_code (on k q) = kind_code k
gate_code (pair k p q) = pair_code k
gate_code (toffoli mask q) = 10
gate_code (fredkin mask p q) = 11
