-- The codes of the gates as the code names them: the number of each, and the code of each gate. Definitions only.
use Rattle.std.specs.Prelude.{◌≡◌, ◌≤◌, ℕ, Result, Ok, Err}
use Rattle.gates.specs.Gate.{Kind, X, Y, Z, H, S, S†, T, T†, Pair, CNOT, CZ, Gate, on, pair, toffoli, fredkin}
use Rattle.gates.specs.declared.Code.{Code}
use Rattle.gates.specs.declared.UnknownCode.{UnknownCode}

-- "Gate codes: 0 X, 1 Y, 2 Z, 3 H, 4 S, 5 S†, 6 T, 7 T†, 8 CNOT, 9 CZ."; 10 and 11 with a mask
abbrev pub code_number : Code → ℕ
code_number Code.X = 0
code_number Code.Y = 1
code_number Code.Z = 2
code_number Code.H = 3
code_number Code.S = 4
code_number Code.SDagger = 5
code_number Code.T = 6
code_number Code.TDagger = 7
code_number Code.Cnot = 8
code_number Code.Cz = 9
code_number Code.Toffoli = 10
code_number Code.Fredkin = 11

-- what is said of a number: the code that it is, or, from 12 on, that it is none
abbrev pub Numbered : ℕ → Result Code UnknownCode → Type 0
Numbered number (Ok code) = code_number code ≡ number
Numbered number (Err why) = 12 ≤ number

-- the code of a gate
abbrev pub coded_kind : Kind → Code
coded_kind X = Code.X
coded_kind Y = Code.Y
coded_kind Z = Code.Z
coded_kind H = Code.H
coded_kind S = Code.S
coded_kind S† = Code.SDagger
coded_kind T = Code.T
coded_kind T† = Code.TDagger

abbrev pub coded_pair : Pair → Code
coded_pair CNOT = Code.Cnot
coded_pair CZ = Code.Cz

abbrev pub coded : Gate → Code
coded (on k q) = coded_kind k
coded (pair k p q) = coded_pair k
coded (toffoli mask q) = Code.Toffoli
coded (fredkin mask p q) = Code.Fredkin
