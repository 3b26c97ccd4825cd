-- What is left of a list. No demand cites it. Definitions only; its laws are in proofs/Remaining.antt.
use Rattle.std.specs.Prelude.{◌≡◌, List, ℕ, length}
use Rattle.gates.specs.Gate.{Gate}
use Rattle.circuits.specs.Reading.{read, gates}

-- from the offset to the end the bytes are these gates
abbrev pub Remaining : ℕ → List ℕ → ℕ → List Gate → Type 0
Remaining n s at gs = gates n (length gs) s at ≡ read gs (length s)
