-- What the code answers for each thing read: the values and the refusal for each case, and where the reader stands. Definitions only.
use Rattle.std.specs.Prelude.{◌≡◌, ℕ, Bool, cond, List, Result, Ok, Err}
use Rattle.std.specs.Borrow.{Bor}
use Rattle.gates.specs.Gate.{Gate, on, pair, toffoli, fredkin}
use Rattle.gates.specs.Code.{coded}
use Rattle.gates.specs.declared.Code.{Code}
use Rattle.gates.specs.declared.Operands.{Operands}
use Rattle.gates.specs.declared.Operands.TheVariants.{Qubit, Controlled, Masked, Exchanging}
use Rattle.circuits.specs.declared.Fault.{Fault}
use Rattle.circuits.specs.declared.Refusal.{Refusal}
use Rattle.circuits.specs.declared.Gate.{Gate as GateRead}
use Rattle.circuits.specs.declared.Reader.{Reader as ReaderAt}
use Rattle.circuits.specs.Refusals.{refusal}
use Rattle.circuits.specs.Reading.{Reading, Reader, read, refused, ◌>>=◌, pure, qubit, target_qubit, mask, free_qubit, second_qubit}

-- a reader borrows the list's bytes, and stands at an offset of them
abbrev pub reader_at : Bor (List ℕ) → ℕ → ReaderAt
reader_at bytes at = record { bytes = bytes; at = at }

-- what a reader returns for what stands next, and how it moves: the value, as the code has it, and past it; or the refusal, and then it
-- reads the same bytes, and where in them is left open here: `number` and `gate` say beside it that they stay
abbrev pub Says : {A B : Type 0} → (A → B) → Reading A → ReaderAt → ReaderAt → Result B Refusal → Type 0
Says f (read a next) old new r = (r ≡ Ok (f a)) × (new ≡ record old { at = next })
Says f (refused why) old new r = (r ≡ Err why) × (new.bytes ≡ old.bytes)

-- ---- gates

-- what stands before a gate's targets: its control or its mask, 0 where it names one qubit
abbrev pub control : Gate → ℕ
control (on k q) = 0
control (pair k p q) = p
control (toffoli mask q) = mask
control (fredkin mask p q) = mask

-- its targets as they stand there, the same one twice where there is one only
abbrev pub first_target : Gate → ℕ
first_target (on k q) = q
first_target (pair k p q) = q
first_target (toffoli mask q) = q
first_target (fredkin mask p q) = p

abbrev pub last_target : Gate → ℕ
last_target (on k q) = q
last_target (pair k p q) = q
last_target (toffoli mask q) = q
last_target (fredkin mask p q) = q

-- a gate as the code has it
abbrev pub gate_data : Gate → GateRead
gate_data g = record { code = coded g; control = control g; target = first_target g; second = last_target g }

-- ---- the parts of a gate, for the functions that read them

-- a number that starts at an offset, by whether it passes its test
abbrev pub kept : Bool → Fault → ℕ → ℕ → Result ℕ Refusal
kept passes fault at value = cond passes (Ok value) (Err (refusal fault at))

-- a gate of this code with its control or its mask, and its targets
abbrev pub data_of : Code → ℕ → ℕ → ℕ → GateRead
data_of code control target second = record { code = code; control = control; target = target; second = second }

-- a control and a target; the list has n qubits
abbrev pub controlled : ℕ → Code → Reader GateRead
controlled n code = do
  p ← qubit n
  q ← target_qubit n p
  pure (data_of code p q q)

-- a mask of at least so many controls and one target
abbrev pub masked : ℕ → Code → ℕ → Reader GateRead
masked n code least = do
  m ← mask n least
  q ← free_qubit n m
  pure (data_of code m q q)

-- and two targets
abbrev pub exchanging : ℕ → Code → ℕ → Reader GateRead
exchanging n code least = do
  m ← mask n least
  p ← free_qubit n m
  q ← second_qubit n m p
  pure (data_of code m p q)

-- by what follows its code
abbrev pub operands_data : ℕ → Code → Operands → Reader GateRead
operands_data n code Qubit = do
  q ← qubit n
  pure (data_of code 0 q q)
operands_data n code Controlled = controlled n code
operands_data n code (Masked least) = masked n code least
operands_data n code (Exchanging least) = exchanging n code least
