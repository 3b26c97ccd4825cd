-- A list followed by its inverse, against the empty list. Definitions only; that the claim holds is in proofs/Undoing.antt.
use Rattle.std.specs.Prelude.{◌≡◌, ◌⊎◌, List, [], ◌++◌, ℕ}
use Rattle.algebra.specs.declared.Entry.{Entry}
use Rattle.circuits.specs.Refusals.{base_limits}
use Rattle.circuits.specs.Reading.{read, Circuit, decoded}
use Rattle.encodings.specs.Encoding.{list_bytes}
use Rattle.stores.specs.Columns.{Columns}
use Rattle.miters.specs.declared.Refusal.{Refusal}
use Rattle.miters.specs.declared.Verdict.TheVariants.{Equal as equal_with, Refused}
use Rattle.miters.specs.Run.{Outcome}
use Rattle.judges.specs.Answer.{answer}
use Rattle.inverses.specs.Inverse.{undone}

-- the bytes of "a list followed by its inverse", and of "the empty list" on as many qubits
unfoldable pub followed : Circuit → List ℕ
followed c = list_bytes c.qubits (c.gates ++ undone c.gates)

unfoldable pub empty : Circuit → List ℕ
empty c = list_bytes c.qubits []

-- "says equal unless refused"
abbrev pub EqualUnlessRefused : Outcome → Type 0
EqualUnlessRefused o = ((z : Entry) × (o.report.verdict ≡ equal_with z)) ⊎ ((why : Refusal) × (o.report.verdict ≡ Refused why))

-- "Checking a list followed by its inverse against the empty list says equal unless refused.": for every list that is accepted, along any
-- schedule, at any width, in stores of any sizes and contents
abbrev pub UndoingEqual : Type 0
UndoingEqual =
    (list : List ℕ) (c : Circuit) (end : ℕ) → decoded base_limits list ≡ read c end
    → (schedule : List ℕ) (w : ℕ) (first second : Columns) → EqualUnlessRefused (answer (followed c) (empty c) schedule w first second)
