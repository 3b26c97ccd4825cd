-- The inverse of a list, and what its writer returns and leaves in the buffer. Definitions only; what is claimed of it is in Claims.antt.
use Rattle.std.specs.Prelude.{cond, List, [], ◌∷◌, ◌++◌, ℕ, leb, length, Result, Ok, Err}
use Rattle.gates.specs.Gate.{Gate, inverse}
use Rattle.circuits.specs.Refusals.{base_limits}
use Rattle.circuits.specs.Reading.{Reading, read, refused as unread, Circuit, decoded}
use Rattle.encodings.specs.Encoding.{list_bytes}
use Rattle.stores.specs.Columns.{over}
use Rattle.miters.specs.declared.CallFault.TheVariants.{ShortBuffer}
use Rattle.miters.specs.declared.Refusal.{Refusal}
use Rattle.miters.specs.declared.Refusal.TheVariants.{Call}
use Rattle.miters.specs.declared.Part.TheVariants.{First}
use Rattle.miters.specs.Report.{at_byte}

-- ---- the inverse

-- "gates in opposite order, each by its inverse code"
abbrev pub undone : List Gate → List Gate
undone [] = []
undone (g ∷ gs) = undone gs ++ (inverse g ∷ [])

-- "the list of its inverse", "numbers in the shortest form"
unfoldable pub inverse_bytes : Circuit → List ℕ
inverse_bytes c = list_bytes c.qubits (undone c.gates)

-- ---- its writer

-- what is returned, and what the buffer then holds
pub record Filled : Type 0 where
  pub answer : Result ℕ Refusal
  pub buffer : List ℕ

-- "16, the buffer is shorter than the inverse list; tested after 3 to 10, returned as a number"; else the bytes go to the front of
-- the buffer, "Bytes past the end keep what they held. It returns the bytes written."
abbrev pub put : List ℕ → List ℕ → Filled
put bytes buffer =
    cond (leb (length bytes) (length buffer)) (record { answer = Ok (length bytes); buffer = over bytes buffer })
    (record { answer = Err (Call ShortBuffer); buffer = buffer })

-- "Refusals 3 to 10 name list 1 here", and so does 17; "Any refusal leaves the buffer untouched."
abbrev pub inverted_by : List ℕ → Reading Circuit → Filled
inverted_by buffer (read c next) = put (inverse_bytes c) buffer
inverted_by buffer (unread why) = record { answer = Err (at_byte First why); buffer = buffer }

-- the answer on a list, with a buffer of these contents
unfoldable pub inverted : List ℕ → List ℕ → Filled
inverted list buffer = inverted_by buffer (decoded base_limits list)
