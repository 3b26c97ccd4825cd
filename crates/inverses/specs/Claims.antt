-- What is claimed of the bytes that the writer of the inverse has written. Definitions only; that it holds is in proofs/Twice.antt.
use Rattle.std.specs.Prelude.{◌≡◌, List, ℕ, ◌≤◌, length, take, Ok}
use Rattle.circuits.specs.Refusals.{base_limits}
use Rattle.circuits.specs.Reading.{read, Circuit, decoded}
use Rattle.encodings.specs.Encoding.{Decodes}
use Rattle.stores.specs.Columns.{over}
use Rattle.inverses.specs.Inverse.{undone, inverted}

-- the call on this list with this buffer wrote k bytes
module _ (list buffer : List ℕ) (k : ℕ) where
  abbrev pub written : List ℕ
  written = take k (inverted list buffer).buffer

  pub record Undoes : Type 0 where
    pub c : Circuit
    pub end : ℕ
    pub was_read : decoded base_limits list ≡ read c end
    -- they are read as the gates "in opposite order, each by its inverse"
    pub decodes : Decodes base_limits written c.qubits (undone c.gates)
    -- "Doing it twice gives back the first bytes", in any buffer that has room for them
    pub back : (second : List ℕ) → k ≤ length second → inverted written second ≡ record { answer = Ok k; buffer = over list second }
