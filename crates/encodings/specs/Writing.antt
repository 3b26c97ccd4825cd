-- What the writers say: some bytes are written into the buffer at a place, and the place after them is written next. No public contract
-- of a call cites it.
use Rattle.std.specs.Prelude.{◌≡◌, List, ℕ, ◌+◌, length}
use Rattle.std.proofs.lemmas.List.Edits.{sets}
use Rattle.encodings.specs.declared.Writer.{Writer}

pub record Put (bytes : List ℕ) (at : ℕ) (before after : List ℕ) (next : ℕ) : Type 0 where
  pub place : next ≡ at + length bytes
  pub stored : after ≡ sets before at bytes

-- the writer goes on after them, in the same buffer
pub record Wrote (bytes : List ℕ) (old new : Writer) : Type 0 where
  pub put : Put bytes old.at old.buffer.now new.buffer.now new.at
  pub same_buffer : new.buffer.ghost_name ≡ old.buffer.ghost_name
