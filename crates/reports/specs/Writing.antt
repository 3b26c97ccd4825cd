-- What the methods of a line say: a text is written behind what is written, at the line's end. No public contract cites it.
use Rattle.std.specs.Prelude.{◌≡◌, List, ℕ, ◌≤◌, length}
use Rattle.encodings.specs.Writing.{Put as Wrote}
use Rattle.reports.specs.declared.Line.{Line}

-- the bytes of the buffer
abbrev pub room : ℕ
room = 256

-- a text of at most `limit` bytes, written at the line's end into the same buffer
pub record Put (text : List ℕ) (limit : ℕ) (old new : Line) : Type 0 where
  pub wrote : Wrote text old.end old.buffer.now new.buffer.now new.end
  pub short : length text ≤ limit
  pub same : new.buffer.ghost_name ≡ old.buffer.ghost_name
