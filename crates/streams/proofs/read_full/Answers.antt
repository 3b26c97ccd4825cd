-- `streams::read_full`: one more piece is read behind those that stand at the buffer's front. Assumes nothing.
use Rattle.std.proofs.Common.{rules}
use Rattle.std.proofs.KnownBytes.{Consumes-trans}
use Rattle.streams.proofs.Pieces.{front_of_pieces}
use Rattle.streams.proofs.read_full.Goals as goal

pub loop-done-preserved : goal.loop-done-preserved
loop-done-preserved g c =
    let piece = c.in-Ok.ensures in
    let front = front_of_pieces c.loop-done.done c.in-Ok.n c.loop-done.buffer c.read.new.buf c.loop-done.invariant.0 piece.bound.0 in
    (search rules, rw front (Consumes-trans _ _ _ _ _ c.loop-done.invariant.1 piece.bytes.0))
