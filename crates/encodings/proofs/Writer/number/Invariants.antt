-- `encodings::Writer::number` meets its contract. The loop's invariant: some groups are written, and those of the rest make the number
-- whole. Assumes nothing.
use Rattle.encodings.proofs.Puts.{Writing}
use Rattle.encodings.proofs.Writer.number.Given as goal

abbrev pub invariant-loop-group : goal.invariant-loop-group
invariant-loop-group l = Writing l.v l.initial.self l.self l.rest l._group
