-- `encodings::Writer::number` meets its contract. Assumes nothing.
use native.Mathlib.Omega.{arith}
use Rattle.encodings.proofs.Puts.{writing_none, writing_room, writing_more, writing_last, writing_all}
use Rattle.encodings.proofs.Writer.number.Goals as goal

pub loop-group-init : goal.loop-group-init
loop-group-init c = writing_none _ _ c.requires.v_bound

pub byte-requires : goal.byte-requires
byte-requires c = writing_room c.loop-group.invariant c.requires.v_in_bounds

pub loop-group-preserved : goal.loop-group-preserved
loop-group-preserved c = writing_more c.loop-group.invariant _ (omega arith) c.byte.ensures

pub overflow_cast-rest-2 : goal.overflow_cast-rest-2
overflow_cast-rest-2 c = omega (arith, writing_last c.loop-group.invariant (omega arith))

pub byte-requires-2 : goal.byte-requires-2
byte-requires-2 c = writing_room c.loop-group.invariant c.requires.v_in_bounds

pub returns : goal.returns
returns c = writing_all c.loop-group.invariant (omega arith) c.byte-2.new.self c.byte-2.ensures
