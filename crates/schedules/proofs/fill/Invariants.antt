-- `schedules::fill` meets its contract. The loop's invariant: the steps so far are written, and neither list has given more than it
-- has. Assumes nothing.
use Rattle.schedules.proofs.Filling.{Filling}
use Rattle.schedules.proofs.fill.Given as goal

abbrev pub invariant-loop-slot : goal.invariant-loop-slot
invariant-loop-slot l = Filling l.m l.p l.slots l.i l.j l.slot-index
