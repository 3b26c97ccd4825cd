-- `tables::note` meets its contract: past the regions there is room for an entry, and a write keeps the length. Assumes nothing.
use native.Mathlib.Omega.{arith}
use lib.ListN.{length-set}
use Rattle.tables.proofs.Slots.{at_room}
use Rattle.tables.proofs.note.Goals as goal

pub bounds-memo-at-3 : goal.bounds-memo-at-3
bounds-memo-at-3 c = simp length-set (omega (arith, at_room c.requires c.if-at-plan.false))

pub bounds-memo-at-4 : goal.bounds-memo-at-4
bounds-memo-at-4 c = simp length-set (omega (arith, at_room c.requires c.if-at-plan.false))

pub bounds-memo-at-5 : goal.bounds-memo-at-5
bounds-memo-at-5 c = simp length-set (omega (arith, at_room c.requires c.if-at-plan.false))
