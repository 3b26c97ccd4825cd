-- `uniques::ValueTable::make` meets its contract: by what the search answers, the terminal is found, appended, or has no slot. Assumes nothing.
use mathlib.Core.Path.{refl}
use Prim.Native.Nat.{◌+◌, ◌<◌}
use native.Mathlib.Omega.{arith}
use lib.ListN.{length}
use Rattle.uniques.proofs.Hashes.{value_hash_below}
use Rattle.uniques.proofs.ValueTables.{InSlots, in_slots, used_is, made_found, made_full, made_next}
use Rattle.uniques.proofs.ValueTable.make.Goals.{After-hash_value, Else-slot-room}
use Rattle.uniques.proofs.ValueTable.make.Goals as goal

-- the head of the chain is in the index
head_in : (c : After-hash_value) → length c.args.self.now.terminals.now + c.hash_value.result < length c.args.self.now.index.now
head_in c =
    let held = c.requires in
    omega (arith, c.hash_value.ensures, value_hash_below c.args.self.now.heads c.args.terminal held.indexed.some_head, held.indexed.long)

-- a slot is left
left : (c : Else-slot-room) → c.args.self.now.used < length c.args.self.now.terminals.now
left c = omega (arith, used_is c.args.self.now, c.requires.indexed.room, c.if-slot-room.false)

free : (c : Else-slot-room) → let t = c.args.self.now in InSlots t.terminals.now t.index.now t.used
free c = in_slots c.requires c.args.self.now.used (left c)

pub overflow_add-head : goal.overflow_add-head
overflow_add-head c = omega (arith, head_in c, c.well_formed)

pub offset_bounds-self-head : goal.offset_bounds-self-head
offset_bounds-self-head c = omega (arith, head_in c, c.well_formed)

pub bounds-self-head : goal.bounds-self-head
bounds-self-head c = head_in ((goal.at.bounds-self-head c).After-hash_value)

pub returns-in-Some-clause-made : goal.returns-in-Some-clause-made
returns-in-Some-clause-made c =
    made_found c.args.self.now c.requires c.args.terminal c.args.self.now c.in-Some.j c.in-Some.ensures (refl, refl, refl)

pub returns-then-slot-room-clause-made : goal.returns-then-slot-room-clause-made
returns-then-slot-room-clause-made c =
    made_full c.args.self.now c.requires c.args.terminal c.args.self.now c.in_default.ensures (omega (arith, c.if-slot-room.true)) (refl, refl, refl)

pub bounds-self-slot : goal.bounds-self-slot
bounds-self-slot c = (free ((goal.at.bounds-self-slot c).Else-slot-room)).in_vals

pub link-requires : goal.link-requires
link-requires c =
    let at = free ((goal.at.link-requires c).Else-slot-room) in
    (at.in_index, head_in ((goal.at.link-requires c).After-hash_value), omega (arith, at.small))

pub overflow_add-self : goal.overflow_add-self
overflow_add-self c = omega (arith, (free ((goal.at.overflow_add-self c).Else-slot-room)).small)

pub overflow_mul-result-2 : goal.overflow_mul-result-2
overflow_mul-result-2 c = omega (arith, (free ((goal.at.overflow_mul-result-2 c).Else-slot-room)).small)

pub returns-clause-made : goal.returns-clause-made
returns-clause-made c =
    made_next c.args.self.now c.requires c.args.terminal c.hash_value.result _ c.hash_value.ensures c.in_default.ensures
    (left ((goal.at.returns-clause-made c).Else-slot-room)) refl refl c.link.ensures refl
