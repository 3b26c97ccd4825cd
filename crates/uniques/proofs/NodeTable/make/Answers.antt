-- `uniques::NodeTable::make` meets its contract: by what the search answers, the node is found, appended, or has no slot. Assumes nothing.
use mathlib.Core.Path.{◌≡◌, refl, ◌∙◌, ap}
use Prim.Native.Nat.{ℕ, ◌+◌, ◌<◌}
use native.Mathlib.Omega.{arith}
use lib.ListN.{length, get_or}
use Rattle.diagrams.specs.Diagram.{Node, branch, ref_of}
use Rattle.diagrams.proofs.References.{code_ref_of}
use Rattle.uniques.specs.UniqueTable.{node_hash}
use Rattle.uniques.proofs.Hashes.{node_hash_below}
use Rattle.uniques.proofs.NodeTables.{InColumns, in_columns, used_is, made_found, made_full, made_next}
use Rattle.uniques.proofs.NodeTable.make.Goals.{After-spread, Else-slot-self}
use Rattle.uniques.proofs.NodeTable.make.Goals as goal

abbrev wanted : (c : After-spread) → Node
wanted c = branch c.args.node.level (ref_of c.args.node.low) (ref_of c.args.node.high)

-- the three numbers are spread as the node is
hashed : (c : After-spread) → c.spread.result ≡ node_hash c.args.self.now.heads (wanted c)
unfolding node_hash
hashed c = c.spread.ensures ∙ simp (code_ref_of, c.from.ensures)

-- the head of the chain is in the index
head_in : (c : After-spread) → length c.args.self.now.level.now + c.spread.result < length c.args.self.now.index.now
head_in c =
    let t = c.args.self.now in
    let held = c.requires in
    omega (arith, hashed c, node_hash_below t.heads (wanted c) held.indexed.some_head, held.indexed.long)

-- a slot is left
left : (c : Else-slot-self) → c.args.self.now.used < length c.args.self.now.level.now
left c = omega (arith, used_is c.args.self.now, c.requires.indexed.room, c.if-slot-self.false)

free : (c : Else-slot-self) → let t = c.args.self.now in InColumns t.level.now t.low.now t.high.now t.index.now t.used
free c = in_columns c.requires c.args.self.now.used (left c)

pub overflow_add-head : goal.overflow_add-head
overflow_add-head c = omega (arith, head_in c, c.well_formed)

pub offset_bounds-self-head : goal.offset_bounds-self-head
offset_bounds-self-head c = omega (arith, head_in c, c.well_formed)

pub bounds-self-head : goal.bounds-self-head
bounds-self-head c = head_in ((goal.at.bounds-self-head c).After-spread)

pub find-requires-clause-chain : goal.find-requires-clause-chain
find-requires-clause-chain c =
    let t = c.args.self.now in
    ap (λ (h : ℕ). get_or t.index.now (length t.level.now + h) 0) (hashed ((goal.at.find-requires-clause-chain c).After-spread))

pub returns-in-Some-clause-made : goal.returns-in-Some-clause-made
returns-in-Some-clause-made c =
    let at = c.args in
    made_found at.self.now at.self.now c.requires at.node.level at.node.low at.node.high c.if-node.false
    c.in-Some.i c.in-Some.ensures (refl, refl, refl, refl, refl)

pub returns-then-slot-self-clause-made : goal.returns-then-slot-self-clause-made
returns-then-slot-self-clause-made c =
    let at = c.args in
    made_full at.self.now at.self.now c.requires at.node.level at.node.low at.node.high c.if-node.false
    c.in_default.ensures (omega (arith, c.if-slot-self.true))
    (refl, refl, refl, refl, refl)

pub bounds-self-slot : goal.bounds-self-slot
bounds-self-slot c = (free ((goal.at.bounds-self-slot c).Else-slot-self)).in_level

pub bounds-self-slot-2 : goal.bounds-self-slot-2
bounds-self-slot-2 c = (free ((goal.at.bounds-self-slot-2 c).Else-slot-self)).in_low

pub bounds-self-slot-3 : goal.bounds-self-slot-3
bounds-self-slot-3 c = (free ((goal.at.bounds-self-slot-3 c).Else-slot-self)).in_high

pub link-requires : goal.link-requires
link-requires c =
    let at = free ((goal.at.link-requires c).Else-slot-self) in
    (at.in_index, head_in ((goal.at.link-requires c).After-spread), omega (arith, at.small))

pub overflow_add-self : goal.overflow_add-self
overflow_add-self c = omega (arith, (free ((goal.at.overflow_add-self c).Else-slot-self)).small)

pub overflow_mul-result-2 : goal.overflow_mul-result-2
overflow_mul-result-2 c = omega (arith, (free ((goal.at.overflow_mul-result-2 c).Else-slot-self)).small)

pub overflow_add-result-2 : goal.overflow_add-result-2
overflow_add-result-2 c = omega (arith, (free ((goal.at.overflow_add-result-2 c).Else-slot-self)).small)

pub returns-clause-made : goal.returns-clause-made
returns-clause-made c =
    let at = c.args in
    made_next at.self.now _ c.requires at.node.level at.node.low at.node.high c.if-node.false
    c.spread.result _ (hashed ((goal.at.returns-clause-made c).After-spread)) c.in_default.ensures
    (left ((goal.at.returns-clause-made c).Else-slot-self)) refl refl refl refl c.link.ensures refl
