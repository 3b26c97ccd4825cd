-- `walks::begin` meets its contract: a value is settled, and else the state asks. Assumes nothing.
use Rattle.std.proofs.Common.{refl, sym, ◌∙◌}
use Rattle.leaves.proofs.Needs.{leaf_slots}
use Rattle.turns.proofs.Turning.{settled_walked}
use Rattle.walks.proofs.Views.{asking_of}
use Rattle.walks.proofs.begin.Goals as goal

pub settle-requires-clause-holds_slot : goal.settle-requires-clause-holds_slot
settle-requires-clause-holds_slot c =
    leaf_slots _ _ _ c.requires.source.values _ c.requires.valid_state (sym c.is_leaf.ensures ∙ c.if-is_leaf.true)

pub returns-then-is_leaf-clause-begun : goal.returns-then-is_leaf-clause-begun
returns-then-is_leaf-clause-begun c =
    settled_walked _ _ _ _ _ c.requires (sym c.is_leaf.ensures ∙ c.if-is_leaf.true) c.settle.ensures.same c.settle.ensures.settled

pub returns-clause-begun : goal.returns-clause-begun
returns-clause-begun c = (refl, asking_of _ c.asked.result c.requires c.is_leaf.ensures c.if-is_leaf.false c.asked.ensures)
