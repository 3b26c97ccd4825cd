-- `plans::stages_of` meets its contract: the slots so far have the first levels. Assumes nothing.
use Rattle.std.proofs.Common.{◌≡◌, length}
use lib.ListN.{take, replicate}
use lib.Seq.{sets}
use Rattle.plans.specs.Prepare.{side_number, levels_from}
use Rattle.plans.proofs.stages_of.Given as goal

abbrev pub invariant-loop-k : goal.invariant-loop-k
invariant-loop-k l =
    (goal.iterator-loop-k).can_next l.k-iterator × (goal.iterator-loop-k).is_finite l.k-iterator
    × (l.stages ≡ sets (replicate 16 0) 0 (take (length l.yielded) (levels_from 16 (side_number l.fn.side) l.fn.named)))
