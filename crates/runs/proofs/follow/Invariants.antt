-- The loop's invariant: the stores and the scratch are the same ones, and i steps are taken, whose diagram is in the current store.
use Rattle.runs.proofs.Loops.{Turning}
use Rattle.runs.proofs.follow.Given as goal

abbrev pub invariant-loop-i : goal.invariant-loop-i
invariant-loop-i l =
    let o = l.initial in
    Turning l.course l.sizes o.first o.second o.scratch l.lists l.taken l.i l.first l.second l.scratch
