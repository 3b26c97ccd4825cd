-- `lowerings::divide_all` meets its contract. The loop's invariant: the terminals passed are divided, the others as they were.
-- Assumes nothing.
use Rattle.std.proofs.Common.{◌≡◌, ◌++◌, map, take, drop}
use Rattle.algebra.specs.Division.{over_√2}
use Rattle.lowerings.proofs.divide_all.Given as goal

abbrev pub invariant-loop-x : goal.invariant-loop-x
invariant-loop-x l = l.terminals ≡ map over_√2 (take l.x-index l.initial.terminals) ++ drop l.x-index l.initial.terminals
