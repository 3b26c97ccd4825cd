-- `lowerings::lower` meets its contract. The loop's invariant: lowering what is there comes to what lowering the first came to.
-- Assumes nothing.
use Rattle.std.proofs.Common.{◌≡◌}
use Rattle.algebra.specs.Lowering.{lower_values}
use Rattle.lowerings.proofs.lower.Given as goal

abbrev pub invariant-loop-k : goal.invariant-loop-k
invariant-loop-k l = lower_values l.k l.terminals ≡ lower_values l.power l.initial.terminals
