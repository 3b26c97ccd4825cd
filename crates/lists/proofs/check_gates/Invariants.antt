-- `lists::check_gates` meets its contract. The loop's invariant: the list's answer is that of the gates still to be read, from
-- the reader's offset on.
-- Assumes nothing.
use Prim.Native.Nat.{◌-◌}
use Rattle.lists.proofs.Lists.{Left}
use Rattle.lists.proofs.check_gates.Given as goal

abbrev pub invariant-loop : goal.invariant-loop
invariant-loop l = Left l.qubits l.gates l.fn.reader (l.gates - l.counter) l.reader
