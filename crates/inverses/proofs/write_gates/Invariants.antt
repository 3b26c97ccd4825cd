-- `inverses::write_gates` meets its contract. The loop's invariant: the inverses of the gates not yet read, written from the first place
-- on, make the whole. Assumes nothing.
use Rattle.inverses.proofs.Writing.{Writing}
use Rattle.inverses.proofs.write_gates.Given as goal

abbrev pub invariant-loop : goal.invariant-loop
invariant-loop l = Writing l.list l.head.qubits l.head.gates l.head.first l.initial.buffer l.buffer l.reader l.counter
