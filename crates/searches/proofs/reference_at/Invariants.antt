-- The loop's invariant: from r on, the bits of the qubits left lead to where all the bits lead from the root. Assumes nothing.
use Rattle.searches.proofs.Entries.{Descended}
use Rattle.searches.proofs.reference_at.Given as goal

abbrev pub invariant-loop-q : goal.invariant-loop-q
invariant-loop-q l = Descended l.nodes l.fn.used.nodes l.n l.row l.column l.r l.q
