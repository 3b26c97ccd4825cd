-- `identities::write_qubits` meets its contract. The loop's invariant: the nodes of the last k qubits are written, with `root` for their root.
-- Assumes nothing.
use Rattle.stores.specs.Columns.{columns_of, SameColumns}
use Rattle.identities.proofs.Identities.{Writing}
use Rattle.identities.proofs.write_qubits.Given as goal

abbrev pub invariant-loop-k : goal.invariant-loop-k
invariant-loop-k l = Writing l.n (columns_of l.initial.store) (columns_of l.store) l.k l.root × SameColumns l.initial.store l.store
