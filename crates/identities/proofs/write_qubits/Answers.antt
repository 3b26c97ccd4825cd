-- `identities::write_qubits` meets its contract. The loop's invariant: the nodes of the last k qubits are written, with `root` for their root.
-- Assumes nothing.
use Rattle.stores.proofs.Columns.{same_none, same_then}
use Rattle.identities.proofs.Identities.{writing_starts, writing_goes}
use Rattle.identities.proofs.write_qubits.Goals as goal

pub loop-k-init : goal.loop-k-init
loop-k-init c = (writing_starts, same_none c.args.store.now)

pub loop-k-preserved : goal.loop-k-preserved
loop-k-preserved c = (
  writing_goes c.loop-k.invariant.0 c.loop-k-test.true c.write_qubit.ensures.set,
  same_then c.loop-k.invariant.1 c.write_qubit.ensures.same_columns,
)
