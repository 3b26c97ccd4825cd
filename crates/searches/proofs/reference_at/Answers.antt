-- `searches::reference_at` meets its contract, qubit by qubit. Assumes nothing.
use Rattle.searches.proofs.Entries.{way_again}
use Rattle.searches.proofs.reference_at.Goals as goal

pub loop-q-preserved : goal.loop-q-preserved
loop-q-preserved c = way_again c.requires.held c.loop-q.invariant c.loop-q-test.true c.child-r.ensures c.child-r-in-loop-q.ensures
