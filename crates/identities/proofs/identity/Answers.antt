-- `identities::identity` meets its contract: the values, then the nodes. Assumes nothing.
use Rattle.stores.specs.Columns.{columns_of}
use Rattle.identities.proofs.Identities.{pairs_published}
use Rattle.stores.proofs.Stores.{store_written}
use Rattle.identities.proofs.identity.Goals as goal

pub returns-clause-written : goal.returns-clause-written
returns-clause-written c =
    let values = pairs_published (columns_of c.args.store.now)
    c.copy_from_slice.ensures.after c.copy_from_slice-2.ensures.after c.copy_from_slice-3.ensures.after c.copy_from_slice-4.ensures.after in
    store_written values c.write_qubits.ensures.nodes
