-- `searches::read_verdict` meets its contract: from the root on the search finds what the verdict says.
-- Assumes nothing.
use Rattle.searches.proofs.Starts.{used_nodes, corner_there, root_ready, found_there, found_equal, found_different}
use Rattle.searches.proofs.read_verdict.Goals as goal

pub reference_at-corner-requires-clause-held : goal.reference_at-corner-requires-clause-held
reference_at-corner-requires-clause-held c = used_nodes _ _ _ c.args.store.now c.requires

pub entry_of-factor-requires : goal.entry_of-factor-requires
entry_of-factor-requires c = corner_there _ _ _ c.args.store.now c.requires c.reference_at-corner.ensures c.zero-zero.ensures

pub ask_row-requires : goal.ask_row-requires
ask_row-requires c =
    rw c.root.ensures (root_ready _ _ _ c.args.store.now c.requires c.reference_at-corner.ensures c.zero-zero.ensures)

pub entry_of-requires : goal.entry_of-requires
entry_of-requires c =
    found_there _ _ _ c.args.store.now c.requires c.reference_at-corner.ensures c.zero-zero.ensures
    (rw c.root.ensures at c.ask_row.ensures) c.in-Some.is

pub returns-in-None : goal.returns-in-None
returns-in-None c =
    found_equal _ _ _ c.args.store.now c.requires c.reference_at-corner.ensures c.zero-zero.ensures
    (rw c.root.ensures at c.ask_row.ensures) c.in-None.is c.entry_of-factor.ensures

pub returns-in-Some : goal.returns-in-Some
returns-in-Some c =
    found_different _ _ _ c.args.store.now c.requires c.reference_at-corner.ensures c.zero-zero.ensures
    (rw c.root.ensures at c.ask_row.ensures) c.in-Some.is c.entry_of.ensures c.entry_of-factor.ensures
