-- `uniques::NodeTable::find` meets its contract: the test says of the node in a slot whether it is the one. Assumes nothing.
use Rattle.uniques.proofs.NodeTables.{falls, chain_in, finds}
use Rattle.uniques.proofs.NodeTable.find.Goals as goal

pub search-requires-clause-falls : goal.search-requires-clause-falls
search-requires-clause-falls c = falls c.args.self.now c.requires.held _ c.requires.chain

pub search-requires-clause-tested : goal.search-requires-clause-tested
search-requires-clause-tested c i below =
    let at = chain_in c.args.self.now c.requires.held _ c.requires.chain i below in
    (at.in_level, at.in_low, at.in_high)

pub returns : goal.returns
returns c = finds c.args.self.now c.requires.held _ c.requires.chain (λ i b is. is) c.search.ensures
