-- `uniques::ValueTable::find` meets its contract: the test says of the terminal in a slot whether it is the one. Assumes nothing.
use Rattle.uniques.proofs.ValueTables.{falls, chain_in, finds}
use Rattle.uniques.proofs.ValueTable.find.Goals as goal

pub search-requires-clause-falls : goal.search-requires-clause-falls
search-requires-clause-falls c = falls c.args.self.now c.requires.held c.args.terminal c.requires.chain

pub search-requires-clause-tested : goal.search-requires-clause-tested
search-requires-clause-tested c j below = (chain_in c.args.self.now c.requires.held c.args.terminal c.requires.chain j below).in_vals

pub returns : goal.returns
returns c = finds c.args.self.now c.requires.held c.args.terminal c.requires.chain (λ j b is. is) c.search.ensures
