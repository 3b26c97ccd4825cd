-- `stores::Store::publish` meets its contract. The loop's invariant: the numbers of the terminals passed stand in the columns. Assumes nothing.
use Rattle.stores.specs.Columns.{columns_of, SameColumns}
use Rattle.stores.proofs.Stores.{Publishing}
use Rattle.stores.proofs.Store.publish.Given as goal

abbrev pub invariant-loop-j : goal.invariant-loop-j
invariant-loop-j l = Publishing l.terminals (columns_of l.initial.self) (columns_of l.self) l.j × SameColumns l.initial.self l.self
