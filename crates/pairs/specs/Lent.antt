-- The columns of a store that borrows the arrays of the programs. No public contract cites it. Definitions only.
use Rattle.stores.specs.Columns.{Columns, columns}
use Rattle.pairs.specs.declared.Arrays.{Arrays}

abbrev pub columns_in : Arrays → Columns
columns_in x = columns x.level x.low x.high x.a x.b x.c x.d
