-- The test of `uniques::ValueTable::find` is the one of the specification. Assumes nothing.
use Rattle.std.proofs.Common.{◌∙◌}
use Rattle.algebra.specs.Entry.{𝟘}
use Rattle.diagrams.proofs.EntryTests.{entry_is}
use Rattle.uniques.proofs.fn.ValueTable.find.is.Goals as goal

pub returns : goal.returns
unfolding 𝟘
returns c = c.eq.ensures ∙ entry_is _ c.captures.terminal
