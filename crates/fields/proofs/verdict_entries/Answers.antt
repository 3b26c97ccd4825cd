-- `fields::verdict_entries` meets its contract, case by case. Assumes nothing.
use Rattle.std.proofs.Common.{rules}
use Rattle.algebra.specs.Entry.{𝟘}
use Rattle.fields.specs.Numbers.{entries_of}
use Rattle.fields.proofs.verdict_entries.Goals as goal

pub returns-in-Equal : goal.returns-in-Equal
unfolding entries_of 𝟘
returns-in-Equal c = search rules

pub returns-in-Different : goal.returns-in-Different
unfolding entries_of
returns-in-Different c = search rules

pub returns-in-Refused : goal.returns-in-Refused
unfolding entries_of 𝟘
returns-in-Refused c = search rules
