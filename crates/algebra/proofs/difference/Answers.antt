-- `algebra::difference` meets its contract: its numbers are the differences of the operands' numbers. Assumes nothing.
use Rattle.std.proofs.Common.{◌∙◌, ap, arith}
use Rattle.std.proofs.lemmas.Int.{ints}
use Rattle.algebra.specs.Entry.{◌⊖◌}
use Rattle.algebra.specs.Width.{bounded}
use Rattle.algebra.proofs.Entries.{by_parts}
use Rattle.algebra.proofs.difference.Goals as goal

pub returns : goal.returns
unfolding ◌⊖◌
returns c = c.narrowed.ensures ∙ ap (bounded _) (by_parts (omega (arith, ints), omega (arith, ints), omega (arith, ints), omega (arith, ints)))
