-- `uniques::hash_value` meets its contract: no sum wraps. Assumes nothing.
use Rattle.std.proofs.Common.{◌∙◌}
use borrow.Author.Rules.{rules}
use Rattle.uniques.specs.UniqueTable.{value_hash}
use Rattle.uniques.proofs.Hashes.{lifted_local}
use Rattle.uniques.proofs.hash_value.Goals as goal

pub returns : goal.returns
unfolding value_hash
returns c =
    let e = c.args.terminal in
    c.part_of.ensures ∙ rw (
      lifted_local e.a (search rules) c.lifted.ensures.0,
      lifted_local e.b (search rules) c.lifted-2.ensures.0,
      lifted_local e.c (search rules) c.lifted-3.ensures.0,
      lifted_local e.d (search rules) c.lifted-4.ensures.0,
    )
