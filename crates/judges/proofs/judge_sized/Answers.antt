-- `judges::judge_sized` meets its contract: the large scratch has room for all stores that the rules allow.
-- Assumes nothing.
use Rattle.stores.specs.Columns.{columns_of}
use Rattle.judges.proofs.Passing.{passed_at_most}
use Rattle.judges.proofs.judge_sized.Goals as goal

pub judge_within-requires-else-first-le-SMALL_STORE-clause-at_most :
    goal.judge_within-requires-else-first-le-SMALL_STORE-clause-at_most
judge_within-requires-else-first-le-SMALL_STORE-clause-at_most c =
    passed_at_most _ _ (columns_of c.args.first.now) (columns_of c.args.second.now) c.requires
