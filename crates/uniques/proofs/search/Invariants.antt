-- `uniques::search` meets its contract. The loop's invariant: what a search from an element on answers, one from the first on does. The measure
-- is the number that leads to it. Assumes nothing.
use Rattle.std.proofs.Common.{ℕ, ◌≤◌, Option}
use Rattle.uniques.specs.UniqueTable.{Met}
use Rattle.uniques.proofs.search.Given as goal

abbrev pub invariant-loop-i : goal.invariant-loop-i
invariant-loop-i g l =
    (l.next ≤ l.fn.first) × ((r : Option ℕ) → Met (goal.F-post g l.is) l.index l.next r → Met (goal.F-post g l.is) l.index l.fn.first r)

abbrev pub decreases-loop-i : goal.decreases-loop-i
decreases-loop-i g l = l.next
