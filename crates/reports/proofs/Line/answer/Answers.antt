-- `reports::Line::answer` meets its contract: what the verdict shows, and the counts of a run that finished. Assumes nothing.
use lib.Dec.{lit≤}
use Rattle.reports.specs.Line.{counts}
use Rattle.reports.proofs.Puts.{put_then, put_within}
use Rattle.reports.proofs.Line.answer.Goals as goal

pub returns-in-Equal : goal.returns-in-Equal
unfolding counts
returns-in-Equal c = rw c.in-Equal.is (put_within (lit≤ tt) (put_then c.entry.ensures c.counts.ensures))

pub returns-in-Different : goal.returns-in-Different
unfolding counts
returns-in-Different c = rw c.in-Different.is (put_then c.difference.ensures c.counts-in-Different.ensures)
