-- `reports::Line::difference` meets its contract: row, column, entry and corner in turn. Assumes nothing.
use Rattle.std.proofs.Common.{rules}
use Rattle.reports.specs.Line.{difference}
use Rattle.reports.proofs.Decimals.{digits_printed}
use Rattle.reports.proofs.Puts.{put_then}
use Rattle.reports.proofs.Line.difference.Goals as goal

pub returns : goal.returns
unfolding difference
returns c =
    rw (digits_printed c.args.d.row (search rules), digits_printed c.args.d.column (search rules))
    (put_then (put_then (put_then c.named.ensures c.named-2.ensures) c.entry.ensures) c.entry-2.ensures)
