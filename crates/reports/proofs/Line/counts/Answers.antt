-- `reports::Line::counts` meets its contract: the four counts in turn. Assumes nothing.
use Rattle.std.proofs.Common.{rules}
use Rattle.reports.specs.Line.{counts}
use Rattle.reports.proofs.Decimals.{digits_printed}
use Rattle.reports.proofs.Puts.{put_then}
use Rattle.reports.proofs.Line.counts.Goals as goal

pub returns : goal.returns
unfolding counts
returns c =
    let r = c.args.report in
    rw (
      digits_printed r.exponent (search rules),
      digits_printed r.steps (search rules),
      digits_printed r.nodes (search rules),
      digits_printed r.values (search rules),
    ) (put_then (put_then (put_then c.named.ensures c.named-2.ensures) c.named-3.ensures) c.named-4.ensures)
