-- `reports::Line::entry` meets its contract: the words, and then the four numbers in turn. Assumes nothing.
use Rattle.std.proofs.Common.{rules}
use Rattle.reports.specs.Line.{numbers}
use Rattle.reports.proofs.Puts.{put_then}
use Rattle.reports.proofs.Signs.{put_whole}
use Rattle.reports.proofs.Line.entry.Goals as goal

pub returns : goal.returns
unfolding numbers
returns c =
    let x = c.args.x in
    put_then c.words.ensures
    (put_then (put_then (put_then (put_whole x.a (search rules) c.named.ensures) (put_whole x.b (search rules) c.named-2.ensures))
    (put_whole x.c (search rules) c.named-3.ensures))
    (put_whole x.d (search rules) c.named-4.ensures))
