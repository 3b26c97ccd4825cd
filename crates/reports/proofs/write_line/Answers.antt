-- `reports::write_line` meets its contract: the answer from the front of the buffer on, and the line feed. Assumes nothing.
use mathlib.Core.Path.{◌∙◌}
use Rattle.std.proofs.Common.{rules}
use Rattle.reports.specs.Line.{line}
use Rattle.reports.proofs.Puts.{put_then, put_first}
use Rattle.reports.proofs.write_line.Goals as goal

pub returns-clause-length : goal.returns-clause-length
unfolding line
returns-clause-length c = (put_first (put_then c.answer.ensures c.words.ensures).wrote).0

pub returns-clause-contents : goal.returns-clause-contents
unfolding line
returns-clause-contents c = search rules ∙ (put_first (put_then c.answer.ensures c.words.ensures).wrote).1
