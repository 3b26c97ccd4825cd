-- `reports::Line::named` meets its contract: the words, and then the number's text. Assumes nothing.
use mathlib.Core.Path.{◌∙◌}
use Rattle.reports.proofs.Puts.{put_then, put_text}
use Rattle.reports.proofs.Line.named.Goals as goal

pub returns : goal.returns
returns g c =
    put_then c.words.ensures
    (put_text (c.as_bytes.ensures.value ∙ c.format.ensures.text) (rw c.as_bytes.ensures.value c.format.ensures.fits) c.words-2.ensures)
