-- `reports::Line::words` meets its contract: the words are copied to the line's end. Assumes nothing.
use mathlib.Core.Path.{refl}
use native.Mathlib.Omega.{arith}
use Rattle.std.proofs.Common.{rules}
use native.Mathlib.Nat.{le_refl}
use Rattle.reports.proofs.Puts.{copied}
use Rattle.reports.proofs.Line.words.Goals as goal

pub returns : goal.returns
returns c = record {
  wrote = record { place = refl; stored = copied _ _ _ _ _ (search rules) c.copy_from_slice.ensures.after (omega arith) };
  short = le_refl _;
  same = refl;
}
