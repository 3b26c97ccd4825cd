-- `inverse::main` is safe and ends: the inverse fits its buffer. Assumes nothing.
use mathlib.Core.Path.{sym, ap}
use native.Mathlib.Omega.{arith}
use lib.ListN.{length}
use lib.Seq.{length-take-le}
use Rattle.inverses.proofs.Answers.{wrote_within}
use Rattle.inverse.proofs.main.Goals as goal

pub slice_bounds-inverse-end : goal.slice_bounds-inverse-end
slice_bounds-inverse-end c =
    omega (arith, wrote_within _ _ (sym c.in-Ok.ensures.answer), ap length c.write_inverse.ensures.contents)

pub slice_bounds-write_all-end : goal.slice_bounds-write_all-end
slice_bounds-write_all-end c =
    sym (length-take-le _ _ (omega (arith, wrote_within _ _ (sym c.in-Ok.ensures.answer), ap length c.write_inverse.ensures.contents)))
