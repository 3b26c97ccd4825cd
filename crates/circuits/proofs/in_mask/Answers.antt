-- `circuits::in_mask` meets its contract: a shift is a division by a power of two. Assumes nothing.
use mathlib.Core.Path.{◌∙◌, ap}
use Prim.Native.Nat.{ℕ, ◌%◌}
use lib.Dec.{eqb}
use Rattle.circuits.proofs.Masks.{shifted}
use Rattle.circuits.proofs.in_mask.Goals as goal

pub returns : goal.returns
returns c = ap (λ (m : ℕ). eqb (m % 2) 1) (c.unwrap_or.ensures ∙ shifted _ _ _ c.ranges.mask.fits c.checked_shr.ensures)
