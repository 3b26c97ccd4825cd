-- `plans::named_below` meets its contract. Assumes nothing.
use mathlib.Core.Path.{ap}
use Prim.Native.Nat.{ℕ, ◌%◌}
use lib.Count.{ones}
use Rattle.plans.proofs.Levels.{shifted, shifted_some}
use Rattle.plans.proofs.named_below.Goals as goal

pub nonzero_rem-result : goal.nonzero_rem-result
nonzero_rem-result c = shifted_some c.args.q c.requires

pub returns : goal.returns
returns c = ap (λ (m : ℕ). ones (c.args.named % m)) (shifted c.args.q c.requires)
