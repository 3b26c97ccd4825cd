-- `transitions::Down::child` meets its contract: the columns' child is the child in every store that they hold. Assumes nothing.
use mathlib.Core.Path.{◌∙◌}
use Rattle.transitions.proofs.Children.{child_is}
use Rattle.transitions.proofs.Down.child.Goals as goal

pub returns : goal.returns
returns c s held refers = c.child.ensures ∙ child_is c.args.self.source.now c.args.self.level c.args.bit c.args.x s held refers
