-- `schedules::only_steps` meets its contract. Assumes nothing.
use mathlib.Core.Path.{◌∙◌}
use lib.Dec.{leb}
use Rattle.std.proofs.Common.{rules}
use Rattle.std.proofs.lemmas.Iterator.{YieldsList-from_slice}
use Rattle.std.proofs.lemmas.Iterator.Search.{all_from_yields_List}
use Rattle.schedules.proofs.Counts.{all_steps}
use Rattle.schedules.proofs.only_steps.Goals as goal

pub returns : goal.returns
returns c =
    all_from_yields_List (λ x. leb x 1) _ _ _ c.all.ensures.ran (YieldsList-from_slice c.args.s.now (cc)) (λ x b q k. search rules)
    ∙ all_steps c.args.s.now
