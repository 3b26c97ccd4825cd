-- `lowerings::all_divisible` meets its contract. Assumes nothing.
use Rattle.std.proofs.Common.{◌∙◌, rules}
use Rattle.std.proofs.lemmas.Iterator.{YieldsList-from_slice}
use Rattle.std.proofs.lemmas.Iterator.Search.{all_from_yields_List}
use Rattle.algebra.specs.Division.{divisible}
use Rattle.lowerings.proofs.Lowerings.{every_all}
use Rattle.lowerings.proofs.all_divisible.Goals as goal

pub returns : goal.returns
returns c =
    all_from_yields_List divisible _ _ _ c.all.ensures.ran (YieldsList-from_slice c.args.terminals.now (cc)) (λ x b q k. search rules)
    ∙ every_all divisible c.args.terminals.now
