-- `choices::choose` meets its contract: the next gate of the first list, or of the second.
-- Assumes nothing.
use Rattle.choices.proofs.Gates.{chosen_U, chosen_V}
use Rattle.choices.proofs.choose.Goals as goal

pub returns-then-step-eq0 : goal.returns-then-step-eq0
returns-then-step-eq0 c = chosen_U _ _ _ _ _ c.if-step-eq0.true c.take.ensures

pub returns-else-step-eq0 : goal.returns-else-step-eq0
returns-else-step-eq0 c = chosen_V _ _ _ _ _ c.if-step-eq0.false c.take-else-step-eq0.ensures
