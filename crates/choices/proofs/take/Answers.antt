-- `choices::take` meets its contract: a gate that was read is given with its data.
-- Assumes nothing.
use Rattle.choices.proofs.Gates.{gate_taken}
use Rattle.choices.proofs.take.Goals as goal

pub returns : goal.returns
returns c = gate_taken _ _ _ _ c.gate.ensures.says (λ x e. rw e at c.unwrap_or-gate.ensures) c.rule_on.ensures c.act.ensures
