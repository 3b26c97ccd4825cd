-- `plans::plan_step` meets its contract, part by part. Assumes nothing.
use Rattle.plans.specs.Layout.{planned}
use Rattle.plans.proofs.plan_step.Goals as goal

pub returns : goal.returns
unfolding planned
returns c = cc
