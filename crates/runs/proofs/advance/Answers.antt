-- `runs::advance` meets its contract: a step between the stores, either way round, the source read through its view.
-- Assumes nothing.
use mathlib.Core.Path.{◌≡◌, subst}
use borrow.Author.Tests.{eq-eqb, ne_eqb}
use Rattle.std.specs.Prelude.{ℕ, Result}
use Rattle.stores.specs.Columns.{Columns}
use Rattle.miters.specs.declared.StepFault.{StepFault}
use Rattle.plans.specs.declared.Step.{Step}
use Rattle.steps.specs.declared.Taken.{Taken}
use Rattle.plans.specs.declared.Scratch.{Scratch}
use Rattle.steps.specs.Stepping as stepping
use Rattle.runs.proofs.advance.Goals as goal

-- what a step leaves of the columns that its view shows
shown_left : {step : Step} {power : ℕ} {C C' D D' : Columns} {scratch : Scratch} {r : Result Taken StepFault}
    → C ≡ C' → stepping.Left step C D scratch power D' r → stepping.Left step C' D scratch power D' r
shown_left {step} {power} {D = D} {D' = D'} {scratch = scratch} {r = r} = subst (λ (X : Columns). stepping.Left step X D scratch power D' r)

pub returns-then-left-eq0-clause-left : goal.returns-then-left-eq0-clause-left
returns-then-left-eq0-clause-left c = rw (eq-eqb _ _ c.if-left-eq0.true) (shown_left c.view.ensures c.take_step.ensures.left)

pub returns-else-left-eq0-clause-left : goal.returns-else-left-eq0-clause-left
returns-else-left-eq0-clause-left c =
    rw (ne_eqb _ _ c.if-left-eq0.false) (shown_left c.view-else-left-eq0.ensures c.take_step-else-left-eq0.ensures.left)
