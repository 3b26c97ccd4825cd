-- `schedules::next_step` meets its contract: its two products fit, and its two tests are the definition's. Assumes nothing.
use native.Mathlib.Omega.{arith}
use Rattle.std.proofs.lemmas.Bool.Decides.{nat_tests}
use Rattle.schedules.specs.Schedule.{next_step}
use Rattle.schedules.proofs.next_step.Goals as goal

pub returns-then-i-p : goal.returns-then-i-p
unfolding next_step
returns-then-i-p c = grind (arith, nat_tests)

pub returns-else-i-m : goal.returns-else-i-m
unfolding next_step
returns-else-i-m c = grind (arith, nat_tests)
