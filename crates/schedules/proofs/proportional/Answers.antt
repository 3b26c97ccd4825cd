-- `schedules::proportional` meets its contract: its tests are the definition's, and `fill` does the rest. Assumes nothing.
use native.Mathlib.Omega.{arith}
use Rattle.std.proofs.lemmas.Bool.Decides.{nat_tests}
use Rattle.schedules.specs.Schedule.{made}
use Rattle.schedules.proofs.proportional.Goals as goal

pub returns-then-limit-m-clause-answer : goal.returns-then-limit-m-clause-answer
unfolding made
returns-then-limit-m-clause-answer c = grind (arith, nat_tests)

pub returns-then-buffer-steps-clause-answer : goal.returns-then-buffer-steps-clause-answer
unfolding made
returns-then-buffer-steps-clause-answer c = grind (arith, nat_tests)

pub returns-clause-answer : goal.returns-clause-answer
unfolding made
returns-clause-answer c = grind (arith, nat_tests)
