-- `schedules::fill` meets its contract. Assumes nothing.
use native.Mathlib.Omega.{arith}
use Rattle.schedules.proofs.Filling.{filling_turn, filling_done}
use Rattle.schedules.proofs.fill.Goals.{then-step-eq0, else-step-eq0}
use Rattle.schedules.proofs.fill.Goals as goal

pub loop-slot-preserved : goal.loop-slot-preserved
loop-slot-preserved c =
    let step_is = c.next_step-step.ensures in
    elim c.if-step-eq0.branch [
      | then-step-eq0 w ↦ filling_turn c.loop-slot.invariant (omega arith) (omega arith) _ _ _ step_is (λ bit. omega arith) (λ bit. omega arith)
      | else-step-eq0 w ↦ filling_turn c.loop-slot.invariant (omega arith) (omega arith) _ _ _ step_is (λ bit. omega arith) (λ bit. omega arith)
    ]

pub returns : goal.returns
returns c = filling_done c.loop-slot.invariant (omega arith) (omega arith)
