-- `runs::follow` meets its contract: each step is refused, which ends the run, or taken.
-- Assumes nothing.
use mathlib.Core.Path.{◌≡◌}
use native.Mathlib.Omega.{arith}
use Rattle.std.proofs.Common.{Ok}
use Rattle.std.proofs.lemmas.Grind.{common_steps}
use Rattle.std.proofs.lemmas.Result.{err_from_is_err_and}
use Rattle.miters.specs.declared.Refusal.TheVariants.{Step as at_step}
use Rattle.steps.specs.declared.Taken.{Taken}
use Rattle.choices.proofs.Gates.{as_number_few}
use Rattle.runs.proofs.Turns.{fault_of}
use Rattle.runs.proofs.Loops.{few_steps, turning_starts, turning_ends, step_task, turning_stops, turning_on}
use Rattle.runs.proofs.follow.Goals as goal

-- ---- before the loop

pub loop-i-init : goal.loop-i-init
loop-i-init c = turning_starts _ _ _ _ _

-- ---- a turn

pub advance-requires : goal.advance-requires
advance-requires c =
    step_task _ _ _ _ _ c.loop-i.invariant c.loop-i-test.true c.choose-action.ensures c.requires

pub overflow_add-power : goal.overflow_add-power
overflow_add-power c =
    omega (
      arith,
      (c.loop-i.invariant.runs c.requires).few,
      as_number_few _ c.halves.ensures,
      c.loop-i-test.true,
      few_steps _ _ c.args.first.now c.args.second.now _ c.requires,
    )

pub overflow_cast-finished : goal.overflow_cast-finished
overflow_cast-finished c = omega (arith, c.loop-i-test.true, few_steps _ _ c.args.first.now c.args.second.now _ c.requires)

-- a step that is refused
pub returns-in_err-taken-clause-followed : goal.returns-in_err-taken-clause-followed
returns-in_err-taken-clause-followed c =
    let p = err_from_is_err_and c.from_residual.result c.from_residual.ensures.1 in
    let no_product : (x : Taken) → c.advance.result ≡ Ok x → ⊥ = λ x e. grind (arith, common_steps) in
    let (fault, stops) = fault_of c.advance.result no_product in
    let is : c.in_err-taken.field-0.0 ≡ at_step fault c.loop-i.i = grind (arith, common_steps) in
    rw (p.1, p.2, is)
    (turning_stops _ _ _ _ _ c.loop-i.invariant c.loop-i-test.true c.choose-action.ensures c.halves.ensures
    c.advance.new.first c.advance.new.second c.advance.ensures.left stops)

-- a step that is taken
pub loop-i-preserved : goal.loop-i-preserved
loop-i-preserved c =
    let going : c.advance.result ≡ Ok c.in_ok-taken.taken = grind (arith, common_steps) in
    turning_on _ _ _ _ _ c.loop-i.invariant c.loop-i-test.true c.choose-action.ensures c.halves.ensures
    c.advance.new.first c.advance.new.second c.advance.ensures.left going
    c.advance.ensures.same_first c.advance.ensures.same_second c.advance.ensures.same_scratch

-- ---- after the loop

pub overflow_cast-result : goal.overflow_cast-result
overflow_cast-result c = omega (arith, few_steps _ _ c.args.first.now c.args.second.now _ c.requires)

pub returns-clause-followed : goal.returns-clause-followed
returns-clause-followed c s = turning_ends _ _ _ _ _ c.loop-i.invariant c.loop-i-test.false s
