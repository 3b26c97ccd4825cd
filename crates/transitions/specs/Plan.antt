-- The plan of a step, as the laws read it. Definitions only.
use Rattle.std.specs.Prelude.{Bool, false, not, ◌&&◌, ◌||◌, ℕ, zero, suc, eqb, Option, Some, None, get_or}
use Rattle.gates.specs.declared.Act.{Act}
use Rattle.gates.specs.declared.Code.TheVariants.{X}
use Rattle.gates.specs.declared.Phases.{Phases}
use Rattle.gates.specs.declared.Operands.TheVariants.{Qubit}
use Rattle.gates.specs.declared.Rule.{Rule}
use Rattle.transitions.specs.declared.Plan.{Plan as CodePlan}

pub record Plan : Type 0 where
  pub stage : ℕ → ℕ
  pub stages : ℕ
  pub target : ℕ
  pub second : ℕ
  pub act : Act
  pub phases : Phases
  pub zero : Option ℕ
  pub node_heads : ℕ
  pub value_heads : ℕ
  pub slots : ℕ
  pub width : ℕ
  pub levels : ℕ
  pub span : ℕ

abbrev pub plan_of : CodePlan → Plan
plan_of p = record {
  stage = λ s. get_or p.stages s 0;
  stages = p.stage_count;
  target = p.target;
  second = p.second;
  act = p.act;
  phases = p.phases;
  zero = p.zero;
  node_heads = p.node_heads;
  value_heads = p.value_heads;
  slots = p.slots;
  width = p.width;
  levels = p.levels;
  span = p.span;
}

-- the reference is the source's zero, if there is one
abbrev pub is_zero : Option ℕ → ℕ → Bool
is_zero None x = false
is_zero (Some z) x = eqb x z

-- what the gate does at its target, as the data of a gate
abbrev pub plan_rule : Plan → Rule
plan_rule plan = record {
  operands = Qubit;
  act = plan.act;
  right = plan.phases;
  left = plan.phases;
  inverse = X;
}

-- a level is among the first k stages
abbrev pub among : ℕ → (ℕ → ℕ) → ℕ → Bool
among zero stage level = false
among (suc k) stage level = eqb (stage k) level || among k stage level

-- a level at which the gate asks for a target's bit; a gate with one target has it as its second too
abbrev pub targeted : Plan → ℕ → Bool
targeted plan level = eqb level (plan.stage plan.target) || eqb level (plan.stage plan.second)

-- a level at which the gate asks for a control
abbrev pub control : Plan → ℕ → Bool
control plan level = among plan.stages plan.stage level && not (targeted plan level)
