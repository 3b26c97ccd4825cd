-- The plan of a gate on the right or on the left: one way for every gate, by the mask of the qubits that it names. Definitions only.
use Rattle.std.specs.Prelude.{◌≡◌, Bool, true, false, cond, List, [], ◌∷◌, ℕ, zero, suc, ◌+◌, ◌*◌, ◌/◌, ◌%◌, ◌^◌, ◌<◌, ◌≤◌, eqb, replicate}
use Rattle.std.proofs.lemmas.List.Edits.{sets}
use Rattle.algebra.specs.Matrix.{Matrix, product}
use Rattle.gates.specs.declared.Phases.{Phases}
use Rattle.gates.specs.declared.Rule.{Rule}
use Rattle.gates.specs.Gate.{Gate, on, pair, toffoli, fredkin, names, matrix}
use Rattle.gates.specs.Rule.{phases, does_mix, gate_rule, target, second}
use Rattle.diagrams.specs.Diagram.{levels}
use Rattle.transitions.specs.Plan.{Plan}
use Rattle.plans.specs.declared.Side.{Side}
use Rattle.plans.specs.declared.Side.TheVariants.{Left, Right}

-- ---- a gate's data as a plan's

abbrev pub as_number : Bool → ℕ
as_number b = cond b 1 0

abbrev pub side_of : Bool → Side
side_of true = Right
side_of false = Left

abbrev pub side_number : Side → ℕ
side_number Left = 0
side_number Right = 1

-- "Level 2q asks for the row bit of qubit q, level 2q + 1 for its column bit": on the right, side 1, a gate works on columns, on the
-- left, side 0, on rows
abbrev pub side_level : ℕ → ℕ → ℕ
side_level side q = 2 * q + side

-- the powers of w8 by the target's bit; a gate that mixes leaves x or −x where the other reference is the zero
abbrev pub side_phases : ℕ → Rule → Phases
side_phases side rule = cond (does_mix rule.act) (phases 0 4) (cond (eqb side 1) rule.right rule.left)

-- ---- the qubits that a gate names, as a mask

abbrev pub named_mask : Gate → ℕ
named_mask (on k q) = 2 ^ q
named_mask (pair k p q) = 2 ^ p + 2 ^ q
named_mask (toffoli mask q) = mask + 2 ^ q
named_mask (fredkin mask p q) = mask + 2 ^ p + 2 ^ q

-- the levels of the qubits that a mask names, lowest first, where the mask's lowest bit is for the qubit at this level
unfoldable pub levels_from : ℕ → ℕ → ℕ → List ℕ
levels_from zero level rest = []
levels_from (suc fuel) level rest =
    cond (eqb (rest % 2) 1) (level ∷ levels_from fuel (level + 2) (rest / 2)) (levels_from fuel (level + 2) (rest / 2))

-- in the sixteen slots that a plan has for them
unfoldable pub stage_levels : ℕ → ℕ → List ℕ
stage_levels side named = sets (replicate 16 0) 0 (levels_from 16 side named)

-- ---- what the plan is for

-- the product with a gate on the right or on the left
abbrev pub product_on : Bool → ℕ → Gate → Matrix → Matrix
product_on true n g M = product n M (matrix g)
product_on false n g M = product n (matrix g) M

-- the stages are the levels of a set of qubits on a side, in ascending order
pub record StagedAs (side : ℕ) (named : ℕ → Bool) (plan : Plan) : Type 0 where
  pub few : plan.stages ≤ 16
  pub ascend : (j k : ℕ) → j < k → k < plan.stages → plan.stage j < plan.stage k
  pub each_named : (k : ℕ) → k < plan.stages → (q : ℕ) × (named q ≡ true) × (plan.stage k ≡ side_level side q)
  pub named_each : (q : ℕ) → named q ≡ true → (k : ℕ) × (k < plan.stages) × (plan.stage k ≡ side_level side q)

pub record PlanFor (n : ℕ) (right : Bool) (g : Gate) (plan : Plan) : Type 0 where
  pub levels_are : plan.levels ≡ levels n
  pub act_is : plan.act ≡ (gate_rule g).act
  pub phases_are : plan.phases ≡ side_phases (as_number right) (gate_rule g)
  pub staged : StagedAs (as_number right) (names g) plan
  pub target_in : plan.target < plan.stages
  pub target_at : plan.stage plan.target ≡ side_level (as_number right) (target g)
  pub second_in : plan.second < plan.stages
  pub second_at : plan.stage plan.second ≡ side_level (as_number right) (second g)
