-- Which plans and which states of a walk are sound. Definitions only.
use Rattle.std.specs.Prelude.{◌≡◌, true, false, List, ℕ, suc, ◌+◌, ◌*◌, ◌<◌, ◌≤◌, Option, Some, length, get_or}
use Rattle.algebra.specs.declared.Entry.{Entry}
use Rattle.algebra.specs.Entry.{𝟘}
use Rattle.gates.specs.Rule.{does_mix, does_swap}
use Rattle.diagrams.specs.Diagram.{Store, node_at, Both, From, ref_of}
use Rattle.diagrams.specs.Reference.{Closed}
use Rattle.transitions.specs.declared.Mode.{Mode}
use Rattle.transitions.specs.declared.Mode.TheVariants.{Turning, Adding, Subtracting, Waiting, Swapping, Choosing}
use Rattle.transitions.specs.declared.State.{State}
use Rattle.transitions.specs.Plan.{Plan}
use Rattle.transitions.specs.Source.{Refers, Readable}
use Rattle.transitions.specs.State.{top}

-- ---- plans

-- none, or a number that is the reference of a value that is 0, or of nothing in the store
abbrev pub IsZero : Store Entry → Option ℕ → Type 0
IsZero s z =
    ((j : ℕ) → j < length s.values → z ≡ Some (2 * j) → get_or s.values j 𝟘 ≡ 𝟘) × ((i : ℕ) → i < length s.nodes → z ≡ Some (2 * i + 1) → ⊥)

-- a plan for a source: the source's levels rise and lie below the plan's, and its nodes' children are its own; the stages
-- ascend below the levels, one of them is the target's, and it is the only one where the gate mixes; a swap's second target comes
-- after its first, and a gate with one target has it as its second; the zero is the source's, or none
pub record ValidPlan (plan : Plan) (s : Store Entry) : Type 0 where
  pub levels_below : (i : ℕ) → i < length s.nodes → (node_at s i).level < plan.levels
  pub levels_rise : (i : ℕ) → i < length s.nodes → Both (From s (suc (node_at s i).level)) (node_at s i)
  pub closed : Closed s (length s.nodes) (length s.values)
  pub few_stages : plan.stages ≤ 16
  pub has_target : plan.target < plan.stages
  pub has_second : plan.second < plan.stages
  pub target_first : does_swap plan.act ≡ true → plan.target < plan.second
  pub target_only : does_swap plan.act ≡ false → plan.second ≡ plan.target
  pub stages_ascend : (j k : ℕ) → j < k → k < plan.stages → plan.stage j < plan.stage k
  pub stages_below : (k : ℕ) → k < plan.stages → plan.stage k < plan.levels
  pub mixes_alone : does_mix plan.act ≡ true → plan.stages ≡ 1
  pub phase_zero : plan.phases.zero < 8
  pub phase_one : plan.phases.one < 8
  pub zero_value : (j : ℕ) → j < length s.values → plan.zero ≡ Some (2 * j) → get_or s.values j 𝟘 ≡ 𝟘
  pub zero_no_node : (i : ℕ) → i < length s.nodes → plan.zero ≡ Some (2 * i + 1) → ⊥

-- ---- states

-- the stages before k lie before the level
abbrev pub Passed : Plan → ℕ → ℕ → Type 0
Passed plan k level = (j : ℕ) → j < k → plan.stage j < level

-- what a mode asks of its numbers and references, at the level where its state asks
abbrev pub Suits : Plan → ℕ → Mode → ℕ → ℕ → Type 0
Suits plan level (Turning e) x y = (e < 8) × (x ≡ y)
Suits plan level Adding x y = Unit {0}
Suits plan level Subtracting x y = Unit {0}
Suits plan level (Waiting k) x y = (k ≤ plan.target) × (x ≡ y) × Passed plan k level
Suits plan level (Swapping k b) x y = (plan.target < k) × (k ≤ plan.second) × Passed plan k level
Suits plan level (Choosing k e) x y = (plan.second < k) × (k < plan.stages) × (e < 8) × Passed plan k level

pub record ValidState (plan : Plan) (s : Store Entry) (σ : State) : Type 0 where
  pub x_refers : Refers s (ref_of σ.x)
  pub y_refers : Refers s (ref_of σ.y)
  pub suits : Suits plan (top plan s σ) σ.mode σ.x σ.y

-- ---- what the code needs to read: it follows from the two above where the columns hold the source

-- the mode's stage is one of the plan's slots
abbrev pub Staged : Mode → Type 0
Staged (Turning e) = Unit {0}
Staged Adding = Unit {0}
Staged Subtracting = Unit {0}
Staged (Waiting k) = k < 16
Staged (Swapping k b) = k < 16
Staged (Choosing k e) = k < 16

pub record Usable (cols : List (List ℕ)) (σ : State) : Type 0 where
  pub x_readable : Readable cols σ.x
  pub y_readable : Readable cols σ.y
  pub staged : Staged σ.mode
