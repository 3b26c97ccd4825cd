-- The states of a step's walk: what each stands for, where it asks next, and the diagram that it makes. Definitions only.
use Rattle.std.specs.Prelude.{Bool, cond, ℕ, ◌+◌, ◌-◌, min, set}
use Rattle.std.specs.Bool.{beq}
use Rattle.algebra.specs.declared.Entry.{Entry}
use Rattle.algebra.specs.Entry.{𝟘, ◌⊕◌, ◌⊖◌, turned}
use Rattle.algebra.specs.Matrix.{Bits, everywhere}
use Rattle.algebra.specs.Width.{entry_in_width}
use Rattle.gates.specs.Gate.{bit, all_set}
use Rattle.gates.specs.Rule.{acted}
use Rattle.diagrams.specs.Diagram.{Ref, value, node, ref_of, Store, Diagram, node_at, reached, same_entry, reduce}
use Rattle.transitions.specs.declared.Mode.{Mode}
use Rattle.transitions.specs.declared.Mode.TheVariants.{Turning, Adding, Subtracting, Waiting, Swapping, Choosing}
use Rattle.transitions.specs.declared.State.{State}
use Rattle.transitions.specs.Plan.{Plan, plan_rule, control}

-- ---- what a state stands for

-- the entries of the product from this level on, as a function of the bits of the levels from it on
abbrev pub meant_by : Plan → Store Entry → ℕ → Mode → Ref → Ref → Bits → Entry
meant_by plan s level (Turning e) x y l = turned e (reached 𝟘 s level x l)
meant_by plan s level Adding x y l = reached 𝟘 s level x l ⊕ reached 𝟘 s level y l
meant_by plan s level Subtracting x y l = reached 𝟘 s level x l ⊖ reached 𝟘 s level y l
meant_by plan s level (Waiting k) x y l =
    acted (plan_rule plan) plan.phases (λ i. control plan (level + i)) (plan.stage plan.target - level) (plan.stage plan.second - level)
    (reached 𝟘 s level x) l
meant_by plan s level (Swapping k b) x y l =
    let q = plan.stage plan.second - level in
    cond (all_set (λ i. control plan (level + i)) l)
    (cond (beq (bit l q) b) (reached 𝟘 s level x l) (reached 𝟘 s level y (set l q b))) (reached 𝟘 s level x l)
meant_by plan s level (Choosing k e) x y l =
    cond (all_set (λ i. control plan (level + i)) l) (turned e (reached 𝟘 s level y l)) (reached 𝟘 s level x l)

unfoldable pub meaning : Plan → Store Entry → ℕ → State → Bits → Entry
meaning plan s level σ = meant_by plan s level σ.mode (ref_of σ.x) (ref_of σ.y)

-- ---- where it asks next

-- a value asks nothing: its level is past the last
abbrev pub level_of : Plan → Store Entry → Ref → ℕ
level_of plan s (value j) = plan.levels
level_of plan s (node i) = (node_at s i).level

abbrev pub top_by : Plan → Store Entry → Mode → Ref → Ref → ℕ
top_by plan s (Turning e) x y = level_of plan s x
top_by plan s Adding x y = min (level_of plan s x) (level_of plan s y)
top_by plan s Subtracting x y = min (level_of plan s x) (level_of plan s y)
top_by plan s (Waiting k) x y = min (level_of plan s x) (plan.stage k)
top_by plan s (Swapping k b) x y = min (min (level_of plan s x) (level_of plan s y)) (plan.stage k)
top_by plan s (Choosing k e) x y = min (min (level_of plan s x) (level_of plan s y)) (plan.stage k)

unfoldable pub top : Plan → Store Entry → State → ℕ
top plan s σ = top_by plan s σ.mode (ref_of σ.x) (ref_of σ.y)

-- ---- what the walk from it makes

-- its diagram, put into a store
unfoldable pub made : Plan → Store Entry → State → Store Entry → Diagram Entry
made plan s σ t = let level = top plan s σ in reduce same_entry (plan.levels - level) level (meaning plan s level σ) t

-- every number of it lies in the width
unfoldable pub inside : Plan → Store Entry → State → Bool
inside plan s σ =
    let level = top plan s σ in everywhere (plan.levels - level) (λ l. entry_in_width plan.width (meaning plan s level σ l))
