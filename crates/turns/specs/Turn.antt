-- What a turn of the walk asks for and leaves: at the state's slot, before and after its calls. Definitions only.
use Rattle.std.specs.Prelude.{◌≡◌, true, false, Option, Some, None, is_none, Result, Ok, Err, ℕ, ◌*◌, ◌<◌, ◌≤◌, length}
use Rattle.algebra.specs.declared.Entry.{Entry}
use Rattle.algebra.specs.Width.{fit_width, bounded}
use Rattle.diagrams.specs.Diagram.{branch, ref_of}
use Rattle.uniques.specs.UniqueTable.{NodeTableHeld, NodeMade, ValueTableHeld, ValueMade}
use Rattle.transitions.specs.declared.State.{State}
use Rattle.transitions.specs.Plan.{Plan, plan_of}
use Rattle.transitions.specs.Source.{cols_of, vals_of, SourceHeld, ReadingLeaf}
use Rattle.transitions.specs.State.{top}
use Rattle.transitions.specs.Next.{leaf_entry}
use Rattle.transitions.specs.Valid.{ValidPlan, ValidState}
use Rattle.tables.specs.declared.Placed.{Placed}
use Rattle.tables.specs.Table.{slot_of, noted}
use Rattle.turns.specs.declared.OutsideWidth.{OutsideWidth}
use Rattle.turns.specs.declared.Planned.{Planned}
use Rattle.turns.specs.declared.Work.{Work}
use Rattle.turns.specs.Progress.{FULL, Walks}
use Rattle.turns.specs.Work.{source_in, node_room, value_room, progress_of, progress_after, Working}

-- ---- what a unique table answers

-- without a slot there is no reference
abbrev pub answered : Option ℕ → ℕ
answered (Some r) = r
answered None = FULL

-- ---- the node over two answers

-- while the walk builds, its nodes are held
abbrev pub JoinReady : Work → Type 0
JoinReady w = w.full ≡ false → NodeTableHeld w.nodes.now

module _ (w w' : Work) where
  -- a missing slot ends the building
  pub record Joined (lv l h r : ℕ) : Type 0 where
    pub past : w.full ≡ true → (r ≡ FULL) × (w'.full ≡ true) × (w'.nodes.now ≡ w.nodes.now)
    pub made : w.full ≡ false → (o : Option ℕ) × (r ≡ answered o) × (w'.full ≡ is_none o)
        × NodeMade w.nodes.now w'.nodes.now (branch lv (ref_of l) (ref_of h)) o
    pub values : w'.values.now ≡ w.values.now

  -- with the computed table: the answer is kept for the state
  abbrev pub Finished : Plan → ℕ → ℕ → ℕ → State → ℕ → Type 0
  Finished plan lv l h σ r = Joined lv l h r × (w'.memo.now ≡ noted plan w.memo.now σ r)

-- ---- the value of a state with no question left

-- while the walk builds, its values are held
abbrev pub TerminalReady : Work → Type 0
TerminalReady w = w.full ≡ false → ValueTableHeld w.values.now

module _ (w w' : Work) where
  -- a missing slot ends the building
  pub record TerminalPut (e : Entry) (r : ℕ) : Type 0 where
    pub past : w.full ≡ true → (r ≡ FULL) × (w'.full ≡ true) × (w'.values.now ≡ w.values.now)
    pub made : w.full ≡ false → (o : Option ℕ) × (r ≡ answered o) × (w'.full ≡ is_none o) × ValueMade w.values.now w'.values.now e o
    pub nodes : w'.nodes.now ≡ w.nodes.now

  -- with the computed table: the answer is kept for the state; outside the width nothing changes
  abbrev pub SettledBy : Plan → State → Result ℕ OutsideWidth → Option Entry → Type 0
  SettledBy plan σ (Ok r) (Some e) = TerminalPut e r × (w'.memo.now ≡ noted plan w.memo.now σ r)
  SettledBy plan σ (Err o) None = w' ≡ w
  SettledBy plan σ (Ok r) None = ⊥
  SettledBy plan σ (Err o) (Some e) = ⊥

  abbrev pub Settled : Planned → State → Result ℕ OutsideWidth → Type 0
  Settled step σ r =
      let plan = plan_of step.plan.now in
      ReadingLeaf (vals_of step.source.values) σ (λ s. SettledBy plan σ r (bounded plan.width (leaf_entry s σ)))

-- ---- a walk from a state

-- what is asked before it: a fact of the step, the work and the state, which no one type owns
pub record Ready (step : Planned) (w : Work) (p : Placed) : Type 0 where
  pub valid_plan : ValidPlan (plan_of step.plan.now) (source_in step)
  pub fit : fit_width (plan_of step.plan.now).width ≡ true
  pub valid_state : ValidState (plan_of step.plan.now) (source_in step) p.state
  pub source : SourceHeld (source_in step) (cols_of step.source.nodes) (vals_of step.source.values)
  pub node_span : 2 * length (source_in step).nodes ≤ (plan_of step.plan.now).span
  pub value_span : 2 * length (source_in step).values ≤ (plan_of step.plan.now).span
  pub slot : p.at ≡ slot_of (plan_of step.plan.now) p.state
  pub work : Working step (progress_of w) w

-- the same, of a state that asks at a level
pub record Asking (step : Planned) (w : Work) (p : Placed) (lv : ℕ) : Type 0 where
  pub ready : Ready step w p
  pub asks : lv ≡ top (plan_of step.plan.now) (source_in step) p.state
  pub below : lv < (plan_of step.plan.now).levels

-- what it leaves
pub record Walked (step : Planned) (w : Work) (σ : State) (r : Result ℕ OutsideWidth) (w' : Work) : Type 0 where
  pub work : Working step (progress_after w' r) w'
  pub walks : Walks (node_room w) (value_room w) (plan_of step.plan.now) (source_in step) σ (progress_of w) (progress_after w' r) r
