-- What a step's walk works on: the tables that it fills, and what is kept of them from turn to turn. Definitions only.
use Rattle.std.specs.Prelude.{◌≡◌, Bool, true, false, Result, Ok, Err, ℕ, ◌<◌, length}
use Rattle.algebra.specs.declared.Entry.{Entry}
use Rattle.diagrams.specs.Diagram.{ref_of, Store, holding, rooted}
use Rattle.uniques.specs.UniqueTable.{listed, nodes_in, table_nodes, NodeTableHeld, SameNodeTable, table_values, ValueTableHeld, SameValueTable}
use Rattle.transitions.specs.declared.State.{State}
use Rattle.transitions.specs.Plan.{Plan, plan_of}
use Rattle.transitions.specs.Source.{vals_of, source_entry}
use Rattle.transitions.specs.State.{made, inside}
use Rattle.tables.specs.Table.{TableFits, AllRight}
use Rattle.turns.specs.declared.OutsideWidth.{OutsideWidth}
use Rattle.turns.specs.declared.Planned.{Planned}
use Rattle.turns.specs.declared.Work.{Work}
use Rattle.turns.specs.Progress.{reference_limit, Progress, building, full, out}

-- ---- the source

-- the store that a planned step's columns hold: as many nodes and values as the plan says
abbrev pub source_in : Planned → Store Entry
source_in step =
    let nodes = step.source.nodes in
    holding (nodes_in step.plan.now.nodes nodes.level.now nodes.low.now nodes.high.now)
    (listed step.plan.now.values (source_entry (vals_of step.source.values)))

-- ---- the destination

-- the numbers of nodes and of values that there is room for
abbrev pub node_room : Work → ℕ
node_room w = length w.nodes.now.level.now

abbrev pub value_room : Work → ℕ
value_room w = length w.values.now.terminals.now

abbrev pub store_in : Work → Store Entry
store_in w = holding (table_nodes w.nodes.now) (table_values w.values.now)

abbrev pub progress_by : Bool → Store Entry → Progress
progress_by false t = building t
progress_by true t = full

-- before a walk, no number has left the width
abbrev pub progress_of : Work → Progress
progress_of w = progress_by w.full (store_in w)

-- after it, the error tells that one has
abbrev pub progress_after : Work → Result ℕ OutsideWidth → Progress
progress_after w (Ok r) = progress_of w
progress_after w (Err e) = out

-- ---- what is kept

-- an answer of the computed table is right: the state's diagram is in the store already; past a failure, only that it did not
-- leave the width
abbrev pub Right : Plan → Store Entry → Progress → State → ℕ → Type 0
Right plan s (building t) σ a = (inside plan s σ ≡ true) × (made plan s σ t ≡ rooted t (ref_of a)) × (a < reference_limit)
Right plan s full σ a = inside plan s σ ≡ true
Right plan s out σ a = Unit {0}

-- while the walk builds, the unique tables hold the store
abbrev pub Filled : Work → Progress → Type 0
Filled w (building t) = NodeTableHeld w.nodes.now × ValueTableHeld w.values.now
Filled w full = Unit {0}
Filled w out = Unit {0}

pub record Working (step : Planned) (p : Progress) (w : Work) : Type 0 where
  pub table : TableFits (plan_of step.plan.now) w.memo.now
  pub filled : Filled w p
  pub right : AllRight (Right (plan_of step.plan.now) (source_in step) p) (plan_of step.plan.now) w.memo.now

-- the same tables and memory are lent, as much of them: the references keep their ghost names
pub record SameWork (w w' : Work) : Type 0 where
  pub nodes_lent : w'.nodes.ghost_name ≡ w.nodes.ghost_name
  pub nodes : SameNodeTable w.nodes.now w'.nodes.now
  pub values_lent : w'.values.ghost_name ≡ w.values.ghost_name
  pub values : SameValueTable w.values.now w'.values.now
  pub memo : w'.memo.ghost_name ≡ w.memo.ghost_name
  pub memo_long : length w'.memo.now ≡ length w.memo.now
