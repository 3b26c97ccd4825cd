-- What a step lays out before its walk: its plan, the sizes of its tables, the tables cleared. Definitions only.
use Rattle.std.specs.Prelude.{◌≡◌, Bool, cond, ◌||◌, Option, ℕ, ◌+◌, ◌*◌, ◌%◌, ◌^◌, ◌<◌, ◌≤◌, max, length}
use Rattle.std.specs.Int.Count.{ones}
use Rattle.gates.specs.declared.Rule.{Rule}
use Rattle.gates.specs.Gate.{Gate, Fits}
use Rattle.gates.specs.Rule.{does_mix, does_swap, gate_rule, target, second}
use Rattle.stores.specs.declared.Used.{Used}
use Rattle.stores.specs.Columns.{zeroed}
use Rattle.transitions.specs.declared.Plan.{Plan}
use Rattle.transitions.specs.Plan.{plan_of}
use Rattle.plans.specs.Prepare.{side_of, side_number, side_phases, named_mask, stage_levels}
use Rattle.tables.specs.Table.{TableFits, table_end, table_size, cleared}
use Rattle.plans.specs.declared.Action.{Action}
use Rattle.plans.specs.declared.Sizes.{Sizes}
use Rattle.plans.specs.declared.Scratch.{Scratch}

-- ---- the gate

-- a gate's data, for the left or for the right of a matrix on n qubits
pub record Acts (n : ℕ) (right : Bool) (g : Gate) (action : Action) : Type 0 where
  pub fits : Fits n g
  pub rule : action.rule ≡ gate_rule g
  pub side : action.side ≡ side_of right
  pub named : action.named ≡ named_mask g
  pub small_named : action.named < 65536
  pub low : action.low ≡ target g
  pub high : action.high ≡ second g
  pub small_high : action.high < 16

-- ---- the plan

-- how many nodes the computed table is sized for: a gate that mixes or swaps makes pairs of references, several for a node of the source
abbrev pub counted : Rule → ℕ → ℕ
counted rule nodes = cond (does_mix rule.act || does_swap rule.act) (4 * nodes) nodes

-- a gate's part of it, by its data, the mask of its qubits and its targets, the lower one first: the stages, and which of them are the
-- targets', as many as qubits are named below them; then the source's zero, the heads of the unique tables and the slots of the computed
-- table, the width, the levels, the numbers that a reference lies below, and the source's counts
unfoldable pub planned : Action → ℕ → Sizes → Used → Option ℕ → Plan
planned action n sizes used zero = record {
  stages = stage_levels (side_number action.side) action.named;
  stage_count = ones action.named;
  target = ones (action.named % 2 ^ action.low);
  second = ones (action.named % 2 ^ action.high);
  act = action.rule.act;
  phases = side_phases (side_number action.side) action.rule;
  zero = zero;
  node_heads = table_size used.nodes 64 sizes.heads;
  value_heads = table_size used.values 16 sizes.heads;
  slots = table_size (counted action.rule used.nodes) 64 sizes.slots;
  width = sizes.width;
  levels = 2 * n;
  span = 2 * max used.nodes used.values;
  nodes = used.nodes;
  values = used.values;
}

-- what planning asks, so that its numbers fit
pub record Planning (action : Action) (n : ℕ) (used : Used) : Type 0 where
  pub few_qubits : n ≤ 16
  pub few_nodes : used.nodes ≤ 65536
  pub few_values : used.values ≤ 65536
  pub small_named : action.named < 65536
  pub small_low : action.low < 16
  pub small_high : action.high < 16

-- ---- the tables

-- the scratch has room for the plan's tables, for so many nodes and values
pub record Roomy (plan : Plan) (nodes values : ℕ) (s : Scratch) : Type 0 where
  pub few_nodes : nodes ≤ 65536
  pub few_values : values ≤ 65536
  pub in_nodes : nodes + (plan_of plan).node_heads ≤ length s.node_index.now
  pub in_values : values + (plan_of plan).value_heads ≤ length s.value_index.now
  pub table : TableFits (plan_of plan) s.memo.now

-- with ': after clearing
pub record Cleared (plan : Plan) (nodes values : ℕ) (s s' : Scratch) : Type 0 where
  pub of_nodes : s'.node_index.now ≡ zeroed 0 nodes (nodes + (plan_of plan).node_heads) s.node_index.now
  pub of_values : s'.value_index.now ≡ zeroed 0 values (values + (plan_of plan).value_heads) s.value_index.now
  pub of_memo : s'.memo.now ≡ cleared (table_end (plan_of plan)) s.memo.now
  pub terminals : s'.terminals.now ≡ s.terminals.now

-- the scratch with ' is the one that the other is, as much of it, whatever stands in it now: the references keep their ghost names
pub record SameScratch (s s' : Scratch) : Type 0 where
  pub terminals : s'.terminals.ghost_name ≡ s.terminals.ghost_name
  pub node_index : s'.node_index.ghost_name ≡ s.node_index.ghost_name
  pub value_index : s'.value_index.ghost_name ≡ s.value_index.ghost_name
  pub memo : s'.memo.ghost_name ≡ s.memo.ghost_name
  pub terminals_long : length s'.terminals.now ≡ length s.terminals.now
  pub nodes_long : length s'.node_index.now ≡ length s.node_index.now
  pub values_long : length s'.value_index.now ≡ length s.value_index.now
  pub memo_long : length s'.memo.now ≡ length s.memo.now
