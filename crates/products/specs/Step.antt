-- A step by a gate: what its walk starts from, and what it ends in. Definitions only.
use Rattle.std.specs.Prelude.{◌≡◌, Bool, true, false, Result, Ok, Err, ℕ, ◌*◌, ◌<◌, ◌≤◌, length, get_or}
use Rattle.algebra.specs.Matrix.{Matrix}
use Rattle.algebra.specs.Width.{fit_width}
use Rattle.gates.specs.Gate.{Gate, Fits}
use Rattle.diagrams.specs.Diagram.{code, diagram}
use Rattle.uniques.specs.UniqueTable.{NodeTableHeld, ValueTableHeld}
use Rattle.miters.specs.Run.{Lent, in_width, has_room}
use Rattle.transitions.specs.Plan.{plan_of}
use Rattle.transitions.specs.Source.{cols_of, vals_of, SourceHeld}
use Rattle.transitions.specs.Valid.{IsZero}
use Rattle.plans.specs.Prepare.{product_on, PlanFor}
use Rattle.tables.specs.Table.{TableFits, table_end}
use Rattle.turns.specs.declared.OutsideWidth.{OutsideWidth}
use Rattle.turns.specs.declared.Planned.{Planned}
use Rattle.turns.specs.declared.Work.{Work}
use Rattle.turns.specs.Work.{source_in, node_room, value_room, store_in}

-- the source's columns hold the reduced diagram of a matrix
pub record Given (n : ℕ) (M : Matrix) (step : Planned) : Type 0 where
  pub source : source_in step ≡ (diagram n M).store
  pub columns : SourceHeld (source_in step) (cols_of step.source.nodes) (vals_of step.source.values)
  pub node_span : 2 * length (source_in step).nodes ≤ (plan_of step.plan.now).span
  pub value_span : 2 * length (source_in step).values ≤ (plan_of step.plan.now).span

-- the destination before the walk: no node, no value, and nothing kept
pub record Fresh (step : Planned) (w : Work) : Type 0 where
  pub builds : w.full ≡ false
  pub no_node : w.nodes.now.used ≡ 0
  pub no_value : w.values.now.used ≡ 0
  pub nodes : NodeTableHeld w.nodes.now
  pub values : ValueTableHeld w.values.now
  pub table : TableFits (plan_of step.plan.now) w.memo.now
  pub blank : (i : ℕ) → i < table_end (plan_of step.plan.now) → get_or w.memo.now i 0 ≡ 0

-- what the walk leaves of a product, and what it answers: its reduced diagram; or 14; or 13, which comes first, and is the error
pub data Stepped (lent : Lent) (n : ℕ) (M : Matrix) (w : Work) : Result ℕ OutsideWidth → Type 0 where
  built : in_width lent n M ≡ true → has_room lent n M ≡ true → w.full ≡ false → store_in w ≡ (diagram n M).store
      → Stepped lent n M w (Ok (code (diagram n M).root))
  too_large : {r : ℕ} → in_width lent n M ≡ true → has_room lent n M ≡ false → w.full ≡ true → Stepped lent n M w (Ok r)
  too_wide : {e : OutsideWidth} → in_width lent n M ≡ false → Stepped lent n M w (Err e)

-- a step by a gate, on the left or on the right of a matrix whose diagram the source holds, with its root
pub record Task (step : Planned) (root : ℕ) : Type 0 where
  pub qubits : ℕ
  pub right : Bool
  pub gate : Gate
  pub matrix : Matrix
  pub fits : Fits qubits gate
  pub planned : PlanFor qubits right gate (plan_of step.plan.now)
  pub zero : IsZero (diagram qubits matrix).store (plan_of step.plan.now).zero
  pub given : Given qubits matrix step
  pub root_is : root ≡ code (diagram qubits matrix).root
  pub width : fit_width (plan_of step.plan.now).width ≡ true

-- what is lent to it
abbrev pub lent_by : Planned → Work → Lent
lent_by step w = record { width = (plan_of step.plan.now).width; nodes = node_room w; values = value_room w }

-- what it leaves
abbrev pub Multiplied : Planned → ℕ → Work → Work → Result ℕ OutsideWidth → Type 0
Multiplied step root w w' r =
    (task : Task step root) → Stepped (lent_by step w) task.qubits (product_on task.right task.qubits task.gate task.matrix) w' r
