-- The planned walk of a step, and what it answers. Definitions only.
use Rattle.std.specs.Prelude.{◌≡◌, false, cond, List, ℕ, Result, Ok, Err}
use Rattle.std.specs.Borrow.{MutBor}
use Rattle.uniques.specs.declared.NodeTable.{NodeTable}
use Rattle.uniques.specs.declared.ValueTable.{ValueTable}
use Rattle.miters.specs.declared.StepFault.{StepFault}
use Rattle.miters.specs.declared.StepFault.TheVariants.{OutsideWidth as TooWide, NoRoom}
use Rattle.turns.specs.declared.OutsideWidth.{OutsideWidth}
use Rattle.turns.specs.declared.Planned.{Planned}
use Rattle.turns.specs.declared.Work.{Work}
use Rattle.turns.specs.Work.{SameWork}
use Rattle.products.specs.Step.{Multiplied}

-- the work that a walk begins with
abbrev pub begun : MutBor NodeTable → MutBor ValueTable → MutBor (List ℕ) → Work
begun nodes values memo = record { nodes = nodes; values = values; memo = memo; full = false }

-- what a walk comes to by the work that it ends with, and by its answer: a number outside the width, or no room, or the product
abbrev pub come_to : Work → Result ℕ OutsideWidth → Result (Unit {0}) StepFault
come_to w (Ok root) = cond w.full (Err NoRoom) (Ok tt)
come_to w (Err e) = Err TooWide

-- a walk that begins with these tables, and ends with those with ', whatever its root
pub record Walked (step : Planned) (root : ℕ) (nodes : NodeTable) (values : ValueTable) (nodes' : NodeTable) (values' : ValueTable)
    (r : Result (Unit {0}) StepFault) : Type 0 where
  pub before : Work
  pub after : Work
  pub answer : Result ℕ OutsideWidth
  pub same : SameWork before after
  pub multiplied : Multiplied step root before after answer
  pub from_nodes : before.nodes.now ≡ nodes
  pub from_values : before.values.now ≡ values
  pub of_nodes : after.nodes.now ≡ nodes'
  pub of_values : after.values.now ≡ values'
  pub comes_to : r ≡ come_to after answer
