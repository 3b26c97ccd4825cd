-- What reading a diagram asks of the columns, and where it comes to. Definitions only.
use Rattle.std.specs.Prelude.{ℕ, ◌+◌, ◌*◌, ◌-◌, ◌≤◌}
use Rattle.algebra.specs.Entry.{𝟘}
use Rattle.diagrams.specs.Diagram.{place, Tidy, levels}
use Rattle.stores.specs.declared.Nodes.{Nodes}
use Rattle.stores.specs.Columns.{Columns, NodeColumns, ValueColumns}
use Rattle.diagrams.specs.Reference.{Closed}
use Rattle.cofactors.specs.Slots.{store_in, landing, bits}

-- the reference to the value at a row and a column, from the last of the used nodes on
abbrev pub reference_at : Nodes → ℕ → ℕ → ℕ → ℕ → ℕ
reference_at nodes used n row column =
    landing nodes.level.now nodes.low.now nodes.high.now 0 (2 * (used - 1) + 1) (place (bits n row) (bits n column))

-- The columns hold a store of a reduced diagram on n qubits: "no node whose low and high are alike, no two nodes alike, no value
-- twice"; "Levels rise from parent to child and lie below 2n"; the children of its nodes are its own nodes and values. Its root
-- is the last node.
pub record Searchable (n nodes values : ℕ) (cols : Columns) : Type 0 where
  pub some_qubit : 1 ≤ n
  pub few_qubits : n ≤ 16
  pub some_node : 1 ≤ nodes
  pub few_nodes : nodes ≤ 65536
  pub few_values : values ≤ 65536
  pub node_columns : NodeColumns cols nodes
  pub value_columns : ValueColumns cols values
  pub tidy : Tidy 𝟘 (levels n) (store_in nodes values cols)
  pub closed : Closed (store_in nodes values cols) nodes values
