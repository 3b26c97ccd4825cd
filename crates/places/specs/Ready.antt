-- Where the search stands, and what it asks of the columns there. Definitions only.
use Rattle.std.specs.Prelude.{◌≡◌, true, ℕ, suc, ◌*◌, ◌/◌, ◌%◌, ◌^◌, ◌<◌, ◌≤◌, length, get_or, Option, Some, None}
use Rattle.diagrams.specs.Diagram.{levels}
use Rattle.stores.specs.declared.Nodes.{Nodes}
use Rattle.places.specs.declared.Block.{Block}
use Rattle.places.specs.declared.Task.{Task}
use Rattle.places.specs.Search.{half, row_sought}

-- where r is a node, it is one of the used ones
abbrev pub Used : ℕ → ℕ → Type 0
Used nodes r = r % 2 ≡ 1 → r / 2 < nodes

-- the number's bits, with more of the levels left, still fit a word
abbrev pub Room : ℕ → ℕ → Type 0
Room left x = suc x * 2 ^ left ≤ 4294967296

-- the used nodes stand in the columns, and their children among them
pub record UsedNodes (nodes : Nodes) (used : ℕ) : Type 0 where
  pub in_level : used ≤ length nodes.level.now
  pub in_low : used ≤ length nodes.low.now
  pub in_high : used ≤ length nodes.high.now
  pub closed : (i : ℕ) → i < used → Used used (get_or nodes.low.now i 0) × Used used (get_or nodes.high.now i 0)

module _ (nodes : Nodes) (task : Task) where
  -- the block is one of the diagram, the zero, if there is one, is a value, and the bits fit: a fact of three, which no one type owns
  pub record Ready (block : Block) : Type 0 where
    pub held : UsedNodes nodes task.nodes
    pub zero_value : (z : ℕ) → task.zero ≡ Some z → z % 2 ≡ 0
    pub within : block.left ≤ task.levels
    pub used : Used task.nodes block.root
    pub next_room : Room block.left block.next
    pub after_room : Room block.left block.after

  -- the first bit is one of the row
  pub record RowReady (block : Block) : Type 0 where
    pub ready : Ready block
    pub qubits_left : ℕ
    pub whole : block.left ≡ levels qubits_left

  -- the first bit is one of the column; it is known that nothing is found in the high half if its root is `clean`
  pub record ColumnReady (block : Block) (clean : Option ℕ) : Type 0 where
    pub ready : Ready block
    pub qubits_left : ℕ
    pub a_bit_more : block.left ≡ suc (levels qubits_left)
    pub known : let high = half nodes task block true in clean ≡ Some high.root → row_sought nodes task high ≡ None
