-- Unique tables: what lent columns and an index of hash chains hold. Definitions only; their laws are in proofs/Chains.antt,
-- proofs/NodeTables.antt and proofs/ValueTables.antt.
use Rattle.std.specs.Prelude.{◌≡◌, Bool, true, false, cond, List, [], ◌∷◌, ◌++◌, Option, Some, None, ℕ, zero, suc}
use Rattle.std.specs.Prelude.{◌+◌, ◌*◌, ◌-◌, ◌/◌, ◌%◌, ◌<◌, ◌≤◌, eqb, ltb, ℤ, pos, negsuc, length, get_or, drop}
use Rattle.algebra.specs.declared.Entry.{Entry}
use Rattle.algebra.specs.Entry.{𝟘}
use Rattle.uniques.specs.declared.NodeTable.{NodeTable}
use Rattle.uniques.specs.declared.ValueTable.{ValueTable}
use Rattle.diagrams.specs.Diagram.{Node, branch, unused, code, ref_of, Distinct, slot, keep, same_node, same_entry}

-- ---- what the first slots hold

-- f 0, f 1, .., f (n − 1)
unfoldable pub listed : {A : Type 0} → ℕ → (ℕ → A) → List A
listed zero f = []
listed (suc n) f = listed n f ++ (f n ∷ [])

abbrev pub node_in : List ℕ → List ℕ → List ℕ → ℕ → Node
node_in level low high i = branch (get_or level i 0) (ref_of (get_or low i 0)) (ref_of (get_or high i 0))

-- the nodes in the first slots of the columns
abbrev pub nodes_in : ℕ → List ℕ → List ℕ → List ℕ → List Node
nodes_in used level low high = listed used (node_in level low high)

-- ---- chains

-- one more than the last k below n with f k ≡ h, or 0
unfoldable pub last_with : (ℕ → ℕ) → ℕ → ℕ → ℕ
last_with f h zero = 0
last_with f h (suc n) = cond (eqb (f n) h) (suc n) (last_with f h n)

module _ {A : Type 0} (hash : A → ℕ) (blank : A) where
  abbrev pub hash_at : List A → ℕ → ℕ
  hash_at l i = hash (get_or l i blank)

  -- The index of a table of N slots: slot i has the next of element i's chain, slot N + h the head of the chain of hash h.
  -- A chain goes from a later element to an earlier one of the same hash; it holds 1 + their numbers, and 0 ends it.
  pub record Indexed (N heads : ℕ) (l : List A) (index : List ℕ) : Type 0 where
    pub limit : N ≤ 65536
    pub some_head : 0 < heads
    pub long : N + heads ≤ length index
    pub room : length l ≤ N
    pub once : Distinct blank l
    pub head : (h : ℕ) → h < heads → get_or index (N + h) 0 ≡ last_with (hash_at l) h (length l)
    pub next : (i : ℕ) → i < length l → get_or index i 0 ≡ last_with (hash_at l) (hash_at l i) i

-- the numbers that a chain has from p on fall, and its elements are in the index
pub record Falls (index : List ℕ) (p : ℕ) : Type 0 where
  pub within : p ≤ length index
  pub falls : (i : ℕ) → i < p → get_or index i 0 ≤ i

-- what a search along a chain answers: the first of its elements from p on at which the test says true, if there is one
pub data Met (says : ℕ → Bool → Type 0) (index : List ℕ) : ℕ → Option ℕ → Type 0 where
  at_end : Met says index 0 None
  here : {i : ℕ} → says i true → Met says index (suc i) (Some i)
  later : {i : ℕ} {r : Option ℕ} → says i false → Met says index (get_or index i 0) r → Met says index (suc i) r

-- the slot at which an element is found, if it is there
abbrev pub found : {A : Type 0} → (A → A → Bool) → A → List A → Option ℕ
found same x l = cond (ltb (slot same x l) (length l)) (Some (slot same x l)) None

-- An element is found or appended: r is what is answered, `answer` the reference of a slot.
pub record Put {A : Type 0} (same : A → A → Bool) (answer : ℕ → ℕ) (N : ℕ) (x : A) (l : List A) (r : Option ℕ)
    (Held : List A → Type 0) (Unchanged : Type 0) : Type 0 where
  pub kept : length (keep same x l) ≤ N → (r ≡ Some (answer (slot same x l))) × Held (keep same x l)
  pub missing : N < length (keep same x l) → (r ≡ None) × Unchanged

-- ---- hashes

-- by its lowest 16 bits, a number is given its part of `size`: a number below it
abbrev pub part_of : ℕ → ℕ → ℕ
part_of mixed size = mixed % 65536 * size / 65536

-- three numbers spread over `size`: a number below it
unfoldable pub spread : ℕ → ℕ → ℕ → ℕ → ℕ
spread x y z size = part_of ((x % 131072 * 679488061819 + y % 131072 * 836218895663 + z % 1024 * 923031386221) / 1048576) size

-- ---- nodes

-- a number below `heads`, by which nodes are spread over the chains
unfoldable pub node_hash : ℕ → Node → ℕ
node_hash heads n = spread (code n.low) (code n.high) n.level heads

-- the columns hold these nodes, and the index finds them
pub record NodesHeld (N heads : ℕ) (ns : List Node) (level low high index : List ℕ) : Type 0 where
  pub level_long : length level ≡ N
  pub low_long : length low ≡ N
  pub high_long : length high ≡ N
  pub nodes : nodes_in (length ns) level low high ≡ ns
  pub indexed : Indexed (node_hash heads) unused N heads ns index

-- the node in a slot of a table, its nodes, and that its index finds them
abbrev pub table_node : NodeTable → ℕ → Node
table_node t i = node_in t.level.now t.low.now t.high.now i

abbrev pub table_nodes : NodeTable → List Node
table_nodes t = nodes_in t.used t.level.now t.low.now t.high.now

abbrev pub NodeTableHeld : NodeTable → Type 0
NodeTableHeld t = NodesHeld (length t.level.now) t.heads (table_nodes t) t.level.now t.low.now t.high.now t.index.now

-- with what the chain on which a node is begins
abbrev pub node_chain : NodeTable → Node → ℕ
node_chain t n = get_or t.index.now (length t.level.now + node_hash t.heads n) 0

-- What `make` of a table leaves: r is its answer, and t' the table after it.
module _ (t t' : NodeTable) where
  -- the same columns are lent, of the same lengths, for as many chains
  pub record SameNodeTable : Type 0 where
    pub level : t'.level.ghost_name ≡ t.level.ghost_name
    pub low : t'.low.ghost_name ≡ t.low.ghost_name
    pub high : t'.high.ghost_name ≡ t.high.ghost_name
    pub index : t'.index.ghost_name ≡ t.index.ghost_name
    pub level_long : length t'.level.now ≡ length t.level.now
    pub low_long : length t'.low.now ≡ length t.low.now
    pub high_long : length t'.high.now ≡ length t.high.now
    pub index_long : length t'.index.now ≡ length t.index.now
    pub heads : t'.heads ≡ t.heads

  abbrev pub NodesUnchanged : Type 0
  NodesUnchanged =
      (t'.level.now ≡ t.level.now) × (t'.low.now ≡ t.low.now) × (t'.high.now ≡ t.high.now) × (t'.index.now ≡ t.index.now) × (t'.used ≡ t.used)

  -- the slots from k on are as they were
  abbrev pub NodesPast : ℕ → Type 0
  NodesPast k = (drop k t'.level.now ≡ drop k t.level.now) × (drop k t'.low.now ≡ drop k t.low.now) × (drop k t'.high.now ≡ drop k t.high.now)

  -- these are its nodes, and the slots past them are as they were
  abbrev pub NodesMade : List Node → Type 0
  NodesMade ns' =
      NodesHeld (length t.level.now) t.heads ns' t'.level.now t'.low.now t'.high.now t'.index.now × NodesPast (length ns') × (t'.used ≡ length ns')

  -- found or appended
  abbrev pub NodePut : Node → Option ℕ → Type 0
  NodePut n r = Put same_node (λ i. 2 * i + 1) (length t.level.now) n (table_nodes t) r NodesMade NodesUnchanged

  -- "no node whose low and high are alike"
  pub record NodeMade (n : Node) (r : Option ℕ) : Type 0 where
    pub alike : n.low ≡ n.high → (r ≡ Some (code n.low)) × NodesUnchanged
    pub apart : (n.low ≡ n.high → ⊥) → NodePut n r

-- ---- terminals

-- a number of 32 bits, lifted by 2^31
unfoldable pub lifted : ℤ → ℕ
lifted (pos n) = n + 2147483648
lifted (negsuc n) = 2147483647 - n

unfoldable pub value_hash : ℕ → Entry → ℕ
value_hash heads e =
    part_of ((lifted e.a * 506952121 + lifted e.b * 313699893 + lifted e.c * 384368313 + lifted e.d * 461845907) / 16777216) heads

abbrev pub value_in : List Entry → ℕ → Entry
value_in vals j = get_or vals j 𝟘

-- the terminals in the first slots
abbrev pub values_in : ℕ → List Entry → List Entry
values_in used vals = listed used (value_in vals)

-- the slots hold these terminals, and the index finds them
pub record ValuesHeld (L heads : ℕ) (vs : List Entry) (vals : List Entry) (index : List ℕ) : Type 0 where
  pub vals_long : length vals ≡ L
  pub values : values_in (length vs) vals ≡ vs
  pub indexed : Indexed (value_hash heads) 𝟘 L heads vs index

-- the terminals of a table, and that its index finds them
abbrev pub table_values : ValueTable → List Entry
table_values t = values_in t.used t.terminals.now

abbrev pub ValueTableHeld : ValueTable → Type 0
ValueTableHeld t = ValuesHeld (length t.terminals.now) t.heads (table_values t) t.terminals.now t.index.now

-- with what the chain on which a terminal is begins
abbrev pub value_chain : ValueTable → Entry → ℕ
value_chain t e = get_or t.index.now (length t.terminals.now + value_hash t.heads e) 0

-- What `make` of a table leaves: r is its answer, and t' the table after it.
module _ (t t' : ValueTable) where
  -- the same slots are lent, as many, for as many chains
  pub record SameValueTable : Type 0 where
    pub terminals : t'.terminals.ghost_name ≡ t.terminals.ghost_name
    pub index : t'.index.ghost_name ≡ t.index.ghost_name
    pub terminals_long : length t'.terminals.now ≡ length t.terminals.now
    pub index_long : length t'.index.now ≡ length t.index.now
    pub heads : t'.heads ≡ t.heads

  abbrev pub ValuesUnchanged : Type 0
  ValuesUnchanged = (t'.terminals.now ≡ t.terminals.now) × (t'.index.now ≡ t.index.now) × (t'.used ≡ t.used)

  -- these are its terminals, and the slots past them are as they were
  abbrev pub ValuesMade : List Entry → Type 0
  ValuesMade vs' =
      ValuesHeld (length t.terminals.now) t.heads vs' t'.terminals.now t'.index.now
      × (drop (length vs') t'.terminals.now ≡ drop (length vs') t.terminals.now)
      × (t'.used ≡ length vs')

  abbrev pub ValueMade : Entry → Option ℕ → Type 0
  ValueMade e r = Put same_entry (λ j. 2 * j) (length t.terminals.now) e (table_values t) r ValuesMade ValuesUnchanged
