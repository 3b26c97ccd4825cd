-- Reduced diagrams, over values of any type. Definitions only; their laws are in proofs/.
use Rattle.std.specs.Prelude.{◌≡◌, Bool, true, false, cond, ◌&&◌, List, [], ◌∷◌, ℕ, zero, suc, ◌+◌, ◌*◌, ◌/◌, ◌%◌, ◌<◌, ◌≤◌, eqb}
use Rattle.std.specs.Prelude.{ℤ, pos, negsuc, length, get_or}
use Rattle.algebra.specs.declared.Entry.{Entry}
use Rattle.algebra.specs.Matrix.{Bits, Matrix}

-- ---- diagrams

pub data Ref : Type 0 where
  value node : ℕ → Ref

-- "A reference 2·j is value j; 2·i + 1 is node i."
abbrev pub code : Ref → ℕ
code (value j) = 2 * j
code (node i) = 2 * i + 1

abbrev pub ref_of : ℕ → Ref
ref_of c = cond (eqb (c % 2) 1) (node (c / 2)) (value (c / 2))

pub record Node : Type 0 where
  pub level : ℕ
  pub low : Ref
  pub high : Ref

abbrev pub branch : ℕ → Ref → Ref → Node
branch level low high = record { level = level; low = low; high = high }

-- what a store holds in its used slots, numbered from 0
pub record Store (X : Type 0) : Type 0 where
  pub nodes : List Node
  pub values : List X

abbrev pub holding : {X : Type 0} → List Node → List X → Store X
holding nodes values = record { nodes = nodes; values = values }

pub record Diagram (X : Type 0) : Type 0 where
  pub store : Store X
  pub root : Ref

abbrev pub rooted : {X : Type 0} → Store X → Ref → Diagram X
rooted store root = record { store = store; root = root }

-- the node of a slot that is not used: 0, 0, 0
abbrev pub unused : Node
unused = branch 0 (value 0) (value 0)

abbrev pub node_at : {X : Type 0} → Store X → ℕ → Node
node_at s i = get_or s.nodes i unused

-- ---- what a diagram gives

-- "A diagram gives, for a row and a column, the value reached from its root by going low where the bit asked for is 0 and
-- high where it is 1." The bits are those of the levels from `level` on; a bit that no node asks for is passed over.
abbrev pub reached : {X : Type 0} → X → Store X → ℕ → Ref → Bits → X
reached blank s level (value j) [] = get_or s.values j blank
reached blank s level (value j) (b ∷ l) = reached blank s (suc level) (value j) l
reached blank s level (node i) [] = blank
reached blank s level (node i) (b ∷ l) = cond
    (eqb (node_at s i).level level)
    (reached blank s (suc level) (cond b (node_at s i).high (node_at s i).low) l)
    (reached blank s (suc level) (node i) l)

-- ---- reduced

-- no element twice
abbrev pub Distinct : {A : Type 0} → A → List A → Type 0
Distinct blank l = (i j : ℕ) → i < length l → j < length l → get_or l i blank ≡ get_or l j blank → i ≡ j

-- what holds of both children
abbrev pub Both : (Ref → Type 0) → Node → Type 0
Both P n = P n.low × P n.high

module _ {X : Type 0} where
  -- a value, or a node of this level or a later one
  abbrev pub From : Store X → ℕ → Ref → Type 0
  From s level (value j) = Unit {0}
  From s level (node i) = level ≤ (node_at s i).level

  -- "no node whose low and high are alike, no two nodes alike, no value twice";
  -- "Levels rise from parent to child and lie below 2n for n qubits."
  pub record Tidy (blank : X) (levels : ℕ) (s : Store X) : Type 0 where
    pub children_differ : (i : ℕ) → i < length s.nodes → (node_at s i).low ≡ (node_at s i).high → ⊥
    pub no_two_nodes : Distinct unused s.nodes
    pub no_value_twice : Distinct blank s.values
    pub levels_below : (i : ℕ) → i < length s.nodes → (node_at s i).level < levels
    pub levels_rise : (i : ℕ) → i < length s.nodes → Both (From s (suc (node_at s i).level)) (node_at s i)

  pub data Reaches (s : Store X) : Ref → Ref → Type 0 where
    here : {r : Ref} → Reaches s r r
    by_low : {i : ℕ} {r : Ref} → Reaches s (node_at s i).low r → Reaches s (node i) r
    by_high : {i : ℕ} {r : Ref} → Reaches s (node_at s i).high r → Reaches s (node i) r

  -- "and nothing that the root doesn't reach"
  pub record Reduced (blank : X) (levels : ℕ) (D : Diagram X) : Type 0 where
    pub tidy : Tidy blank levels D.store
    pub nodes_reached : (i : ℕ) → i < length D.store.nodes → Reaches D.store D.root (node i)
    pub values_reached : (j : ℕ) → j < length D.store.values → Reaches D.store D.root (value j)

  -- ---- numbered

  -- "Nodes are numbered from 0 as they are finished in a walk that goes low before high, values as that walk first meets
  -- them." From a reference on, with i nodes finished and j values met before it, and i' and j' after it.
  pub data Walk (s : Store X) : Ref → ℕ → ℕ → ℕ → ℕ → Type 0 where
    old_value : {v i j : ℕ} → v < j → Walk s (value v) i j i j
    new_value : {i j : ℕ} → Walk s (value j) i j i (suc j)
    old_node : {n i j : ℕ} → n < i → Walk s (node n) i j i j
    new_node : {i j i₁ j₁ n j' : ℕ} → Walk s (node_at s n).low i j i₁ j₁ → Walk s (node_at s n).high i₁ j₁ n j' → Walk s (node n) i j (suc n) j'

  abbrev pub Numbered : Diagram X → Type 0
  Numbered D = Walk D.store D.root 0 0 (length D.store.nodes) (length D.store.values)

  -- "The miter's reduced diagram is the one, so numbered, that gives each of its entries." f is what it gives.
  pub record ReducedOf (blank : X) (levels : ℕ) (f : Bits → X) (D : Diagram X) : Type 0 where
    pub reduced : Reduced blank levels D
    pub numbered : Numbered D
    pub gives : (l : Bits) → length l ≡ levels → reached blank D.store 0 D.root l ≡ f l

-- ---- how it is made: low, then high, then the node, found or appended

-- the slot at which an element is found, or is to be appended
abbrev pub slot : {A : Type 0} → (A → A → Bool) → A → List A → ℕ
slot same x [] = 0
slot same x (y ∷ l) = cond (same y x) 0 (suc (slot same x l))

-- the list with the element, appended if it is not there
abbrev pub keep : {A : Type 0} → (A → A → Bool) → A → List A → List A
keep same x [] = x ∷ []
keep same x (y ∷ l) = cond (same y x) (y ∷ l) (y ∷ keep same x l)

abbrev pub same_ref : Ref → Ref → Bool
same_ref r t = eqb (code r) (code t)

abbrev pub same_node : Node → Node → Bool
same_node m n = eqb m.level n.level && (same_ref m.low n.low && same_ref m.high n.high)

-- found or appended
abbrev pub put_value : {X : Type 0} → (X → X → Bool) → X → Store X → Diagram X
put_value same x s = rooted (holding s.nodes (keep same x s.values)) (value (slot same x s.values))

abbrev pub put_node : {X : Type 0} → Node → Store X → Diagram X
put_node n s = rooted (holding (keep same_node n s.nodes) s.values) (node (slot same_node n s.nodes))

-- a node over two references, unless they are alike
abbrev pub make_node : {X : Type 0} → Node → Store X → Diagram X
make_node n s = cond (same_ref n.low n.high) (rooted s n.low) (put_node n s)

-- f, whose bits are those of the levels from `level` on, of which there are `left`, put into a store
unfoldable pub reduce : {X : Type 0} → (X → X → Bool) → ℕ → ℕ → (Bits → X) → Store X → Diagram X
reduce same zero level f s = put_value same (f []) s
reduce same (suc left) level f s =
    let low = reduce same left (suc level) (λ l. f (false ∷ l)) s in
    let high = reduce same left (suc level) (λ l. f (true ∷ l)) low.store in
    make_node (branch level low.root high.root) high.store

-- ---- the diagram of a matrix

-- "Level 2q asks for the row bit of qubit q, level 2q + 1 for its column bit": a place has the bits r0 c0 r1 c1 ..
abbrev pub levels : ℕ → ℕ
levels zero = zero
levels (suc n) = suc (suc (levels n))

abbrev pub place : Bits → Bits → Bits
place [] c = []
place (x ∷ r) [] = []
place (x ∷ r) (y ∷ c) = x ∷ y ∷ place r c

-- the row and the column of a place
abbrev pub rows : Bits → Bits
rows [] = []
rows (x ∷ []) = x ∷ []
rows (x ∷ (y ∷ l)) = x ∷ rows l

abbrev pub columns : Bits → Bits
columns [] = []
columns (x ∷ []) = []
columns (x ∷ (y ∷ l)) = y ∷ columns l

abbrev pub entries : Matrix → Bits → Entry
entries M l = M (rows l) (columns l)

-- "Two entries over the same k are equal only if all four numbers are."
abbrev pub same_number : ℤ → ℤ → Bool
same_number (pos m) (pos n) = eqb m n
same_number (pos m) (negsuc n) = false
same_number (negsuc m) (pos n) = false
same_number (negsuc m) (negsuc n) = eqb m n

abbrev pub same_entry : Entry → Entry → Bool
same_entry x y = (same_number x.a y.a && same_number x.b y.b) && (same_number x.c y.c && same_number x.d y.d)

abbrev pub empty : {X : Type 0} → Store X
empty = holding [] []

-- the reduced diagram of a matrix on n qubits
abbrev pub diagram : ℕ → Matrix → Diagram Entry
diagram n M = reduce same_entry (levels n) 0 (entries M) empty
