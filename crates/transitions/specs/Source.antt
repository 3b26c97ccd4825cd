-- The source of a step in its lent columns: which store they hold. Definitions only.
use Rattle.std.specs.Prelude.{◌≡◌, true, List, [], ℕ, ◌/◌, ◌%◌, ◌<◌, ◌≤◌, ℤ, pos, length, get_or, ◌∷◌}
use Rattle.algebra.specs.declared.Entry.{Entry}
use Rattle.algebra.specs.Entry.{𝟘, entry}
use Rattle.diagrams.specs.Diagram.{Ref, code, Store, node_at, ref_of}
use Rattle.diagrams.specs.Reference.{Seen}
use Rattle.stores.specs.declared.Nodes.{Nodes}
use Rattle.stores.specs.declared.Values.{Values}
use Rattle.transitions.specs.declared.State.{State}
use Rattle.transitions.specs.Next.{is_leaf}

-- ---- the columns

-- level, low, high
abbrev pub cols_of : Nodes → List (List ℕ)
cols_of nodes = nodes.level.now ∷ nodes.low.now ∷ nodes.high.now ∷ []

-- a, b, c, d
abbrev pub vals_of : Values → List (List ℤ)
vals_of values = values.a.now ∷ values.b.now ∷ values.c.now ∷ values.d.now ∷ []

-- ---- the columns hold a store

-- "three node columns (level, low, high; unsigned 32-bit)", of which the first slots hold the store's nodes
pub record SourceNodes (s : Store Entry) (cols : List (List ℕ)) : Type 0 where
  pub long : (c : ℕ) → c < 3 → length s.nodes ≤ length (get_or cols c [])
  pub level_at : (i : ℕ) → i < length s.nodes → get_or (get_or cols 0 []) i 0 ≡ (node_at s i).level
  pub low_at : (i : ℕ) → i < length s.nodes → get_or (get_or cols 1 []) i 0 ≡ code (node_at s i).low
  pub high_at : (i : ℕ) → i < length s.nodes → get_or (get_or cols 2 []) i 0 ≡ code (node_at s i).high

-- the four numbers in slot j
abbrev pub source_entry : List (List ℤ) → ℕ → Entry
source_entry vals j =
    entry (get_or (get_or vals 0 []) j (pos 0)) (get_or (get_or vals 1 []) j (pos 0))
    (get_or (get_or vals 2 []) j (pos 0)) (get_or (get_or vals 3 []) j (pos 0))

-- "four value columns (a, b, c, d; signed 32-bit)", of which the first slots hold the store's values
pub record SourceValues (s : Store Entry) (vals : List (List ℤ)) : Type 0 where
  pub long : (c : ℕ) → c < 4 → length s.values ≤ length (get_or vals c [])
  pub entry_at : (j : ℕ) → j < length s.values → source_entry vals j ≡ get_or s.values j 𝟘

pub record SourceHeld (s : Store Entry) (cols : List (List ℕ)) (vals : List (List ℤ)) : Type 0 where
  pub nodes : SourceNodes s cols
  pub values : SourceValues s vals

-- ---- references into it

-- a node or a value of the store
abbrev pub Refers : Store Entry → Ref → Type 0
Refers s r = Seen r (length s.nodes) (length s.values)

-- where the reference is to a node, every column has its slot: a fact of a reference and of columns, which no one type owns
abbrev pub Readable : List (List ℕ) → ℕ → Type 0
Readable cols x = x % 2 ≡ 1 → (c : ℕ) → c < 3 → x / 2 < length (get_or cols c [])

-- every column has the reference's slot
abbrev pub HoldsSlot : List (List ℤ) → ℕ → Type 0
HoldsSlot vals j = (c : ℕ) → c < 4 → j < length (get_or vals c [])

-- what holds of every store that the columns hold, if the references are into it
abbrev pub Reading : List (List ℕ) → ℕ → (Store Entry → Type 0) → Type 0
Reading cols x P = (s : Store Entry) → SourceNodes s cols → Refers s (ref_of x) → P s

abbrev pub ReadingBoth : List (List ℕ) → ℕ → ℕ → (Store Entry → Type 0) → Type 0
ReadingBoth cols x y P = Reading cols x (λ s. Refers s (ref_of y) → P s)

-- the same of values, for a state that asks no more
abbrev pub ReadingLeaf : List (List ℤ) → State → (Store Entry → Type 0) → Type 0
ReadingLeaf vals σ P = (s : Store Entry) → SourceValues s vals → Refers s (ref_of σ.x) → Refers s (ref_of σ.y) → is_leaf σ ≡ true → P s
