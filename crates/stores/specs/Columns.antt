-- A store in its lent columns. Definitions only; their laws are in proofs/Columns.antt, proofs/Filling.antt
-- and proofs/Stores.antt.
use Rattle.std.specs.Prelude.{◌≡◌, cond, List, [], ◌++◌, map, Option, Some, None, ℕ, ◌-◌, ◌*◌, ◌≤◌, ltb, ℤ, pos}
use Rattle.std.specs.Prelude.{length, get_or, take, drop, replicate}
use Rattle.algebra.specs.declared.Entry.{Entry}
use Rattle.algebra.specs.Entry.{entry, 𝟘}
use Rattle.diagrams.specs.Diagram.{Node, code, Store, slot, same_entry}
use Rattle.uniques.specs.UniqueTable.{listed}
use Rattle.stores.specs.declared.Store.{Store as LentStore}
use Rattle.stores.specs.declared.Nodes.{Nodes}
use Rattle.stores.specs.declared.Values.{Values}
use Rattle.stores.specs.declared.View.{View}

-- "Each has three node columns (level, low, high; unsigned 32-bit) of one length N .. and four value columns (a, b, c, d;
-- signed 32-bit) of one length L"
pub record Columns : Type 0 where
  pub level : List ℕ
  pub low : List ℕ
  pub high : List ℕ
  pub a : List ℤ
  pub b : List ℤ
  pub c : List ℤ
  pub d : List ℤ

abbrev pub columns : List ℕ → List ℕ → List ℕ → List ℤ → List ℤ → List ℤ → List ℤ → Columns
columns level low high a b c d = record { level = level; low = low; high = high; a = a; b = b; c = c; d = d }

-- what stands in the lent columns
abbrev pub columns_of : LentStore → Columns
columns_of s = columns s.level.now s.low.now s.high.now s.a.now s.b.now s.c.now s.d.now

-- the same, read only
abbrev pub viewed : View → Columns
viewed v = columns v.nodes.level.now v.nodes.low.now v.nodes.high.now v.values.a.now v.values.b.now v.values.c.now v.values.d.now

-- the node columns alone, and the value columns alone
abbrev pub node_columns : Nodes → Columns
node_columns n = columns n.level.now n.low.now n.high.now [] [] [] []

abbrev pub value_columns : Values → Columns
value_columns v = columns [] [] [] v.a.now v.b.now v.c.now v.d.now

-- the store with ' lends the columns that the other does, each as long as it was, whatever stands in them now
pub record SameColumns (s s' : LentStore) : Type 0 where
  pub level : s'.level.ghost_name ≡ s.level.ghost_name
  pub low : s'.low.ghost_name ≡ s.low.ghost_name
  pub high : s'.high.ghost_name ≡ s.high.ghost_name
  pub a : s'.a.ghost_name ≡ s.a.ghost_name
  pub b : s'.b.ghost_name ≡ s.b.ghost_name
  pub c : s'.c.ghost_name ≡ s.c.ghost_name
  pub d : s'.d.ghost_name ≡ s.d.ghost_name
  pub level_long : length s'.level.now ≡ length s.level.now
  pub low_long : length s'.low.now ≡ length s.low.now
  pub high_long : length s'.high.now ≡ length s.high.now
  pub a_long : length s'.a.now ≡ length s.a.now
  pub b_long : length s'.b.now ≡ length s.b.now
  pub c_long : length s'.c.now ≡ length s.c.now
  pub d_long : length s'.d.now ≡ length s.d.now

-- a column of a length, "with unused slots 0"
abbrev pub column : {A : Type 0} → A → ℕ → List A → List A
column nought N l = l ++ replicate (N - length l) nought

-- a column whose first slots are these, and whose others are as they were
abbrev pub over : {A : Type 0} → List A → List A → List A
over l old = l ++ drop (length l) old

-- a column with its slots from one on, up to another, 0
unfoldable pub zeroed : {A : Type 0} → A → ℕ → ℕ → List A → List A
zeroed nought from to l = take from l ++ (replicate (to - from) nought ++ drop to l)

-- the columns of lengths N and L that hold a store
unfoldable pub held : ℕ → ℕ → Store Entry → Columns
held N L s = record {
  level = column 0 N (map (λ (n : Node). n.level) s.nodes);
  low = column 0 N (map (λ (n : Node). code n.low) s.nodes);
  high = column 0 N (map (λ (n : Node). code n.high) s.nodes);
  a = column (pos 0) L (map (λ (x : Entry). x.a) s.values);
  b = column (pos 0) L (map (λ (x : Entry). x.b) s.values);
  c = column (pos 0) L (map (λ (x : Entry). x.c) s.values);
  d = column (pos 0) L (map (λ (x : Entry). x.d) s.values);
}

-- the columns with a store in their first slots, and the other slots as they were
unfoldable pub written : Store Entry → Columns → Columns
written s C = record {
  level = over (map (λ (n : Node). n.level) s.nodes) C.level;
  low = over (map (λ (n : Node). code n.low) s.nodes) C.low;
  high = over (map (λ (n : Node). code n.high) s.nodes) C.high;
  a = over (map (λ (x : Entry). x.a) s.values) C.a;
  b = over (map (λ (x : Entry). x.b) s.values) C.b;
  c = over (map (λ (x : Entry). x.c) s.values) C.c;
  d = over (map (λ (x : Entry). x.d) s.values) C.d;
}

-- a column of this length begins with the numbers f of these elements
pub record Begins {A B : Type 0} (f : A → B) (N : ℕ) (xs : List A) (l : List B) : Type 0 where
  pub long : length l ≡ N
  pub room : length xs ≤ N
  pub first : take (length xs) l ≡ map f xs

-- the columns of lengths N and L hold a store in their first slots, whatever stands in the others
pub record Holds (N L : ℕ) (s : Store Entry) (C : Columns) : Type 0 where
  pub of_level : Begins (λ (n : Node). n.level) N s.nodes C.level
  pub of_low : Begins (λ (n : Node). code n.low) N s.nodes C.low
  pub of_high : Begins (λ (n : Node). code n.high) N s.nodes C.high
  pub of_a : Begins (λ (x : Entry). x.a) L s.values C.a
  pub of_b : Begins (λ (x : Entry). x.b) L s.values C.b
  pub of_c : Begins (λ (x : Entry). x.c) L s.values C.c
  pub of_d : Begins (λ (x : Entry). x.d) L s.values C.d

-- "all 0"
unfoldable pub cleared : ℕ → ℕ → Columns
cleared N L = record {
  level = replicate N 0;
  low = replicate N 0;
  high = replicate N 0;
  a = replicate L (pos 0);
  b = replicate L (pos 0);
  c = replicate L (pos 0);
  d = replicate L (pos 0);
}

-- the columns with their slots 0 from the counts of used nodes and values on
unfoldable pub wiped : ℕ → ℕ → Columns → Columns
wiped nodes values C = record {
  level = column 0 (length C.level) (take nodes C.level);
  low = column 0 (length C.low) (take nodes C.low);
  high = column 0 (length C.high) (take nodes C.high);
  a = column (pos 0) (length C.a) (take values C.a);
  b = column (pos 0) (length C.b) (take values C.b);
  c = column (pos 0) (length C.c) (take values C.c);
  d = column (pos 0) (length C.d) (take values C.d);
}

-- ---- the node columns

-- their first slots are there: a fact and no invariant of a store, since the call takes columns of any lengths and refuses what does not fit
pub record NodeColumns (C : Columns) (used : ℕ) : Type 0 where
  pub in_level : used ≤ length C.level
  pub in_low : used ≤ length C.low
  pub in_high : used ≤ length C.high

-- in the columns with ' they are as in the others
pub record SameNodes (C C' : Columns) : Type 0 where
  pub same_level : C'.level ≡ C.level
  pub same_low : C'.low ≡ C.low
  pub same_high : C'.high ≡ C.high

-- ---- the value columns

-- their first slots are there, which is a fact for the same reason
pub record ValueColumns (C : Columns) (used : ℕ) : Type 0 where
  pub in_a : used ≤ length C.a
  pub in_b : used ≤ length C.b
  pub in_c : used ≤ length C.c
  pub in_d : used ≤ length C.d

-- in the columns with ' they are as in the others
pub record SameValues (C C' : Columns) : Type 0 where
  pub same_a : C'.a ≡ C.a
  pub same_b : C'.b ≡ C.b
  pub same_c : C'.c ≡ C.c
  pub same_d : C'.d ≡ C.d

abbrev pub entry_of : Columns → ℕ → Entry
entry_of C j = entry (get_or C.a j (pos 0)) (get_or C.b j (pos 0)) (get_or C.c j (pos 0)) (get_or C.d j (pos 0))

-- the entries of the first slots
abbrev pub entries_of : Columns → ℕ → List Entry
entries_of C used = listed used (entry_of C)

-- ---- what is written

-- what stands in the columns with ': these nodes, and past them what stood in the others, as do the values
pub record NodesWritten (ns : List Node) (C C' : Columns) : Type 0 where
  pub of_level : C'.level ≡ over (map (λ (n : Node). n.level) ns) C.level
  pub of_low : C'.low ≡ over (map (λ (n : Node). code n.low) ns) C.low
  pub of_high : C'.high ≡ over (map (λ (n : Node). code n.high) ns) C.high
  pub values : SameValues C C'

-- these entries, and past them what stood in the others, as do the nodes
pub record Published (vs : List Entry) (C C' : Columns) : Type 0 where
  pub of_a : C'.a ≡ over (map (λ (x : Entry). x.a) vs) C.a
  pub of_b : C'.b ≡ over (map (λ (x : Entry). x.b) vs) C.b
  pub of_c : C'.c ≡ over (map (λ (x : Entry). x.c) vs) C.c
  pub of_d : C'.d ≡ over (map (λ (x : Entry). x.d) vs) C.d
  pub nodes : SameNodes C C'

-- the reference of zero among entries, if it is there
abbrev pub zero_ref : List Entry → Option ℕ
zero_ref vs = cond (ltb (slot same_entry 𝟘 vs) (length vs)) (Some (2 * slot same_entry 𝟘 vs)) None
