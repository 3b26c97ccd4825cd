-- Columns that hold a matrix's reduced diagram: they are searchable, and the verdict that they give is the matrix's.
-- Assumes nothing.
use mathlib.Core.Path.{◌≡◌, sym, ◌∙◌, ap, subst, subst₂}
use mathlib.Core.List.{List, ◌++◌, map}
use Prim.Native.Nat.{ℕ, ◌-◌, ◌<◌, ◌≤◌}
use native.Mathlib.Omega.{arith}
use lib.ListN.{length, get_or, length-map, get_or-append, get_or-map}
use Rattle.algebra.specs.declared.Entry.{Entry}
use Rattle.algebra.specs.Entry.{𝟘, entry}
use Rattle.algebra.specs.Matrix.{Matrix}
use Rattle.diagrams.specs.Diagram.{Ref, node, code, ref_of, Node, branch, Store, holding, unused, Tidy, levels, diagram}
use Rattle.stores.specs.Columns.{Columns, columns, held, NodeColumns, ValueColumns}
use Rattle.uniques.specs.UniqueTable.{node_in}
use Rattle.diagrams.specs.Reference.{Closed}
use Rattle.diagrams.proofs.Unique.{walked}
use Rattle.diagrams.proofs.References.{ref_of_code}
use Rattle.uniques.proofs.Chains.{length_listed}
use Rattle.stores.proofs.Stores.{listed_all}
use Rattle.diagrams.proofs.Diagrams.{diagram_reduced, diagram_gives}
use Rattle.miters.specs.Report.{verdict}
use Rattle.miters.proofs.Verdicts.{verdict_ext}
use Rattle.cofactors.specs.Slots.{store_in, value_at, given}
use Rattle.searches.specs.Ready.{Searchable}

-- ---- the store in columns that begin with it

-- one number of each element, and whatever comes after
begins : {A B : Type 0} (f : A → B) (l : List A) (rest : List B) (blank : A) (i : ℕ) → i < length l
    → get_or (map f l ++ rest) i (f blank) ≡ f (get_or l i blank)
begins f l rest blank i h = get_or-append (map f l) rest (f blank) i (omega (arith, length-map l f)) ∙ get_or-map f l i blank

module _ (s : Store Entry) (rest : Columns) where
  -- the columns with the store in their first slots
  abbrev pub beginning : Columns
  beginning = columns
      (map (λ (n : Node). n.level) s.nodes ++ rest.level)
      (map (λ (n : Node). code n.low) s.nodes ++ rest.low)
      (map (λ (n : Node). code n.high) s.nodes ++ rest.high)
      (map (λ (x : Entry). x.a) s.values ++ rest.a)
      (map (λ (x : Entry). x.b) s.values ++ rest.b)
      (map (λ (x : Entry). x.c) s.values ++ rest.c)
      (map (λ (x : Entry). x.d) s.values ++ rest.d)

  node_begins : (i : ℕ) → i < length s.nodes → node_in beginning.level beginning.low beginning.high i ≡ get_or s.nodes i unused
  node_begins i h = λ t. branch
      (begins (λ (n : Node). n.level) s.nodes rest.level unused i h t)
      ((ap ref_of (begins (λ (n : Node). code n.low) s.nodes rest.low unused i h) ∙ ref_of_code (get_or s.nodes i unused).low) t)
      ((ap ref_of (begins (λ (n : Node). code n.high) s.nodes rest.high unused i h) ∙ ref_of_code (get_or s.nodes i unused).high) t)

  value_begins : (j : ℕ) → j < length s.values → value_at beginning j ≡ get_or s.values j 𝟘
  unfolding 𝟘
  value_begins j h = λ t. entry
      (begins (λ (x : Entry). x.a) s.values rest.a 𝟘 j h t)
      (begins (λ (x : Entry). x.b) s.values rest.b 𝟘 j h t)
      (begins (λ (x : Entry). x.c) s.values rest.c 𝟘 j h t)
      (begins (λ (x : Entry). x.d) s.values rest.d 𝟘 j h t)

  pub store_beginning : store_in (length s.nodes) (length s.values) beginning ≡ s
  store_beginning = λ t. holding
      (listed_all unused s.nodes (node_in beginning.level beginning.low beginning.high) node_begins t)
      (listed_all 𝟘 s.values (value_at beginning) value_begins t)

pub store_held : (N L : ℕ) (s : Store Entry) → store_in (length s.nodes) (length s.values) (held N L s) ≡ s
unfolding held
store_held N L s = store_beginning s (columns _ _ _ _ _ _ _)

-- ---- a matrix's reduced diagram

module _ (n : ℕ) (M : Matrix) (nodes values : ℕ) (cols : Columns) (is : store_in nodes values cols ≡ (diagram n M).store) where
  diagram_closed : Closed (store_in nodes values cols) nodes values
  diagram_closed =
      subst₂ (λ (i j : ℕ). Closed (store_in nodes values cols) i j)
      (length_listed nodes (node_in cols.level cols.low cols.high)) (length_listed values (value_at cols))
      (subst (λ (s : Store Entry). Closed s (length s.nodes) (length s.values)) (sym is)
      (walked (diagram n M).store (diagram_reduced n M).numbered (λ i h. absurd (none_below i h))).closed)
    where
      none_below : (i : ℕ) → i < 0 → ⊥
      none_below i h = omega arith

  pub diagram_searchable : 1 ≤ n → n ≤ 16 → 1 ≤ nodes → nodes ≤ 65536 → values ≤ 65536
      → NodeColumns cols nodes → ValueColumns cols values
      → Searchable n nodes values cols
  diagram_searchable some_qubit few_qubits some_node few_nodes few_values node_columns value_columns = record {
    some_qubit = some_qubit;
    few_qubits = few_qubits;
    some_node = some_node;
    few_nodes = few_nodes;
    few_values = few_values;
    node_columns = node_columns;
    value_columns = value_columns;
    tidy = subst (Tidy 𝟘 (levels n)) (sym is) (diagram_reduced n M).reduced.tidy;
    closed = diagram_closed;
  }

  pub diagram_verdict : (diagram n M).root ≡ node (nodes - 1) → verdict n (given (store_in nodes values cols) (node (nodes - 1))) ≡ verdict n M
  diagram_verdict root_is =
      subst₂ (λ (s : Store Entry) (r : Ref). verdict n (given s r) ≡ verdict n M) (sym is) root_is
      (verdict_ext n (record { at = diagram_gives n M }))
