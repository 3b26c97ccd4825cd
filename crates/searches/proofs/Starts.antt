-- The search from the root on: it is ready, and what it finds comes to the verdict.
-- Assumes nothing.
use mathlib.Core.Path.{◌≡◌, sym, ◌∙◌, ap, ap₂, subst, ◌≡⟨◌⟩◌, ◌∎}
use Prim.Native.Nat.{ℕ, ◌+◌, ◌*◌, ◌-◌, ◌/◌, ◌^◌, ◌≤◌}
use native.Mathlib.Omega.{arith}
use lib.Pow.{pow_mono}
use lib.ListN.{length}
use Rattle.algebra.specs.declared.Entry.{Entry}
use Rattle.algebra.specs.Entry.{𝟘}
use Rattle.algebra.specs.Matrix.{Bits, Matrix}
use Rattle.diagrams.specs.Diagram.{Ref, node, ref_of, place, Store, reached, From, levels}
use Rattle.stores.specs.declared.View.{View}
use Rattle.stores.specs.Columns.{Columns, viewed, value_columns, ValueColumns, zero_ref}
use Rattle.diagrams.proofs.Places.{levels_double, length_place}
use Rattle.diagrams.specs.Reference.{Seen}
use Rattle.miters.specs.declared.Verdict.TheVariants.{Equal, Different}
use Rattle.miters.specs.Miter.{corner}
use Rattle.miters.specs.Report.{verdict}
use Rattle.std.specs.Prelude.{Option, Some, None}
use Rattle.places.specs.declared.Block.{Block}
use Rattle.places.specs.declared.Place.{Place}
use Rattle.places.specs.declared.Task.{Task}
use Rattle.cofactors.specs.Slots.{store_in, value_at, landing, bits, given}
use Rattle.places.specs.Search.{is_zero, found_at, sought, row_sought}
use Rattle.places.specs.Ready.{UsedNodes, RowReady}
use Rattle.searches.specs.Ready.{reference_at, Searchable}
use Rattle.searches.proofs.Landings.{ref_node, Lands, landed, children_used, zero_value, value_test, zero_test}
use Rattle.searches.proofs.Entries.{length_bits, bits_zero}
use Rattle.searches.proofs.Verdicts.{answered, Tells, sought_verdict, sought_lands}

module _ (n nodes values : ℕ) (view : View) (held : Searchable n nodes values (viewed view)) where
  abbrev cols : Columns
  cols = viewed view

  abbrev s : Store Entry
  s = store_in nodes values cols

  abbrev root : ℕ
  root = 2 * (nodes - 1) + 1

  abbrev task : ℕ → Option ℕ → Task
  task c z = record { nodes = nodes; levels = 2 * n; corner = c; zero = z }

  -- all of the diagram
  abbrev whole_block : Block
  whole_block = record { left = 2 * n; root = root; next = 0; after = 0 }

  -- the reference that the bits of all levels lead to, and its entry
  abbrev f : Bits → ℕ
  f = landing cols.level cols.low cols.high 0 root

  abbrev g : Bits → Entry
  g = reached 𝟘 s 0 (node (nodes - 1))

  abbrev M : Matrix
  M = given s (node (nodes - 1))

  -- ---- it is ready

  pub used_nodes : UsedNodes view.nodes nodes
  used_nodes = record {
    in_level = held.node_columns.in_level;
    in_low = held.node_columns.in_low;
    in_high = held.node_columns.in_high;
    closed = children_used nodes values (levels n) cols held.tidy held.closed;
  }

  -- ---- where it lands

  root_is : ref_of root ≡ node (nodes - 1)
  root_is = ref_node root (omega arith) ∙ ap node (omega arith)

  abbrev pub Landing : ℕ → Entry → Type 0
  Landing = Lands nodes values (levels n) cols held.tidy held.closed

  pub root_lands : (l : Bits) → length l ≡ levels n → Landing (f l) (g l)
  root_lands l e = subst (λ (x : Ref). Landing (f l) (reached 𝟘 s 0 x l)) root_is
      (landed nodes values (levels n) cols held.tidy held.closed l 0 root
      (subst (λ (x : Ref). Seen x nodes values) (sym root_is) (omega (arith, held.some_node)))
      (subst (From s 0) (sym root_is) (omega arith)) (omega arith))

  -- the first slots of the value columns
  abbrev Slots : ℕ → Type 0
  Slots = ValueColumns (value_columns view.values)

  pub slot_there : {v : ℕ} {e : Entry} → Landing v e → Slots (v / 2 + 1)
  slot_there lands = record {
    in_a = omega (arith, lands.used, held.value_columns);
    in_b = omega (arith, lands.used, held.value_columns);
    in_c = omega (arith, lands.used, held.value_columns);
    in_d = omega (arith, lands.used, held.value_columns);
  }

  -- the reference at a row and a column is to the entry there
  pub entry_lands : (row column : ℕ) {r : ℕ} → r ≡ reference_at view.nodes nodes n row column → Landing r (M (bits n row) (bits n column))
  entry_lands row column is = subst (λ (v : ℕ). Landing v (M (bits n row) (bits n column))) (sym is)
      (root_lands (place (bits n row) (bits n column))
      (length_place n (bits n row) (bits n column) (length_bits n row) (length_bits n column)))

  module _ {c : ℕ} {z : Option ℕ} (c_is : c ≡ reference_at view.nodes nodes n 0 0) (z_is : z ≡ zero_ref s.values) where
    corner_lands : Landing c (corner n M)
    corner_lands = subst (λ (b : Bits). Landing c (M b b)) (bits_zero n) (entry_lands 0 0 c_is)

    pub corner_there : Slots (c / 2 + 1)
    corner_there = slot_there corner_lands

    pub root_ready : RowReady view.nodes (task c z) whole_block
    root_ready = record {
      ready = record {
        held = used_nodes;
        zero_value = λ x e. zero_value nodes values (levels n) cols held.tidy held.closed x (sym z_is ∙ e);
        within = omega arith;
        used = λ odd. omega (arith, held.some_node);
        next_room = room;
        after_room = room;
      };
      qubits_left = n;
      whole = sym (levels_double n);
    }
      where
        room : 1 * 2 ^ (2 * n) ≤ 4294967296
        room = omega (arith, pow_mono {i = 2 * n} {j = 32} (omega (arith, held.few_qubits)))

    -- ---- what it finds

    from_root : row_sought view.nodes (task c z) whole_block ≡ sought found_at (task c z) (levels n) f 0 0
    from_root = λ i. sought found_at (task c z) (sym (levels_double n) i) (landing cols.level cols.low cols.high (none i) root) 0 0
      where
        none : 2 * n - 2 * n ≡ 0
        none = omega arith

    tells : (l : Bits) → length l ≡ levels n → Tells n (task c z) (value_at cols) f g l
    tells l e =
        let lands = root_lands l e in
        record {
          entry_is = lands.entry;
          tells_corner = value_test nodes values (levels n) cols held.tidy held.closed lands corner_lands;
          tells_zero = ap (λ (o : Option ℕ). is_zero o (f l)) z_is ∙ zero_test nodes values (levels n) cols held.tidy held.closed lands;
        }

    module _ {found : Option Place} (found_is : found ≡ row_sought view.nodes (task c z) whole_block) where
      answered_verdict : {factor : Entry} → factor ≡ value_at cols (c / 2) → answered (value_at cols) factor found ≡ verdict n M
      answered_verdict {factor} factor_is =
          answered (value_at cols) factor found ≡⟨ ap₂ (answered (value_at cols)) (factor_is ∙ corner_lands.entry) (found_is ∙ from_root) ⟩
          answered (value_at cols) (corner n M) (sought found_at (task c z) (levels n) f 0 0)
          ≡⟨ sought_verdict n (task c z) (value_at cols) f g tells ⟩
          verdict n M ∎

      pub found_equal : {factor : Entry} → found ≡ None → factor ≡ value_at cols (c / 2) → Equal factor ≡ verdict n M
      found_equal {factor} nowhere factor_is = ap (answered (value_at cols) factor) (sym nowhere) ∙ answered_verdict factor_is

      pub found_different : {place : Place} {e factor : Entry}
          → found ≡ Some place → e ≡ value_at cols (place.value / 2) → factor ≡ value_at cols (c / 2)
          → Different (record { row = place.row; column = place.column; entry = e; corner = factor }) ≡ verdict n M
      found_different {place} {factor = factor} at e_is factor_is =
          ap (λ (e : Entry). Different (record { row = place.row; column = place.column; entry = e; corner = factor })) e_is
          ∙ ap (answered (value_at cols) factor) (sym at) ∙ answered_verdict factor_is

      pub found_there : {place : Place} → found ≡ Some place → Slots (place.value / 2 + 1)
      found_there e = sought_lands (task c z) (levels n) f (λ v. Slots (v / 2 + 1))
          (λ l h. slot_there (root_lands l h)) (sym from_root ∙ sym found_is ∙ e)
