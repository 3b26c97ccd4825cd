-- The source of a step: columns that hold a matrix's diagram are what the walk reads, and what it builds goes back into columns.
-- Assumes nothing.
use mathlib.Core.Path.{◌≡◌, refl, sym, ◌∙◌, ap, ap₂, subst}
use mathlib.Core.Bool.{Bool, true, false, cond}
use mathlib.Core.List.{List, [], ◌∷◌}
use Prim.Native.Nat.{ℕ, zero, suc, ◌+◌, ◌-◌, ◌*◌, ◌<◌, ◌≤◌, max}
use native.Mathlib.Omega.{arith}
use native.Mathlib.Decide.{dec_lt}
use lib.Dec.{leb}
use lib.IntN.{ℤ}
use lib.ListN.{length, get_or, take}
use Rattle.std.proofs.lemmas.List.{length-take-le}
use borrow.Author.Tests.{lt-ltb, le-ltb, leb-true}
use Rattle.std.specs.Prelude.{Option, Result, Ok, Err}
use Rattle.algebra.specs.declared.Entry.{Entry}
use Rattle.algebra.specs.Entry.{𝟘}
use Rattle.algebra.specs.Matrix.{Matrix}
use Rattle.algebra.specs.Lowering.{ValuesOver, lower_values}
use Rattle.lowerings.specs.Lowered.{Lowers}
use Rattle.gates.proofs.LocalRules.{target_fits}
use Rattle.diagrams.specs.Diagram.{code, Store, holding, Diagram, diagram, slot, same_entry}
use Rattle.stores.specs.declared.View.{View}
use Rattle.stores.specs.Columns.{Columns, columns, viewed, value_columns, entries_of, zero_ref, Published, SameValues, ValueColumns, zeroed, Holds}
use Rattle.uniques.specs.declared.NodeTable.{NodeTable}
use Rattle.uniques.specs.declared.ValueTable.{ValueTable}
use Rattle.uniques.specs.UniqueTable.{listed, node_in, nodes_in, NodesHeld, value_in, values_in, table_values, ValuesHeld}
use Rattle.uniques.proofs.Chains.{length_listed}
use Rattle.stores.proofs.EmptyTables.{cleared_nodes, cleared_values}
use Rattle.stores.proofs.Filling.{listed_take}
use Rattle.stores.proofs.Stores.{table_holds, level_held, low_held, high_held, entry_held, nodes_held, entries_held}
use Rattle.diagrams.proofs.Tests.{Decides, both_true, entry_decides}
use Rattle.miters.specs.declared.StepFault.{StepFault}
use Rattle.miters.specs.declared.StepFault.TheVariants.{OutsideWidth as TooWide, NoRoom}
use Rattle.miters.specs.Miter.{Over, table, lowered}
use Rattle.miters.specs.Run.{Lent, in_width, has_room}
use Rattle.miters.proofs.LoweredDiagrams.{with_values, diagram_lowered, lower_length, room_lowered}
use Rattle.transitions.specs.declared.Plan.{Plan as CodePlan}
use Rattle.transitions.specs.Plan.{plan_of}
use Rattle.plans.specs.Prepare.{product_on, PlanFor}
use Rattle.transitions.specs.Source.{cols_of, vals_of, SourceHeld}
use Rattle.transitions.specs.Valid.{IsZero, ValidPlan}
use Rattle.meanings.proofs.Starts.{zero_found, zero_absent, plan_valid}
use Rattle.tables.specs.Table.{TableFits, table_end, table_size}
use Rattle.tables.proofs.Sizes.{table_size_some, table_size_limit}
use Rattle.tables.proofs.Tables.{cleared_zero, length_cleared}
use Rattle.turns.specs.declared.OutsideWidth.{OutsideWidth}
use Rattle.turns.specs.declared.Planned.{Planned}
use Rattle.turns.specs.declared.Work.{Work}
use Rattle.turns.specs.Work.{source_in, node_room, value_room, store_in, SameWork}
use Rattle.products.specs.Step.{Given, lent_by, Stepped, built, too_large, too_wide, Multiplied}
use Rattle.products.specs.Step as product
use Rattle.plans.specs.declared.Step.{Step}
use Rattle.stores.specs.declared.Used.{Used}
use Rattle.plans.specs.declared.Scratch.{Scratch as LentScratch}
use Rattle.plans.specs.Layout.{counted, planned, Planning, Roomy, Cleared}
use Rattle.plans.proofs.Plans.{planned_for}
use Rattle.steps.specs.Answering.{come_to, Walked}
use Rattle.steps.specs.declared.Taken.{Taken}
use Rattle.steps.specs.Stepping.{Task, Took, lent_with}
use Rattle.steps.specs.Stepping as stepping

-- ---- the zero

-- a slot that is there has the element
slot_there : {A : Type 0} {same : A → A → Bool} → Decides same → (x blank : A) (l : List A)
    → slot same x l < length l → get_or l (slot same x l) blank ≡ x
slot_there 𝓓 x blank [] h = absurd (omega arith)
slot_there {same = same} 𝓓 x blank (y ∷ l) h = by_test (same y x) refl h (slot_there 𝓓 x blank l)
  where
    by_test : (b : Bool) → same y x ≡ b → cond b 0 (suc (slot same x l)) < suc (length l)
        → (slot same x l < length l → get_or l (slot same x l) blank ≡ x) → get_or (y ∷ l) (cond b 0 (suc (slot same x l))) blank ≡ x
    by_test true e below onward = 𝓓.sound y x e
    by_test false e below onward = onward (omega arith)

-- the reference of zero among a store's values, or none
zero_is : (s : Store Entry) → IsZero s (zero_ref s.values)
zero_is s = by_test (dec_lt (slot same_entry 𝟘 s.values) (length s.values))
  where
    by_test : Dec (slot same_entry 𝟘 s.values < length s.values) → IsZero s (zero_ref s.values)
    by_test (yes there) = rw (lt-ltb _ _ there) (zero_found s (slot same_entry 𝟘 s.values) _ refl (slot_there entry_decides 𝟘 𝟘 s.values there))
    by_test (no absent) = rw (le-ltb (slot same_entry 𝟘 s.values) (length s.values) (omega arith)) (zero_absent s)

-- ---- what a task says

module _ (view : View) {step : Step} {destination : Columns} {lent_scratch : LentScratch}
    (task : Task step (viewed view) destination lent_scratch) where
  abbrev source : Columns
  source = viewed view

  abbrev s : Store Entry
  s = (diagram step.n task.matrix).store

  abbrev cols : List (List ℕ)
  cols = cols_of view.nodes

  abbrev vals : List (List ℤ)
  vals = vals_of view.values

  -- the source fits its columns
  few_nodes : step.used.nodes ≤ task.N
  few_nodes = omega (arith, task.given.nodes, task.given.holds.of_level.room)

  few_values : step.used.values ≤ task.L
  few_values = omega (arith, task.given.values, task.given.holds.of_a.room)

  pub root_fits : (step.used.nodes ≤ 65536) × (1 ≤ step.used.nodes)
  root_fits =
      let (i, is, last) = task.given.root in
      (omega (arith, few_nodes, task.scratch.few_nodes), omega (arith, task.given.nodes, last))

  pub planning : Planning step.action step.n step.used
  planning =
      let low_is = task.acts.low in
      record {
        few_qubits = task.few_qubits;
        few_nodes = root_fits.0;
        few_values = omega (arith, few_values, task.scratch.few_values);
        small_named = task.acts.small_named;
        small_low = omega (arith, low_is, target_fits step.n task.gate task.acts.fits, task.few_qubits);
        small_high = task.acts.small_high;
      }

  pub source_values : ValueColumns (value_columns view.values) step.used.values
  source_values = record {
    in_a = omega (arith, few_values, task.given.holds.of_a.long);
    in_b = omega (arith, few_values, task.given.holds.of_b.long);
    in_c = omega (arith, few_values, task.given.holds.of_c.long);
    in_d = omega (arith, few_values, task.given.holds.of_d.long);
  }

  -- ---- the plan

  abbrev zero_here : Option ℕ
  zero_here = zero_ref (entries_of (value_columns view.values) step.used.values)

  module _ (plan : CodePlan) (is : plan ≡ planned step.action step.n step.sizes step.used zero_here) where
    -- the numbers of the plan
    record Sized : Type 0 where
      of_zero : plan.zero ≡ zero_here
      of_node_heads : plan.node_heads ≡ table_size step.used.nodes 64 step.sizes.heads
      of_value_heads : plan.value_heads ≡ table_size step.used.values 16 step.sizes.heads
      of_slots : plan.slots ≡ table_size (counted step.action.rule step.used.nodes) 64 step.sizes.slots
      of_width : plan.width ≡ step.sizes.width
      of_span : plan.span ≡ 2 * max step.used.nodes step.used.values
      of_nodes : plan.nodes ≡ step.used.nodes
      of_values : plan.values ≡ step.used.values

    slots : Sized
    unfolding planned
    slots = record {
      of_zero = ap (λ (p : CodePlan). p.zero) is;
      of_node_heads = ap (λ (p : CodePlan). p.node_heads) is;
      of_value_heads = ap (λ (p : CodePlan). p.value_heads) is;
      of_slots = ap (λ (p : CodePlan). p.slots) is;
      of_width = ap (λ (p : CodePlan). p.width) is;
      of_span = ap (λ (p : CodePlan). p.span) is;
      of_nodes = ap (λ (p : CodePlan). p.nodes) is;
      of_values = ap (λ (p : CodePlan). p.values) is;
    }

    for_gate : PlanFor step.n task.right task.gate (plan_of plan)
    for_gate = rw is (planned_for step.n task.right task.gate step.action step.sizes step.used zero_here task.acts)

    zero_planned : IsZero s (plan_of plan).zero
    zero_planned = subst (IsZero s) (sym zero_same) (zero_is s)
      where
        zero_same : (plan_of plan).zero ≡ zero_ref s.values
        zero_same = slots.of_zero
            ∙ ap (λ (k : ℕ). zero_ref (entries_of source k)) task.given.values
            ∙ ap zero_ref (entries_held s source task.given.holds)

    valid : ValidPlan (plan_of plan) s
    valid = plan_valid step.n task.right task.gate task.matrix (plan_of plan) task.acts.fits for_gate zero_planned

    table_fits : TableFits (plan_of plan) lent_scratch.memo.now
    table_fits =
        let nodes_counted = counted step.action.rule step.used.nodes in
        let some_slots = table_size_some nodes_counted 64 step.sizes.slots (omega arith) task.scratch.some_slots in
        let slots_limit = table_size_limit nodes_counted 64 step.sizes.slots in
        record {
          sizes = record {
            some_slots = omega (arith, slots.of_slots, some_slots);
            slots_limit = omega (arith, slots.of_slots, slots_limit, task.scratch.few_slots);
            span_limit = omega (arith, slots.of_span, planning.few_nodes, planning.few_values);
            phase_zero = valid.phase_zero;
            phase_one = valid.phase_one;
          };
          room = omega (arith, slots.of_slots, slots_limit, slots.of_span, few_nodes, few_values, task.scratch.node_span, task.scratch.value_span);
        }

    pub roomy : Roomy plan (length destination.level) (length destination.a) lent_scratch
    roomy = record {
      few_nodes = omega (arith, task.room.of_level, task.scratch.few_nodes);
      few_values = omega (arith, task.room.of_a, task.scratch.few_values);
      in_nodes = omega (
        arith,
        slots.of_node_heads,
        table_size_limit step.used.nodes 64 step.sizes.heads,
        task.room.of_level,
        task.scratch.nodes_long,
      );
      in_values = omega (
        arith,
        slots.of_value_heads,
        table_size_limit step.used.values 16 step.sizes.heads,
        task.room.of_a,
        task.scratch.values_long,
      );
      table = table_fits;
    }

    -- ---- the walk

    holding_is : holding (nodes_in plan.nodes source.level source.low source.high) (entries_of source plan.values) ≡ s
    holding_is = ap₂ holding
        (ap (λ (k : ℕ). nodes_in k source.level source.low source.high) (slots.of_nodes ∙ task.given.nodes)
        ∙ nodes_held s source task.given.holds)
        (ap (λ (k : ℕ). entries_of source k) (slots.of_values ∙ task.given.values)
        ∙ entries_held s source task.given.holds)

    in_nodes : (c : ℕ) → c < 3 → length s.nodes ≤ length (get_or cols c [])
    in_nodes zero h = omega (arith, task.given.holds.of_level.room, task.given.holds.of_level.long)
    in_nodes (suc zero) h = omega (arith, task.given.holds.of_low.room, task.given.holds.of_low.long)
    in_nodes (suc (suc zero)) h = omega (arith, task.given.holds.of_high.room, task.given.holds.of_high.long)
    in_nodes (suc (suc (suc c))) h = absurd (omega arith)

    in_values : (c : ℕ) → c < 4 → length s.values ≤ length (get_or vals c [])
    in_values zero h = omega (arith, task.given.holds.of_a.room, task.given.holds.of_a.long)
    in_values (suc zero) h = omega (arith, task.given.holds.of_b.room, task.given.holds.of_b.long)
    in_values (suc (suc zero)) h = omega (arith, task.given.holds.of_c.room, task.given.holds.of_c.long)
    in_values (suc (suc (suc zero))) h = omega (arith, task.given.holds.of_d.room, task.given.holds.of_d.long)
    in_values (suc (suc (suc (suc c)))) h = absurd (omega arith)

    source_held : SourceHeld s cols vals
    source_held = record {
      nodes = record {
        long = in_nodes;
        level_at = level_held s source task.given.holds;
        low_at = low_held s source task.given.holds;
        high_at = high_held s source task.given.holds;
      };
      values = record {
        long = in_values;
        entry_at = entry_held s source task.given.holds;
      };
    }

    -- ---- the tables, once they are cleared

    module _ (lent_scratch' : LentScratch) (clean : Cleared plan (length destination.level) (length destination.a) lent_scratch lent_scratch') where
      abbrev cleared_terminals : List Entry
      cleared_terminals = lent_scratch'.terminals.now

      abbrev node_index' : List ℕ
      node_index' = lent_scratch'.node_index.now

      abbrev value_index' : List ℕ
      value_index' = lent_scratch'.value_index.now

      abbrev memo' : List ℕ
      memo' = lent_scratch'.memo.now

      terminals_now : length cleared_terminals ≡ task.L
      terminals_now = ap length clean.terminals ∙ task.scratch.terminals_long

      terminals_room : length destination.a ≡ length cleared_terminals
      terminals_room = task.room.of_a ∙ sym terminals_now

      -- the tables that the walk starts from are empty
      pub no_nodes : NodesHeld (length destination.level) plan.node_heads (nodes_in 0 destination.level destination.low destination.high)
          destination.level destination.low destination.high node_index'
      unfolding listed
      no_nodes = rw clean.of_nodes (cleared_nodes (length destination.level) plan.node_heads destination.level destination.low destination.high
          lent_scratch.node_index.now
          refl (task.room.of_low ∙ sym task.room.of_level) (task.room.of_high ∙ sym task.room.of_level)
          roomy.few_nodes some_heads roomy.in_nodes)
        where
          some_heads : 0 < plan.node_heads
          some_heads = omega (arith, slots.of_node_heads, table_size_some step.used.nodes 64 step.sizes.heads (omega arith) task.scratch.some_heads)

      pub no_values : ValuesHeld (length cleared_terminals) plan.value_heads (values_in 0 cleared_terminals) cleared_terminals value_index'
      unfolding listed
      no_values = rw clean.of_values (subst (λ (k : ℕ). ValuesHeld k plan.value_heads [] cleared_terminals
          (zeroed 0 (length destination.a) (length destination.a + plan.value_heads) lent_scratch.value_index.now)) terminals_room
          (cleared_values (length destination.a) plan.value_heads cleared_terminals lent_scratch.value_index.now
          (sym terminals_room) roomy.few_values some_values roomy.in_values))
        where
          some_values : 0 < plan.value_heads
          some_values = omega (
            arith,
            slots.of_value_heads,
            table_size_some step.used.values 16 step.sizes.heads (omega arith) task.scratch.some_heads,
          )

      pub table_ready : TableFits (plan_of plan) memo'
      table_ready = record {
        sizes = table_fits.sizes;
        room = omega (
          arith,
          ap length clean.of_memo,
          length_cleared (table_end (plan_of plan)) lent_scratch.memo.now table_fits.room,
          table_fits.room,
        );
      }

      pub blank : (i : ℕ) → i < table_end (plan_of plan) → get_or memo' i 0 ≡ 0
      blank i h = ap (λ (m : List ℕ). get_or m i 0) clean.of_memo ∙ cleared_zero (table_end (plan_of plan)) lent_scratch.memo.now i h

-- ---- a step that is planned

module _ (followed : Planned) {step : Step} {destination : Columns} {lent_scratch : LentScratch}
    (task : Task step (viewed followed.source) destination lent_scratch)
    (is : followed.plan.now
    ≡ planned step.action step.n step.sizes step.used (zero_ref (entries_of (value_columns followed.source.values) step.used.values))) where
  abbrev plan : CodePlan
  plan = followed.plan.now

  abbrev N : ℕ
  N = task.N

  abbrev L : ℕ
  L = task.L

  abbrev numbers : Sized followed.source task plan is
  numbers = slots followed.source task plan is

  abbrev matrix_store : Store Entry
  matrix_store = (diagram step.n task.matrix).store

  source_is : source_in followed ≡ matrix_store
  source_is = holding_is followed.source task plan is

  abbrev HeldBy : Store Entry → Type 0
  HeldBy t = SourceHeld t (cols_of followed.source.nodes) (vals_of followed.source.values)

  walk_given : Given step.n task.matrix followed
  walk_given = record {
    source = source_is;
    columns = subst HeldBy (sym source_is) (source_held followed.source task plan is);
    node_span = subst (λ (t : Store Entry). 2 * length t.nodes ≤ (plan_of plan).span) (sym source_is)
        (omega (arith, numbers.of_span, task.given.nodes));
    value_span = subst (λ (t : Store Entry). 2 * length t.values ≤ (plan_of plan).span) (sym source_is)
        (omega (arith, numbers.of_span, task.given.values));
  }

  pub walk_task : product.Task followed (2 * (step.used.nodes - 1) + 1)
  walk_task = record {
    qubits = step.n;
    right = task.right;
    gate = task.gate;
    matrix = task.matrix;
    fits = task.acts.fits;
    planned = for_gate followed.source task plan is;
    zero = zero_planned followed.source task plan is;
    given = walk_given;
    root_is = root_is;
    width = rw numbers.of_width task.width;
  }
    where
      root_is : 2 * (step.used.nodes - 1) + 1 ≡ code (diagram step.n task.matrix).root
      root_is =
          let (i, here, last) = task.given.root in
          let last_code : 2 * (step.used.nodes - 1) + 1 ≡ 2 * i + 1 = omega (arith, last, task.given.nodes) in
          last_code ∙ sym (ap code here)

  module _ (lent_scratch' : LentScratch) (clean : Cleared plan (length destination.level) (length destination.a) lent_scratch lent_scratch') where
    abbrev terminals' : List Entry
    terminals' = lent_scratch'.terminals.now

    abbrev terminals_are : length terminals' ≡ L
    terminals_are = terminals_now followed.source task plan is lent_scratch' clean

    -- ---- what it leaves

    abbrev result : Matrix
    result = product_on task.right step.n task.gate task.matrix

    abbrev lent : Lent
    lent = lent_with step.sizes N L

    -- a walk in as much room as the destination has
    module _ (before after : Work) {r : Result ℕ OutsideWidth} (walked : Multiplied followed (2 * (step.used.nodes - 1) + 1) before after r)
        (node_room_is : node_room before ≡ length destination.level) (value_room_is : value_room before ≡ length terminals')
        (same : SameWork before after) where
      leaves : Stepped lent step.n result after r
      unfolding walk_task
      leaves = subst (λ (l : Lent). Stepped l step.n result after r) same_lent (walked walk_task)
        where
          same_lent : lent_by followed before ≡ lent
          same_lent i = record {
            width = numbers.of_width i;
            nodes = (node_room_is ∙ task.room.of_level) i;
            values = (value_room_is ∙ terminals_are) i;
          }

      -- a store built has its counts in the tables, and room
      pub record Built : Type 0 where
        within : in_width lent step.n result ≡ true
        room : has_room lent step.n result ≡ true
        store : store_in after ≡ (diagram step.n result).store
        nodes : after.nodes.now.used ≡ length (diagram step.n result).store.nodes
        values : after.values.now.used ≡ length (diagram step.n result).store.values
        few_nodes : length (diagram step.n result).store.nodes ≤ N
        few_values : length (diagram step.n result).store.values ≤ L

      built_is : in_width lent step.n result ≡ true → has_room lent step.n result ≡ true → store_in after ≡ (diagram step.n result).store → Built
      built_is within room store =
          let (few_nodes, few_values) = both_true (leb (length (diagram step.n result).store.nodes) N)
          (leb (length (diagram step.n result).store.values) L) room in
          record {
            within = within;
            room = room;
            store = store;
            nodes = sym (length_listed after.nodes.now.used (node_in after.nodes.now.level.now after.nodes.now.low.now after.nodes.now.high.now))
                ∙ ap (λ (t : Store Entry). length t.nodes) store;
            values = sym (length_listed after.values.now.used (value_in after.values.now.terminals.now))
                ∙ ap (λ (t : Store Entry). length t.values) store;
            few_nodes = leb-true _ _ few_nodes;
            few_values = leb-true _ _ few_values;
          }

      builds : come_to after r ≡ Ok tt → Built
      builds comes = by_left leaves comes
        where
          by_left : {r : Result ℕ OutsideWidth} → Stepped lent step.n result after r → come_to after r ≡ Ok tt → Built
          by_left (built within room has_built store) e = built_is within room store
          by_left (too_large within room is_full) e = let none = rw is_full at e in cc
          by_left (too_wide out) e = cc

      -- the step is refused
      pub refused : {fault : StepFault} → come_to after r ≡ Err fault → (power : ℕ) {C' : Columns}
          → Took lent step.n (table power result) C' (Err fault)
      refused {fault} comes power {C'} = by_left leaves comes
        where
          by_left : {r : Result ℕ OutsideWidth} → Stepped lent step.n result after r → come_to after r ≡ Err fault
              → Took lent step.n (table power result) C' (Err fault)
          by_left (built within room has_built store) e = let none = rw has_built at e in cc
          by_left (too_large within room is_full) e =
              let full = rw is_full at e in
              let is : NoRoom ≡ fault = cc in
              subst (λ (f : StepFault). Took lent step.n (table power result) C' (Err f)) is
              (stepping.too_large within (room_lowered lent step.n (table power result) ∙ room))
          by_left (too_wide out) e =
              let is : TooWide ≡ fault = cc in
              subst (λ (f : StepFault). Took lent step.n (table power result) C' (Err f)) is (stepping.too_wide out)

      abbrev counts : Used
      counts = record { nodes = after.nodes.now.used; values = after.values.now.used }

      -- the destination after the walk has the table's nodes, and the values that it had
      module _ {C : Columns} (level_is : C.level ≡ after.nodes.now.level.now)
          (low_is : C.low ≡ after.nodes.now.low.now) (high_is : C.high ≡ after.nodes.now.high.now) (stay : SameValues destination C) where
        long_a : length C.a ≡ L
        long_a = ap length stay.same_a ∙ task.room.of_a

        long_b : length C.b ≡ L
        long_b = ap length stay.same_b ∙ task.room.of_b

        long_c : length C.c ≡ L
        long_c = ap length stay.same_c ∙ task.room.of_c

        long_d : length C.d ≡ L
        long_d = ap length stay.same_d ∙ task.room.of_d

        pub publishable : Built → (after.values.now.used ≤ length after.values.now.terminals.now) × ValueColumns C after.values.now.used
        publishable b =
            let few : after.values.now.used ≤ L = omega (arith, b.values, b.few_values) in (
              omega (arith, few, same.values.terminals_long, value_room_is, terminals_are),
              record {
                in_a = omega (arith, few, long_a);
                in_b = omega (arith, few, long_b);
                in_c = omega (arith, few, long_c);
                in_d = omega (arith, few, long_d);
              },
            )

        -- divided while it goes and published, the product is held by the columns
        pub took : Built → (power : ℕ) {C' : Columns}
            → length after.nodes.now.level.now ≡ length destination.level → length after.nodes.now.low.now ≡ length destination.low
            → length after.nodes.now.high.now ≡ length destination.high
            → {vs : List Entry} {exponent : ℕ} → Lowers power (table_values after.values.now) vs exponent
            → Published vs C C' → Took lent step.n (table power result) C' (Ok (record { used = counts; exponent = exponent }))
        took b power {C'} level_long low_long high_long {vs} {exponent} lowers published =
            subst (λ (k : ℕ). Took lent step.n M C' (Ok (record { used = counts; exponent = k }))) (sym exponent_is)
            (stepping.built b.within (room_lowered lent step.n M ∙ b.room)
            (b.nodes ∙ sym (ap (λ (d : Diagram Entry). length d.store.nodes) drawn))
            (b.values ∙ sym (ap (λ (d : Diagram Entry). length d.store.values) drawn ∙ same_length))
            (subst (λ (d : Diagram Entry). Holds N L d.store C') (sym drawn) held))
          where
            M : Over
            M = table power result

            D : Diagram Entry
            D = diagram step.n result

            low : ValuesOver
            low = lower_values power D.store.values

            drawn : diagram step.n (lowered step.n M).entries ≡ with_values D low.values
            drawn = (diagram_lowered step.n power result).0

            values_are : table_values after.values.now ≡ D.store.values
            values_are = ap (λ (t : Store Entry). t.values) b.store

            exponent_is : exponent ≡ (lowered step.n M).power
            exponent_is =
                lowers.exponent ∙ ap (λ (l : List Entry). (lower_values power l).power) values_are ∙ sym (diagram_lowered step.n power result).1

            same_length : length low.values ≡ length D.store.values
            same_length = lower_length power D.store.values

            nodes_are : nodes_in (length D.store.nodes) C.level C.low C.high ≡ D.store.nodes
            nodes_are =
                rw (level_is, low_is, high_is)
                (ap (λ (k : ℕ). nodes_in k after.nodes.now.level.now after.nodes.now.low.now after.nodes.now.high.now) (sym b.nodes)
                ∙ ap (λ (t : Store Entry). t.nodes) b.store)

            held : Holds N L (with_values D low.values).store C'
            held =
                table_holds (with_values D low.values).store (
                  ap length level_is ∙ (level_long ∙ task.room.of_level),
                  ap length low_is ∙ (low_long ∙ task.room.of_low),
                  ap length high_is ∙ (high_long ∙ task.room.of_high),
                ) nodes_are b.few_nodes (long_a, long_b, long_c, long_d) (omega (arith, same_length, b.few_values))
                (subst (λ (l : List Entry). Published l C C') (lowers.values ∙ ap (λ (l : List Entry). (lower_values power l).values) values_are)
                published)

    -- the same of a walk that is known by its tables and its answer
    module _ {nodes nodes' : NodeTable} {values values' : ValueTable} {answer : Result (Unit {0}) StepFault}
        (walked : Walked followed (2 * (step.used.nodes - 1) + 1) nodes values nodes' values' answer)
        (node_room_is : length nodes.level.now ≡ length destination.level) (value_room_is : length values.terminals.now ≡ length terminals') where
      node_room_before : node_room walked.before ≡ length destination.level
      node_room_before = ap (λ (t : NodeTable). length t.level.now) walked.from_nodes ∙ node_room_is

      value_room_before : value_room walked.before ≡ length terminals'
      value_room_before = ap (λ (t : ValueTable). length t.terminals.now) walked.from_values ∙ value_room_is

      pub walk_refused : {fault : StepFault} → answer ≡ Err fault → (power : ℕ) {C' : Columns}
          → Took lent step.n (table power result) C' (Err fault)
      walk_refused e =
          refused walked.before walked.after walked.multiplied node_room_before value_room_before walked.same (sym walked.comes_to ∙ e)

      module _ (going : answer ≡ Ok tt) where
        walk_built : Built walked.before walked.after walked.multiplied node_room_before value_room_before walked.same
        walk_built =
            builds walked.before walked.after walked.multiplied node_room_before value_room_before walked.same (sym walked.comes_to ∙ going)

        by_walk : {C : Columns} → C.level ≡ nodes'.level.now → C.low ≡ nodes'.low.now → C.high ≡ nodes'.high.now → SameValues destination C
            → (values'.used ≤ length values'.terminals.now) × ValueColumns C values'.used
        by_walk = rw (← walked.of_values, ← walked.of_nodes) (λ level_is low_is high_is stay.
            publishable walked.before walked.after walked.multiplied node_room_before value_room_before walked.same
            level_is low_is high_is stay walk_built)

        pub walk_fits : {ts : List Entry} → ts ≡ values'.terminals.now → values'.used ≤ length ts
        walk_fits terminals_are = rw terminals_are
            (by_walk
            {C = columns nodes'.level.now nodes'.low.now nodes'.high.now destination.a destination.b destination.c destination.d}
            refl refl refl (record { same_a = refl; same_b = refl; same_c = refl; same_d = refl })).0

        module _ {C : Columns} (level_is : C.level ≡ nodes'.level.now) (low_is : C.low ≡ nodes'.low.now) (high_is : C.high ≡ nodes'.high.now)
            (stay : SameValues destination C) {ts : List Entry} (terminals_are : ts ≡ values'.terminals.now)
            {power exponent : ℕ} {vs : List Entry} (lowers : Lowers power (take values'.used ts) vs exponent) where
          pub walk_publishable : ValueColumns C (length vs)
          walk_publishable =
              let as_many : length vs ≡ values'.used = ap length lowers.values
              ∙ (lower_length power (take values'.used ts) ∙ length-take-le values'.used ts (walk_fits terminals_are)) in
              rw as_many (by_walk level_is low_is high_is stay).1

          abbrev holding_now : Taken
          holding_now = record { used = record { nodes = nodes'.used; values = values'.used }; exponent = exponent }

          pub walk_took : {C' : Columns}
              → length nodes'.level.now ≡ length destination.level → length nodes'.low.now ≡ length destination.low
              → length nodes'.high.now ≡ length destination.high → Published vs C C' → Took lent step.n (table power result) C' (Ok holding_now)
          walk_took level_long low_long high_long published =
              of_walk level_is low_is high_is level_long low_long high_long
              (subst (λ (l : List Entry). Lowers power l vs exponent) values_are lowers) published
            where
              values_are : take values'.used ts ≡ table_values values'
              values_are = sym (listed_take ts 𝟘 values'.used (walk_fits terminals_are)) ∙ ap (values_in values'.used) terminals_are

              of_walk : {C' : Columns} → C.level ≡ nodes'.level.now → C.low ≡ nodes'.low.now → C.high ≡ nodes'.high.now
                  → length nodes'.level.now ≡ length destination.level → length nodes'.low.now ≡ length destination.low
                  → length nodes'.high.now ≡ length destination.high
                  → Lowers power (table_values values') vs exponent → Published vs C C' → Took lent step.n (table power result) C' (Ok holding_now)
              of_walk = rw (← walked.of_values, ← walked.of_nodes) (λ level_is low_is high_is level_long low_long high_long lowers published.
                  took walked.before walked.after walked.multiplied node_room_before value_room_before walked.same
                  level_is low_is high_is stay walk_built power level_long low_long high_long lowers published)
