-- What is kept and reported of a run that ended is the outcome that the paper defines.
-- Assumes nothing.
use mathlib.Core.Path.{◌≡◌, sym, ◌∙◌, ap, subst}
use mathlib.Core.List.{List}
use Prim.Native.Nat.{ℕ, ◌-◌, ◌≤◌}
use native.Mathlib.Omega.{arith}
use lib.IntN.{pos}
use lib.ListN.{length, take, replicate}
use Rattle.std.specs.Prelude.{Result}
use Rattle.algebra.specs.Matrix.{Matrix}
use Rattle.diagrams.specs.Diagram.{node, diagram}
use Rattle.stores.specs.Columns.{Columns, columns_of, column, held, cleared, wiped, NodeColumns, ValueColumns, SameColumns}
use Rattle.stores.specs.declared.Store.{Store as LentStore}
use Rattle.stores.proofs.Stores.{wiped_held}
use Rattle.miters.specs.declared.Refusal.{Refusal}
use Rattle.miters.specs.declared.Report.{Report}
use Rattle.miters.specs.Report.{finished}
use Rattle.miters.specs.Miter.{steps}
use Rattle.miters.specs.Run.{Lent, Ended, ended, outcome}
use Rattle.cofactors.specs.Slots.{store_in}
use Rattle.searches.proofs.Held.{store_held, diagram_searchable, diagram_verdict}
use Rattle.stores.specs.declared.Used.{Used}
use Rattle.plans.specs.declared.Sizes.{Sizes}
use Rattle.plans.specs.declared.Scratch.{Scratch as LentScratch}
use Rattle.steps.specs.Stepping.{Source, Long, Scratch, lent_with}
use Rattle.choices.specs.declared.Course.{Course}
use Rattle.runs.specs.declared.Finish.{Finish}
use Rattle.runs.specs.Running.{Task, Ran, ran, refused, Left}
use Rattle.runs.proofs.Stores.{long_same}
use Rattle.endings.specs.Ending.{kept, Readable, report_of}
use Rattle.judges.specs.Calls.{Passed, answer_along, leaving}
use Rattle.judges.proofs.Passing.{Running, passed_running}

-- ---- columns that are all 0

cleared_column : {A : Type 0} (nought : A) (l : List A) {N : ℕ} → length l ≡ N → column nought (length l) (take 0 l) ≡ replicate N nought
cleared_column nought l {N} long = let all : length l - 0 ≡ N = omega arith in ap (λ (k : ℕ). replicate k nought) all

pub wiped_cleared : {N L : ℕ} {C : Columns} → Long N L C → wiped 0 0 C ≡ cleared N L
unfolding wiped cleared
wiped_cleared {C = C} long i = record {
  level = cleared_column 0 C.level long.of_level i;
  low = cleared_column 0 C.low long.of_low i;
  high = cleared_column 0 C.high long.of_high i;
  a = cleared_column (pos 0) C.a long.of_a i;
  b = cleared_column (pos 0) C.b long.of_b i;
  c = cleared_column (pos 0) C.c long.of_c i;
  d = cleared_column (pos 0) C.d long.of_d i;
}

-- ---- slots that are there

abbrev pub Slots : ℕ → ℕ → Columns → Type 0
Slots nodes values C = NodeColumns C nodes × ValueColumns C values

long_slots : {N L : ℕ} {C : Columns} (nodes values : ℕ) → Long N L C → nodes ≤ N → values ≤ L → Slots nodes values C
long_slots nodes values long in_nodes in_values = (
  record {
    in_level = omega (arith, long.of_level, in_nodes);
    in_low = omega (arith, long.of_low, in_nodes);
    in_high = omega (arith, long.of_high, in_nodes);
  },
  record {
    in_a = omega (arith, long.of_a, in_values);
    in_b = omega (arith, long.of_b, in_values);
    in_c = omega (arith, long.of_c, in_values);
    in_d = omega (arith, long.of_d, in_values);
  },
)

pub no_slots : {N L : ℕ} {C : Columns} → Long N L C → Slots 0 0 C
no_slots long = long_slots 0 0 long (omega arith) (omega arith)

-- ---- a finished run: the first store, wiped past the diagram that it holds

module _ {N L n : ℕ} {M : Matrix} {used : Used} {C : Columns} (source : Source n M N L used C) where
  used_nodes : used.nodes ≤ N
  used_nodes = omega (arith, source.nodes, source.holds.of_level.room)

  used_values : used.values ≤ L
  used_values = omega (arith, source.values, source.holds.of_a.room)

  source_held : wiped used.nodes used.values C ≡ held N L (diagram n M).store
  source_held = (λ i. wiped (source.nodes i) (source.values i) C) ∙ wiped_held source.holds

  module _ (C' : Columns) (wiped_is : C' ≡ wiped used.nodes used.values C) where
    store_is : store_in used.nodes used.values C' ≡ (diagram n M).store
    store_is =
        (λ i. store_in (source.nodes i) (source.values i) ((wiped_is ∙ source_held) i)) ∙ store_held N L (diagram n M).store

    some_node : 1 ≤ used.nodes
    some_node = omega (arith, source.nodes, source.root.2)

    root_is : (diagram n M).root ≡ node (used.nodes - 1)
    root_is =
        let last : source.root.0 ≡ used.nodes - 1 = omega (arith, source.nodes, source.root.2) in
        source.root.1 ∙ ap node last

-- ---- how a run ended

module _ {lent : Lent} {n : ℕ} {C : Columns} where
  -- the slots kept are there
  pub ran_slots : {e : Ended} {r : Result Finish Refusal} → Ran lent n C e r → (used : Used) → used ≡ kept r → Long lent.nodes lent.values C
      → Slots used.nodes used.values C
  ran_slots (ran {used = it} source) used is long =
      rw is (long_slots it.nodes it.values long (used_nodes source) (used_values source))
  ran_slots refused used is long = rw is (no_slots long)

  -- and hold a diagram that is searched
  pub ran_readable : {e : Ended} {r : Result Finish Refusal} → Ran lent n C e r → (used : Used) → used ≡ kept r → 1 ≤ n → n ≤ 16
      → lent.nodes ≤ 65536 → lent.values ≤ 65536
      → (C' : Columns) → Long lent.nodes lent.values C' → C' ≡ wiped used.nodes used.values C → Readable n C' r
  ran_readable (ran {M = M} {used = it} source) used is some few few_nodes few_values C' long wiped_is =
      let wiped_it = rw is at wiped_is in
      let slots = long_slots it.nodes it.values long (used_nodes source) (used_values source) in
      let in_nodes = used_nodes source in
      let in_values = used_values source in
      diagram_searchable n M.entries it.nodes it.values C' (store_is source C' wiped_it) some few (some_node source C' wiped_it)
      (omega (arith, in_nodes, few_nodes)) (omega (arith, in_values, few_values)) slots.0 slots.1
  ran_readable refused used is some few few_nodes few_values C' long wiped_is = tt

  -- the report and the stores are the outcome
  pub ran_outcome : {e : Ended} {r : Result Finish Refusal} → Ran lent n C e r → (used : Used) → used ≡ kept r → Long lent.nodes lent.values C
      → (C' : Columns) → C' ≡ wiped used.nodes used.values C
      → {D : Columns} → Long lent.nodes lent.values D → {D' : Columns} → D' ≡ wiped 0 0 D
      → {report : Report} → report ≡ report_of n C' r → leaving report C' D' ≡ outcome lent n e
  unfolding finished
  ran_outcome (ran {k = k} {M = M} {used = it} source) used is long C' wiped_is other_long other_is reported =
      let wiped_it = rw is at wiped_is in
      λ i. leaving
      ((reported ∙ (λ j. record {
        verdict = diagram_verdict n M.entries it.nodes it.values C' (store_is source C' wiped_it) (root_is source C' wiped_it) j;
        exponent = M.power;
        steps = k;
        nodes = source.nodes j;
        values = source.values j;
      })) i)
      ((wiped_it ∙ source_held source) i)
      ((other_is ∙ wiped_cleared other_long) i)
  ran_outcome refused used is long C' wiped_is other_long other_is reported =
      λ i. leaving (reported i) ((rw is at wiped_is ∙ wiped_cleared long) i) ((other_is ∙ wiped_cleared other_long) i)

-- ---- from the run to the answer

-- a run of a pair that passed the checks: what it left in the stores, and how it ended
pub record Run_over (course : Course) (sizes : Sizes) (first second : LentStore) (lent_scratch : LentScratch)
    (first' second' : LentStore) (r : Result Finish Refusal) : Type 0 where
  pub left : Left course sizes (columns_of first) (columns_of second) lent_scratch (columns_of first') r
  pub passed : Passed course sizes.width (columns_of first) (columns_of second)
  pub scratch : Scratch (length first.level.now) (length first.a.now) sizes lent_scratch
  pub first_same : SameColumns first first'
  pub second_same : SameColumns second second'

module _ {course : Course} {sizes : Sizes} {first second : LentStore}
    {lent_scratch : LentScratch} {first' second' : LentStore} {r : Result Finish Refusal}
    (over : Run_over course sizes first second lent_scratch first' second' r) where
  abbrev n : ℕ
  n = course.n

  abbrev running : Running course sizes (columns_of first) (columns_of second) lent_scratch
  running = passed_running over.passed over.scratch

  abbrev task : Task course sizes (columns_of first) (columns_of second) lent_scratch
  task = running.task

  abbrev its_lent : Lent
  its_lent = lent_with sizes task.N task.L

  its_end : Ran its_lent n (columns_of first') (ended its_lent n (steps course.schedule.now task.us task.vs)) r
  its_end = over.left task

  first_still : Long task.N task.L (columns_of first')
  first_still = long_same {s = first} {s' = first'} task.first_long over.first_same

  second_still : Long task.N task.L (columns_of second')
  second_still = long_same {s = second} {s' = second'} task.second_long over.second_same

  pub second_slots : Slots 0 0 (columns_of second')
  second_slots = no_slots second_still

  module _ (used : Used) (used_is : used ≡ kept r) where
    pub first_slots : Slots used.nodes used.values (columns_of first')
    first_slots = ran_slots its_end used used_is first_still

    pub few_kept : (used.nodes ≤ 65536) × (used.values ≤ 65536)
    few_kept =
        let (nodes, values) = first_slots in (
          omega (arith, nodes.in_level, first_still.of_level, task.scratch.few_nodes),
          omega (arith, values.in_a, first_still.of_a, task.scratch.few_values),
        )

    module _ (C' : Columns) (wiped_is : C' ≡ wiped used.nodes used.values (columns_of first')) where
      pub over_readable : {last : LentStore} → columns_of last ≡ C' → SameColumns first' last → Readable n C' r
      over_readable {last} is same = ran_readable its_end used used_is task.within_u.some_qubit task.within_u.few_qubits
          task.scratch.few_nodes task.scratch.few_values C'
          (subst (Long task.N task.L) is (long_same {s = first'} {s' = last} first_still same)) wiped_is

      pub over_answer : (D' : Columns) → D' ≡ wiped 0 0 (columns_of second') → {report : Report} → report ≡ report_of n C' r
          → leaving report C' D' ≡ answer_along course sizes.width (columns_of first) (columns_of second)
      over_answer D' other_is reported =
          ran_outcome its_end used used_is first_still C' wiped_is second_still other_is reported ∙ sym running.answer_is
