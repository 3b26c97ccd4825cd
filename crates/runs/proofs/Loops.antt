-- The loop's invariant, for every run that the lists and the stores may stand for; and the whole run, with the identity before it.
-- Assumes nothing.
use mathlib.Core.Path.{◌≡◌, refl, sym, ◌∙◌, ap, subst}
use mathlib.Core.List.{List}
use Prim.Native.Nat.{ℕ, suc, ◌+◌, ◌-◌, ◌*◌, ◌<◌, ◌≤◌}
use native.Mathlib.Omega.{arith}
use lib.ListN.{length, get_or}
use Rattle.gates.specs.Rule.{does_mix}
use Rattle.diagrams.specs.Diagram.{diagram}
use Rattle.stores.specs.Columns.{Columns, columns_of, Holds, SameColumns}
use Rattle.stores.specs.declared.Store.{Store as LentStore}
use Rattle.stores.proofs.Columns.{same_none, same_then}
use Rattle.std.specs.Prelude.{Result, Ok, Err}
use Rattle.miters.specs.declared.StepFault.{StepFault}
use Rattle.miters.specs.declared.StepFault.TheVariants.{NoRoom}
use Rattle.miters.specs.declared.Refusal.{Refusal}
use Rattle.miters.specs.declared.Refusal.TheVariants.{Step as at_step}
use Rattle.miters.specs.Miter.{start, Step, steps}
use Rattle.miters.specs.Run.{Lent, Ended, follow, ended}
use Rattle.plans.specs.Prepare.{as_number}
use Rattle.plans.specs.declared.Sizes.{Sizes}
use Rattle.steps.specs.Stepping.{lent_with}
use Rattle.steps.specs.Stepping as stepping
use Rattle.plans.specs.declared.Action.{Action}
use Rattle.plans.specs.declared.Step.{Step as Given}
use Rattle.steps.specs.declared.Taken.{Taken}
use Rattle.plans.specs.declared.Scratch.{Scratch as LentScratch}
use Rattle.plans.specs.Layout.{SameScratch}
use Rattle.choices.specs.declared.Lists.{Lists as Readers}
use Rattle.runs.specs.declared.Finish.{Finish}
use Rattle.runs.specs.Running.{Task, Ran}
use Rattle.choices.specs.declared.Course.{Course}
use Rattle.choices.specs.Choosing.{Chosen}
use Rattle.runs.specs.Inside.{current, Room, Begun, Started, Followed}
use Rattle.runs.proofs.Stores.{long_same, scratch_none, scratch_then, scratch_same}
use Rattle.runs.proofs.Stores.{current_next, current_long, start_source, no_nodes, no_values, room_followed}
use Rattle.runs.proofs.Reached.{fits_fitting, fitting_length, reached_start}
use Rattle.runs.proofs.Turns.{Running, ran_stopped, turn_task, turn_runs, turn_stops, run_ends}

-- ---- the loop

module _ (course : Course) (sizes : Sizes) (first₀ second₀ : LentStore) (T₀ : LentScratch) where
  abbrev n : ℕ
  n = course.n

  abbrev schedule : List ℕ
  schedule = course.schedule.now

  abbrev pub Starts : Type 0
  Starts = Started course sizes (columns_of first₀) (columns_of second₀) T₀

  abbrev pub lent_of : Starts → Lent
  lent_of s = lent_with sizes s.task.N s.task.L

  abbrev pub whole_of : Starts → Ended
  whole_of s = follow (lent_of s) n 0 (steps schedule s.task.us s.task.vs) start

  pub few_steps : Starts → length schedule ≤ 8192
  few_steps s =
      let long = fitting_length schedule s.task.us s.task.vs (fits_fitting s.task.us s.task.vs schedule s.task.fitting) in
      omega (arith, long, s.task.within_u.few_gates, s.task.within_v.few_gates)

  -- the invariant: the stores and the scratch are the same, and for every run that it may be, i steps of it are taken
  pub record Turning (readers : Readers) (taken : Taken) (i : ℕ) (first second : LentStore) (T : LentScratch) : Type 0 where
    pub same_first : SameColumns first₀ first
    pub same_second : SameColumns second₀ second
    pub same_scratch : SameScratch T₀ T
    pub runs : (s : Starts)
        → Running (lent_of s) n schedule (whole_of s) readers taken i (current (length schedule - i) (columns_of first) (columns_of second))

  -- at the first gates, in the identity
  abbrev at_start : Taken
  at_start = record { used = record { nodes = 3 * n; values = 2 }; exponent = 0 }

  started : (s : Starts)
      → Running (lent_of s) n schedule (whole_of s) course.lists at_start 0 (current (length schedule - 0) (columns_of first₀) (columns_of second₀))
  unfolding start
  started s =
      let task = s.task in
      let same : length schedule ≡ length schedule - 0 = omega arith in
      record {
        us = task.us;
        vs = task.vs;
        M = start;
        within = omega arith;
        lists = record {
          gates_u = task.gates_u;
          gates_v = task.gates_v;
          fit_u = task.within_u.all_fit;
          fit_v = task.within_v.all_fit;
        };
        fitting = fits_fitting task.us task.vs schedule task.fitting;
        reached = reached_start n;
        ends = refl;
        power = refl;
        few = omega arith;
        holds = record {
          holds = subst (λ (k : ℕ). Holds task.N task.L (diagram n start.entries).store (current k (columns_of first₀) (columns_of second₀)))
              same s.identity.holds;
          nodes = s.identity.nodes;
          values = s.identity.values;
          root = s.identity.root;
        };
      }

  pub turning_starts : Turning course.lists at_start 0 first₀ second₀ T₀
  turning_starts = record { same_first = same_none first₀; same_second = same_none second₀; same_scratch = scratch_none T₀; runs = started }

  module _ {readers : Readers} {taken : Taken} {i : ℕ} {first second : LentStore} {T : LentScratch}
      (t : Turning readers taken i first second T) where
    pub turning_ends : length schedule ≤ i → (s : Starts)
        → Ran (lent_of s) n (columns_of first) (whole_of s) (Ok (record { steps = length schedule; exponent = taken.exponent; used = taken.used }))
    turning_ends end s = run_ends (columns_of first) (columns_of second) (t.runs s) end

    module _ (more : i < length schedule) {readers' : Readers} {action : Action}
        (chosen : Chosen readers readers' (get_or schedule i 0) n action) where
      -- where the diagram is, and where the step's product goes
      abbrev from : Columns
      from = current (length schedule - i) (columns_of first) (columns_of second)

      abbrev into : Columns
      into = current (length schedule - i) (columns_of second) (columns_of first)

      -- the step
      abbrev step : Given
      step = record { action = action; n = n; sizes = sizes; used = taken.used }

      abbrev pub step_task : (s : Starts) → stepping.Task step from into T
      step_task s = turn_task (t.runs s) more s.task.within_u.few_qubits chosen s.task.width
          (current_long (length schedule - i) (long_same {s = second₀} {s' = second} s.task.second_long t.same_second)
          (long_same {s = first₀} {s' = first} s.task.first_long t.same_first))
          (scratch_same s.task.scratch t.same_scratch)

      -- its product is over the exponent with one more where the gate mixes
      module _ {h : ℕ} (h_is : h ≡ as_number (does_mix action.rule.act)) {answer : Result Taken StepFault} (first' second' : LentStore)
          (left : stepping.Left step from into T (taken.exponent + h)
          (current (length schedule - i) (columns_of second') (columns_of first')) answer) where
        pub turning_stops : {fault : StepFault} → answer ≡ Err fault
            → (s : Starts) → Ran (lent_of s) n (columns_of first') (whole_of s) (Err (at_step fault i))
        turning_stops stops s =
            turn_stops (t.runs s) more s.task.within_u.few_qubits chosen h_is (left (step_task s)) (columns_of first') stops

        next_current : current (length schedule - i) (columns_of second') (columns_of first')
            ≡ current (length schedule - (i + 1)) (columns_of first') (columns_of second')
        next_current =
            let one_less : suc (length schedule - (i + 1)) ≡ length schedule - i = omega arith in
            sym (current_next (length schedule - (i + 1)) (columns_of first') (columns_of second')
            ∙ ap (λ (k : ℕ). current k (columns_of second') (columns_of first')) one_less)

        pub turning_on : {taken' : Taken} {T' : LentScratch} → answer ≡ Ok taken'
            → SameColumns first first' → SameColumns second second' → SameScratch T T' → Turning readers' taken' (i + 1) first' second' T'
        turning_on {taken'} going same_first same_second same_scratch = record {
          same_first = same_then t.same_first same_first;
          same_second = same_then t.same_second same_second;
          same_scratch = scratch_then t.same_scratch same_scratch;
          runs = λ s. subst (λ (C : Columns). Running (lent_of s) n schedule (whole_of s) readers' taken' (i + 1) C) next_current
              (turn_runs (t.runs s) more s.task.within_u.few_qubits chosen h_is (left (step_task s)) s.task.within_u.some_qubit going);
        }

-- ---- the whole run

module _ {course : Course} {sizes : Sizes} (first second : LentStore) (T : LentScratch)
    (task : Task course sizes (columns_of first) (columns_of second) T) where
  abbrev lent : Lent
  lent = lent_with sizes task.N task.L

  abbrev along : List Step
  along = steps course.schedule.now task.us task.vs

  -- no room for the identity
  pub run_few_nodes : {last : Columns} → length first.level.now < 3 * course.n
      → Ran lent course.n last (ended lent course.n along) (Err (at_step NoRoom 0))
  run_few_nodes less = ran_stopped (no_nodes course.n task.within_u.some_qubit lent along (omega (arith, less, task.first_long.of_level))) refl

  pub run_few_values : {last : Columns} → length first.a.now < 2 → Ran lent course.n last (ended lent course.n along) (Err (at_step NoRoom 0))
  run_few_values less = ran_stopped (no_values course.n task.within_u.some_qubit lent along (omega (arith, less, task.first_long.of_a))) refl

  -- room for it
  module _ (nodes : 3 * course.n ≤ length first.level.now) (values : 2 ≤ length first.a.now) where
    abbrev pub run_room : Room course.n (columns_of first) (columns_of second)
    run_room = record {
      N = task.N;
      L = task.L;
      few_qubits = task.within_u.few_qubits;
      nodes = omega (arith, nodes, task.first_long.of_level);
      values = omega (arith, values, task.first_long.of_a);
      first_long = task.first_long;
      second_long = task.second_long;
    }

    module _ {first' second' : LentStore} (same_first : SameColumns first first') (same_second : SameColumns second second')
        (begun : Begun (length course.schedule.now) course.n (columns_of first) (columns_of second) (columns_of first') (columns_of second')) where
      abbrev pub run_starts : Started course sizes (columns_of first') (columns_of second') T
      run_starts = record {
        task = record {
          us = task.us;
          vs = task.vs;
          N = task.N;
          L = task.L;
          within_u = task.within_u;
          within_v = task.within_v;
          gates_u = task.gates_u;
          gates_v = task.gates_v;
          fitting = task.fitting;
          width = task.width;
          first_long = long_same {s = first} {s' = first'} task.first_long same_first;
          second_long = long_same {s = second} {s' = second'} task.second_long same_second;
          scratch = task.scratch;
        };
        identity = start_source course.n task.within_u.some_qubit (current_long (length course.schedule.now) task.first_long task.second_long)
            run_room.nodes run_room.values begun;
      }

      pub run_followed : {last : Columns} {r : Result Finish Refusal}
          → Followed course sizes (columns_of first') (columns_of second') T last r
          → Ran lent course.n last (ended lent course.n along) r
      run_followed {last} {r} followed =
          subst (λ (e : Ended). Ran lent course.n last e r)
          (sym (room_followed course.n task.within_u.some_qubit lent along run_room.nodes run_room.values)) (followed run_starts)
