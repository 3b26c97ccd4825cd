-- A pair that passed the checks: what the run asks of it, and its answer.
-- Assumes nothing.
use mathlib.Core.Path.{◌≡◌, refl, sym, ◌∙◌, ap, subst}
use mathlib.Core.List.{List}
use Prim.Native.Nat.{ℕ}
use lib.ListN.{length}
use Rattle.std.specs.Prelude.{Ok, Err}
use Rattle.std.specs.Borrow.{Bor}
use Rattle.circuits.specs.Refusals.{base_limits}
use Rattle.circuits.specs.Reading.{Circuit}
use Rattle.circuits.specs.Within.{Within}
use Rattle.circuits.specs.Remaining.{Remaining}
use Rattle.circuits.proofs.Remaining.{decoded_accepted}
use Rattle.circuits.proofs.Within.{decoded_within}
use Rattle.stores.specs.Columns.{Columns}
use Rattle.miters.specs.declared.Refusal.{Refusal}
use Rattle.miters.specs.declared.Report.{Report}
use Rattle.miters.specs.Miter.{steps}
use Rattle.miters.specs.Report.{refused}
use Rattle.miters.specs.Run.{ended, outcome, judged}
use Rattle.plans.specs.declared.Sizes.{Sizes}
use Rattle.plans.specs.declared.Scratch.{Scratch as LentScratch}
use Rattle.steps.specs.Stepping.{Scratch, lent_with}
use Rattle.choices.specs.declared.Course.{Course}
use Rattle.runs.specs.Running.{Task}
use Rattle.checks.specs.declared.Lengths.{Lengths}
use Rattle.checks.specs.Checks.{lengths, Checks, refuses, passes, checks, course_of, checked}
use Rattle.judges.specs.Answer.{lent, answer_by, answer}
use Rattle.judges.specs.Calls.{Passed, answer_along, AtMost, leaving}
use Rattle.checks.specs.Table.{Checking, all_hold}
use Rattle.checks.proofs.Checks.{checks_checking}
use Rattle.checks.proofs.Rules.{both_hold, first_long, second_long}

-- what the run is given, and that the answer is its outcome
pub record Running (course : Course) (sizes : Sizes) (first second : Columns) (lent_scratch : LentScratch) : Type 0 where
  pub task : Task course sizes first second lent_scratch
  pub answer_is : let lent = lent_with sizes task.N task.L in
      answer_along course sizes.width first second
      ≡ outcome lent course.n (ended lent course.n (steps course.schedule.now task.us task.vs))

module _ (U V S : Bor (List ℕ)) (sizes : Sizes) (first second : Columns) (lent_scratch : LentScratch)
    (scratch : Scratch (length first.level) (length first.a) sizes lent_scratch) where
  abbrev u : List ℕ
  u = U.now

  abbrev v : List ℕ
  v = V.now

  abbrev schedule : List ℕ
  schedule = S.now

  answer_judged : {c d : Circuit} → checks u v schedule sizes.width (lengths first) (lengths second) ≡ passes c d
      → answer u v schedule sizes.width first second
      ≡ outcome (lent sizes.width first) c.qubits (ended (lent sizes.width first) c.qubits (steps schedule c.gates d.gates))
  unfolding answer judged
  answer_judged come = rw come

  read_running : {c d : Circuit} → checks u v schedule sizes.width (lengths first) (lengths second) ≡ passes c d
      → Checking u v schedule sizes.width (lengths first) (lengths second) (passes c d)
      → Running (course_of U V S c d) sizes first second lent_scratch
  read_running {c} {d} come (all_hold both one_count fitting) = record {
    task = record {
      us = c.gates;
      vs = d.gates;
      N = length first.level;
      L = length first.a;
      within_u = decoded_within base_limits u both.first_read;
      within_v = subst (λ (k : ℕ). Within base_limits k d.gates) (sym one_count) (decoded_within base_limits v both.second_read);
      gates_u = (decoded_accepted base_limits u both.first_read).all_gates;
      gates_v = subst (λ (k : ℕ). Remaining k v d.first d.gates) (sym one_count) (decoded_accepted base_limits v both.second_read).all_gates;
      fitting = fitting;
      width = both.lent_well.width;
      first_long = first_long first second both.lent_well.rules;
      second_long = second_long first second both.lent_well.rules;
      scratch = scratch;
    };
    answer_is = answer_judged come;
  }

  checked_running : {course : Course} (x : Checks) → checks u v schedule sizes.width (lengths first) (lengths second) ≡ x
      → checked U V S x ≡ Ok course → Running course sizes first second lent_scratch
  checked_running (refuses why) come e = cc
  checked_running {course} (passes c d) come e =
      let table = subst (Checking u v schedule sizes.width (lengths first) (lengths second)) come
      (checks_checking u v schedule sizes.width (lengths first) (lengths second)) in
      let same : course_of U V S c d ≡ course = cc in
      subst (λ (x : Course). Running x sizes first second lent_scratch) same (read_running come table)

pub passed_running : {course : Course} {sizes : Sizes} {first second : Columns} {lent_scratch : LentScratch}
    → Passed course sizes.width first second → Scratch (length first.level) (length first.a) sizes lent_scratch
    → Running course sizes first second lent_scratch
passed_running e scratch = checked_running _ _ _ _ _ _ _ scratch _ refl e

pub passed_task : {course : Course} {sizes : Sizes} {first second : Columns} {lent_scratch : LentScratch}
    → Passed course sizes.width first second → Scratch (length first.level) (length first.a) sizes lent_scratch
    → Task course sizes first second lent_scratch
passed_task e scratch = (passed_running e scratch).task

-- ---- before the run

-- a course that the checks answer passed them
module _ (U V S : Bor (List ℕ)) (w : ℕ) (first second : Columns) (course : Course) where
  abbrev pub passing : Bor (List ℕ) → Bor (List ℕ) → Bor (List ℕ) → Type 0
  passing u v s = checked u v s (checks u.now v.now s.now w (lengths first) (lengths second)) ≡ Ok course

  passed_by : (x : Checks) → checked U V S x ≡ Ok course → passing U V S → Passed course w first second
  passed_by (refuses why) f e = cc
  passed_by (passes c d) f e =
      let same : course_of U V S c d ≡ course = cc in
      subst (λ (x : Course). passing x.lists.first.bytes x.lists.second.bytes x.schedule) same e

  pub passed : passing U V S → Passed course w first second
  passed e = passed_by (checks U.now V.now S.now w (lengths first) (lengths second)) e e

-- the stores of a pair that passed are no longer than the rules allow
module _ (u v schedule : List ℕ) (w : ℕ) (first : Columns) (second : Lengths) where
  pass_at_most : {c d : Circuit} → Checking u v schedule w (lengths first) second (passes c d) → AtMost 65536 first
  pass_at_most (all_hold both one_count fitting) =
      let ruled = (both_hold (lengths first) second both.lent_well.rules).of_first in
      record { nodes = ruled.few_nodes; values = ruled.few_values }

  at_most_by : (U V S : Bor (List ℕ)) {course : Course} (x : Checks) → Checking u v schedule w (lengths first) second x
      → checked U V S x ≡ Ok course → AtMost 65536 first
  at_most_by U V S (refuses why) line e = cc
  at_most_by U V S (passes c d) line e = pass_at_most line

pub passed_at_most : (course : Course) (w : ℕ) (first second : Columns) → Passed course w first second → AtMost 65536 first
passed_at_most course w first second e =
    let u = course.lists.first.bytes in
    let v = course.lists.second.bytes in
    let schedule = course.schedule in
    at_most_by u.now v.now schedule.now w first (lengths second) u v schedule (checks u.now v.now schedule.now w (lengths first) (lengths second))
    (checks_checking u.now v.now schedule.now w (lengths first) (lengths second)) e

-- a refusal before the run leaves the stores alone
module _ (U V S : Bor (List ℕ)) (w : ℕ) (first second : Columns) where
  refused_by : {why : Refusal} (x : Checks) → checked U V S x ≡ Err why → answer_by S.now w first second x ≡ leaving (refused why) first second
  refused_by {why} (refuses other) e = let same : other ≡ why = cc in ap (λ (r : Refusal). leaving (refused r) first second) same
  refused_by (passes c d) e = cc

  pub refused_answer : {why : Refusal} {report : Report}
      → checked U V S (checks U.now V.now S.now w (lengths first) (lengths second)) ≡ Err why
      → report ≡ refused why → leaving report first second ≡ answer U.now V.now S.now w first second
  unfolding answer
  refused_answer e reported =
      ap (λ (r : Report). leaving r first second) reported ∙ sym (refused_by (checks U.now V.now S.now w (lengths first) (lengths second)) e)
