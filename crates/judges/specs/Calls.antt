-- What the functions below the call ask and answer. Definitions only.
use Rattle.std.specs.Prelude.{◌≡◌, ℕ, ◌+◌, ◌*◌, ◌<◌, ◌≤◌, length, Ok}
use Rattle.stores.specs.Columns.{Columns}
use Rattle.miters.specs.declared.Report.{Report}
use Rattle.miters.specs.Run.{Outcome}
use Rattle.choices.specs.declared.Course.{Course}
use Rattle.checks.specs.Checks.{checks, lengths, checked}
use Rattle.judges.specs.Answer.{answer}

-- the checks passed with this course: a fact of the call's whole input, which no one type owns
abbrev pub Passed : (course : Course) (w : ℕ) (first second : Columns) → Type 0
Passed course w first second =
    let u = course.lists.first.bytes in
    let v = course.lists.second.bytes in
    let schedule = course.schedule in
    checked u v schedule (checks u.now v.now schedule.now w (lengths first) (lengths second)) ≡ Ok course

-- the answer on the lists of a course, along its schedule
abbrev pub answer_along : Course → ℕ → Columns → Columns → Outcome
answer_along course = answer course.lists.first.bytes.now course.lists.second.bytes.now course.schedule.now

-- no more slots in a store's columns than this
pub record AtMost (most : ℕ) (C : Columns) : Type 0 where
  pub nodes : length C.level ≤ most
  pub values : length C.a ≤ most

-- scratch for stores of up to so many nodes and values: what an index and the computed table have beside a slot and six for each of
-- them are its heads and its entries
pub record Roomy (store index table : ℕ) : Type 0 where
  pub few : store ≤ 65536
  pub some_head : store < index
  pub few_heads : index ≤ 131072
  pub some_entry : 6 * store + 4 ≤ table
  pub few_entries : table ≤ 6 * store + 262144

-- a report and two stores
abbrev pub leaving : Report → Columns → Columns → Outcome
leaving report first second = record { report = report; first = first; second = second }
