-- The checks before a run, in the paper's order: the width, the columns, the lists, their counts, the schedule. Definitions only.
use Rattle.std.specs.Prelude.{Bool, cond, ◌&&◌, List, ℕ, eqb, leb, length, Result, Ok, Err}
use Rattle.std.specs.Borrow.{Bor}
use Rattle.algebra.specs.Width.{fit_width}
use Rattle.circuits.specs.Refusals.{base_limits}
use Rattle.circuits.specs.Reading.{Reading, read, refused as unread, Circuit, decoded}
use Rattle.circuits.specs.Answers.{reader_at}
use Rattle.schedules.specs.Schedule.{fits}
use Rattle.stores.specs.Columns.{Columns}
use Rattle.miters.specs.declared.CallFault.TheVariants.{Width, Columns as WrongColumns, QubitCounts, Schedule}
use Rattle.miters.specs.declared.Part.TheVariants.{First, Second}
use Rattle.miters.specs.declared.Refusal.{Refusal}
use Rattle.miters.specs.declared.Refusal.TheVariants.{Call}
use Rattle.miters.specs.Report.{at_byte}
use Rattle.choices.specs.declared.Course.{Course}
use Rattle.checks.specs.declared.Lengths.{Lengths}

-- ---- 2: "column lengths break the store rules"

abbrev pub lengths : Columns → Lengths
lengths C = record {
  level = length C.level;
  low = length C.low;
  high = length C.high;
  a = length C.a;
  b = length C.b;
  c = length C.c;
  d = length C.d;
}

-- "Each has three node columns .. of one length N, 0 to 65,536, and four value columns .. of one length L, 1 to 65,536."
unfoldable pub store_rules : Lengths → Bool
store_rules l =
    leb l.level 65536 && (eqb l.low l.level && (eqb l.high l.level
    && (leb 1 l.a && (leb l.a 65536 && (eqb l.b l.a && (eqb l.c l.a && eqb l.d l.a))))))

-- "N and L agree between the stores."
unfoldable pub both_rules : Lengths → Lengths → Bool
both_rules first second = store_rules first && (store_rules second && (eqb first.level second.level && eqb first.a second.a))

-- ---- 1 to 12

-- what the checks before the run come to: a refusal, or the two lists read
pub data Checks : Type 0 where
  refuses : Refusal → Checks
  passes : Circuit → Circuit → Checks

-- 11: "qubit counts differ"; 12: "schedule doesn't fit"
abbrev pub check_pair : List ℕ → Circuit → Circuit → Checks
check_pair schedule c d =
    cond (eqb c.qubits d.qubits)
    (cond (fits (length c.gates) (length d.gates) schedule) (passes c d) (refuses (Call Schedule))) (refuses (Call QubitCounts))

-- "List 1 is read to its end before list 2."
abbrev pub check_second : List ℕ → Circuit → Reading Circuit → Checks
check_second schedule c (read d next) = check_pair schedule c d
check_second schedule c (unread why) = refuses (at_byte Second why)

abbrev pub check_first : List ℕ → List ℕ → Reading Circuit → Checks
check_first v schedule (read c next) = check_second schedule c (decoded base_limits v)
check_first v schedule (unread why) = refuses (at_byte First why)

unfoldable pub check_lists : List ℕ → List ℕ → List ℕ → Checks
check_lists u v schedule = check_first v schedule (decoded base_limits u)

-- "Places come top to bottom": 1 holds if "w not 2 to 32", 2 if "column lengths break the store rules", then the lists
unfoldable pub checks : List ℕ → List ℕ → List ℕ → ℕ → Lengths → Lengths → Checks
checks u v schedule w first second =
    cond (fit_width w) (cond (both_rules first second) (check_lists u v schedule) (refuses (Call WrongColumns))) (refuses (Call Width))

-- ---- what the code answers

-- two lists that were read, from their first gates on, with the schedule and the qubit count
abbrev pub course_of : Bor (List ℕ) → Bor (List ℕ) → Bor (List ℕ) → Circuit → Circuit → Course
course_of u v schedule c d =
    record { lists = record { first = reader_at u c.first; second = reader_at v d.first }; schedule = schedule; n = c.qubits }

-- the refusal, or what a run follows
abbrev pub checked : Bor (List ℕ) → Bor (List ℕ) → Bor (List ℕ) → Checks → Result Course Refusal
checked u v schedule (refuses why) = Err why
checked u v schedule (passes c d) = Ok (course_of u v schedule c d)
