-- What the calls of the C interface return and leave. Definitions only.
use Rattle.std.specs.Prelude.{cond, ◌&&◌, List, ℕ, ◌+◌, leb, ℤ, length, Result, Ok, Err}
use Rattle.schedules.specs.declared.ScheduleFault.{ScheduleFault}
use Rattle.schedules.specs.declared.ScheduleFault.TheVariants.{GateCount, ShortBuffer}
use Rattle.stores.specs.Columns.{Columns, over}
use Rattle.miters.specs.Run.{Outcome}
use Rattle.inverses.specs.Inverse.{Filled}
use Rattle.fields.specs.Numbers.{numbers_of, entries_of, written_numbers}

-- ---- the judging call

-- a status, and what stands then in the stores and in the two slices
pub record Returned : Type 0 where
  pub status : ℕ
  pub first : Columns
  pub second : Columns
  pub numbers : List ℕ
  pub entries : List ℤ

abbrev pub returning : ℕ → Columns → Columns → List ℕ → List ℤ → Returned
returning status first second numbers entries = record { status = status; first = first; second = second; numbers = numbers; entries = entries }

-- 0, with the answer in the stores and its report in the first slots of the slices, whose other slots stay as they were
abbrev pub reported : Outcome → List ℕ → List ℤ → Returned
reported o numbers entries =
    returning 0 o.first o.second (over (numbers_of o.report) numbers) (over (entries_of o.report.verdict) entries)

-- the answer is asked for only if the slices have room for the report; else 1, and all is as it was
unfoldable pub judging : (Columns → Columns → Outcome) → Columns → Columns → List ℕ → List ℤ → Returned
judging answer first second numbers entries =
    cond (leb 11 (length numbers) && leb 8 (length entries)) (reported (answer first second) numbers entries)
    (returning 1 first second numbers entries)

-- ---- the schedule maker

-- the number of a refusal: 6 for m or p over 4,096, 15 for a buffer below m + p bytes
abbrev pub schedule_number : ScheduleFault → ℕ
schedule_number GateCount = 6
schedule_number ShortBuffer = 15

-- "returns m + p", or 65,536 and the number of the refusal
abbrev pub steps_or_refusal : Result ℕ ScheduleFault → ℕ
steps_or_refusal (Ok n) = n
steps_or_refusal (Err fault) = 65536 + schedule_number fault

-- ---- a writer

-- a status, and what stands then in the buffer and in the slice of numbers
pub record Answered : Type 0 where
  pub status : ℕ
  pub buffer : List ℕ
  pub numbers : List ℕ

abbrev pub answering : ℕ → List ℕ → List ℕ → Answered
answering status buffer numbers = record { status = status; buffer = buffer; numbers = numbers }

-- 0, with what was answered in the first slots of the numbers, whose other slots stay as they were; 1 where they are too few, and
-- all is as it was
unfoldable pub writing : (List ℕ → Filled) → List ℕ → List ℕ → Answered
writing filled buffer numbers =
    cond (leb 5 (length numbers)) (answering 0 (filled buffer).buffer (over (written_numbers (filled buffer).answer) numbers))
    (answering 1 buffer numbers)
