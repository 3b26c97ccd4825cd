-- What the programs report on two lists. Definitions only.
use Rattle.std.specs.Prelude.{List, ℕ, length}
use Rattle.circuits.specs.Refusals.{base_limits}
use Rattle.circuits.specs.Reading.{Reading, read, refused as unread, Circuit, decoded}
use Rattle.schedules.specs.Schedule.{proportional}
use Rattle.stores.specs.Columns.{Columns, cleared}
use Rattle.miters.specs.declared.Report.{Report}
use Rattle.judges.specs.Answer.{answer}

-- the gates of a list that was read; a list that is refused is given none, and its refusal is the answer whatever the schedule
abbrev pub gates_read : Reading Circuit → ℕ
gates_read (read c next) = length c.gates
gates_read (unread why) = 0

unfoldable pub gate_count : List ℕ → ℕ
gate_count list = gates_read (decoded base_limits list)

-- "N = 4,096, L = 1,024"
unfoldable pub store : Columns
store = cleared 4096 1024

-- "Width 32"
unfoldable pub along_report : (u v schedule : List ℕ) → Report
along_report u v schedule = (answer u v schedule 32 store store).report

-- "proportional schedule"
unfoldable pub lists_report : (u v : List ℕ) → Report
lists_report u v = along_report u v (proportional (gate_count u) (gate_count v))
