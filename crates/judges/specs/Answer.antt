-- What the call that judges two gate lists answers, for every input: the checks in the paper's order, then the run. Definitions
-- only; the three demands on it are in specs/Demands.antt.
use Rattle.std.specs.Prelude.{List, ℕ, length}
use Rattle.stores.specs.Columns.{Columns}
use Rattle.miters.specs.Report.{refused}
use Rattle.miters.specs.Run.{Lent, Outcome, judged}
use Rattle.checks.specs.Checks.{lengths, Checks, refuses, passes, checks}

-- w, N and L
abbrev pub lent : ℕ → Columns → Lent
lent w first = record { width = w; nodes = length first.level; values = length first.a }

-- "Refusals 1 to 12 change no store"; else the run's report and what it leaves in the stores
abbrev pub answer_by : List ℕ → ℕ → Columns → Columns → Checks → Outcome
answer_by schedule w first second (refuses why) = record { report = refused why; first = first; second = second }
answer_by schedule w first second (passes c d) = judged (lent w first) c.qubits schedule c.gates d.gates first second

-- the answer on lists u and v along a schedule, at the width w, in stores with these contents
unfoldable pub answer : (u v schedule : List ℕ) (w : ℕ) (first second : Columns) → Outcome
answer u v schedule w first second = answer_by schedule w first second (checks u v schedule w (lengths first) (lengths second))
