-- The three demands on the call that judges two gate lists, about `answer`, which is what the call's contract says it returns and
-- leaves in the stores: for all lists of bytes, schedules, widths, store sizes and earlier contents. Definitions only; that they
-- hold is in proofs/Demands.antt.
use Rattle.std.specs.Prelude.{◌≡◌, ◌↔◌, ◌⊎◌, List, ℕ, ◌+◌, ◌≤◌, length}
use Rattle.algebra.specs.declared.Entry.{Entry}
use Rattle.algebra.specs.Entry.{𝟘, ◌⊗◌, √2^}
use Rattle.circuits.specs.Refusals.{base_limits}
use Rattle.circuits.specs.Reading.{read, Circuit, decoded}
use Rattle.diagrams.specs.Diagram.{Diagram, ReducedOf, levels, entries}
use Rattle.stores.specs.Columns.{Columns, held, cleared}
use Rattle.miters.specs.declared.Refusal.{Refusal}
use Rattle.miters.specs.declared.Verdict.TheVariants.{Equal as equal_with, Refused}
use Rattle.miters.specs.Miter.{Over, steps, corner, miter, Turns, Equal}
use Rattle.miters.specs.Report.{refused}
use Rattle.miters.specs.Run.{Lent, stopped, Outcome}
use Rattle.miters.specs.Claims.{Says, SameMatrix, Ends, Agree}
use Rattle.checks.specs.Checks.{lengths, Checks, refuses, passes}
use Rattle.judges.specs.Answer.{lent, answer}
use Rattle.judges.specs.Calls.{leaving}
use Rattle.checks.specs.Table.{Checking}

-- ---- demand 1: each refusal exactly under its conditions, and what the stores then hold

module _ (u v schedule : List ℕ) (w : ℕ) (first second : Columns) where
  -- the answer on this input
  abbrev pub answered : Outcome
  answered = answer u v schedule w first second

  -- a store that is all 0
  abbrev pub all_zero : Columns
  all_zero = cleared (length first.level) (length first.a)

  -- the checks before the run come to this line of the table
  abbrev pub Line : Checks → Type 0
  Line = Checking u v schedule w (lengths first) (lengths second)

  -- 1 to 12
  abbrev pub BeforeRun : Refusal → Type 0
  BeforeRun why = Line (refuses why)

  -- 13 and 14: the checks pass, and the identity has no room, or those steps pass that are before the one that stops the run
  pub record InRun (why : Refusal) : Type 0 where
    pub c : Circuit
    pub d : Circuit
    pub pass : Line (passes c d)
    pub stops : Ends (lent w first) c.qubits (steps schedule c.gates d.gates) (stopped why)

  pub record Demand1 : Type 0 where
    pub exactly : (why : Refusal) → (answered.report.verdict ≡ Refused why) ↔ (BeforeRun why ⊎ InRun why)
    -- "Refusals 1 to 12 change no store; 13 and 14 leave both all 0."
    pub unchanged : (why : Refusal) → BeforeRun why → answered ≡ leaving (refused why) first second
    pub all_0 : (why : Refusal) → InRun why → answered ≡ leaving (refused why) all_zero all_zero

-- ---- demand 2: unless refused, equal exactly if one number turns V's matrix into U's, and that number is the factor; a no shows
-- the lowest place that forbids equality, its exact entry and the corner

-- the lists read, in an answer that is no refusal
pub record ReadAs (u v : List ℕ) (c d : Circuit) : Type 0 where
  pub first_end : ℕ
  pub first_read : decoded base_limits u ≡ read c first_end
  pub second_end : ℕ
  pub second_read : decoded base_limits v ≡ read d second_end
  pub one_count : c.qubits ≡ d.qubits

pub record Demand2 (u v : List ℕ) (o : Outcome) : Type 0 where
  pub c : Circuit
  pub d : Circuit
  pub lists : ReadAs u v c d
  pub equal_iff : ((z : Entry) × (o.report.verdict ≡ equal_with z)) ↔ Equal c.qubits c.gates d.gates
  pub says : Says c.qubits c.gates d.gates o.report.verdict
  pub exponent_is : o.report.exponent ≡ (miter c.qubits c.gates d.gates).power
  -- "The exponent in the report is thereby the least possible"
  pub least : (N : Over) → SameMatrix c.qubits (miter c.qubits c.gates d.gates) N → o.report.exponent ≤ N.power
  pub steps_are : o.report.steps ≡ length c.gates + length d.gates
  -- a number z over √2 to the power e that does it is the corner over √2 to the report's exponent
  pub one_factor : (z : Entry) (e : ℕ) → Turns c.qubits c.gates d.gates z e
      → z ⊗ √2^ o.report.exponent ≡ corner c.qubits (miter c.qubits c.gates d.gates).entries ⊗ √2^ e

-- ---- demand 3: two whole runs on the same lists, along any schedules, at any widths, in stores of any sizes and contents: if
-- neither is refused, one report and one used part, that of the one reduced diagram of the miter; and all else is 0

pub record Demand3 (u v : List ℕ) (lent lent' : Lent) (o p : Outcome) : Type 0 where
  pub c : Circuit
  pub d : Circuit
  pub lists : ReadAs u v c d
  pub D : Diagram Entry
  pub reduced : ReducedOf 𝟘 (levels c.qubits) (entries (miter c.qubits c.gates d.gates).entries) D
  pub only : (E : Diagram Entry) → ReducedOf 𝟘 (levels c.qubits) (entries (miter c.qubits c.gates d.gates).entries) E → E ≡ D
  pub agree : Agree lent lent' D o p
  pub first_is : o.first ≡ held lent.nodes lent.values D.store
  pub first_is' : p.first ≡ held lent'.nodes lent'.values D.store
