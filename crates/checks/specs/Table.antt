-- The table of refusals 1 to 12, line by line: what the checks come to, and under which conditions. Definitions only; that the
-- checks come to it exactly is in proofs/Checks.antt.
use Rattle.std.specs.Prelude.{◌≡◌, true, false, List, ℕ, length}
use Rattle.algebra.specs.Width.{fit_width}
use Rattle.circuits.specs.declared.Refusal.{Refusal as ListRefusal}
use Rattle.circuits.specs.Refusals.{base_limits}
use Rattle.circuits.specs.Reading.{read, refused as unread, Circuit, decoded}
use Rattle.schedules.specs.Schedule.{fits}
use Rattle.miters.specs.declared.CallFault.TheVariants.{Width, Columns as WrongColumns, QubitCounts, Schedule}
use Rattle.miters.specs.declared.Part.TheVariants.{First, Second}
use Rattle.miters.specs.declared.Refusal.TheVariants.{Call}
use Rattle.miters.specs.Report.{at_byte}
use Rattle.checks.specs.declared.Lengths.{Lengths}
use Rattle.checks.specs.Checks.{both_rules, Checks, refuses, passes}

module _ (u v schedule : List ℕ) (w : ℕ) (first second : Lengths) where
  -- neither 1 nor 2
  pub record LentWell : Type 0 where
    pub width : fit_width w ≡ true
    pub rules : both_rules first second ≡ true

  -- nor 3 to 10, nor 17
  pub record BothRead (c d : Circuit) : Type 0 where
    pub lent_well : LentWell
    pub first_end : ℕ
    pub first_read : decoded base_limits u ≡ read c first_end
    pub second_end : ℕ
    pub second_read : decoded base_limits v ≡ read d second_end

  -- "Places come top to bottom .. and the first failure met is returned."
  pub data Checking : Checks → Type 0 where
    -- 1, "w not 2 to 32"
    bad_width : fit_width w ≡ false → Checking (refuses (Call Width))
    -- 2, "column lengths break the store rules"
    bad_stores : fit_width w ≡ true → both_rules first second ≡ false → Checking (refuses (Call WrongColumns))
    -- 3 to 10 and 17 of list 1, then of list 2
    bad_first : {why : ListRefusal} → LentWell → decoded base_limits u ≡ unread why → Checking (refuses (at_byte First why))
    bad_second : {c : Circuit} {next : ℕ} {why : ListRefusal} → LentWell → decoded base_limits u ≡ read c next
        → decoded base_limits v ≡ unread why → Checking (refuses (at_byte Second why))
    -- 11, "qubit counts differ"
    counts_differ : {c d : Circuit} → BothRead c d → (c.qubits ≡ d.qubits → ⊥) → Checking (refuses (Call QubitCounts))
    -- 12, "schedule doesn't fit"
    unfitting : {c d : Circuit} → BothRead c d → c.qubits ≡ d.qubits → fits (length c.gates) (length d.gates) schedule ≡ false
        → Checking (refuses (Call Schedule))
    -- none of them
    all_hold : {c d : Circuit} → BothRead c d → c.qubits ≡ d.qubits → fits (length c.gates) (length d.gates) schedule ≡ true
        → Checking (passes c d)
