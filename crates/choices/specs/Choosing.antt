-- The gate of a step: its data by its code and its side, what a reader reads next, and which list it is taken from. Definitions only.
use Rattle.std.specs.Prelude.{◌≡◌, Bool, true, false, List, ◌∷◌, ℕ, zero, suc, ◌^◌, ◌<◌, ◌≤◌, min, max}
use Rattle.gates.specs.declared.Operands.{Operands}
use Rattle.gates.specs.declared.Rule.{Rule}
use Rattle.gates.specs.declared.Code.{Code}
use Rattle.gates.specs.Gate.{Gate, Fits, AllFit, inverse}
use Rattle.gates.specs.Code.{coded}
use Rattle.gates.specs.Rule.{gate_rule}
use Rattle.circuits.specs.declared.Gate.{Gate as GateData}
use Rattle.circuits.specs.declared.Reader.{Reader}
use Rattle.circuits.specs.Reading.{read, gate}
use Rattle.circuits.specs.Remaining.{Remaining}
use Rattle.circuits.specs.Answers.{control, first_target, last_target}
use Rattle.plans.specs.declared.Side.{Side}
use Rattle.plans.specs.declared.Action.{Action}
use Rattle.plans.specs.Prepare.{side_of, named_mask}
use Rattle.plans.specs.Layout.{Acts}
use Rattle.choices.specs.declared.Lists.{Lists as Readers}

-- a gate's inverse, as it is put on the right, or the gate, as it is put on the left
abbrev pub sided : Bool → Gate → Gate
sided true g = inverse g
sided false g = g

abbrev pub Sided : Side → Code → Rule → Type 0
Sided side code r = (right : Bool) (g : Gate) → side ≡ side_of right → code ≡ coded g → r ≡ gate_rule (sided right g)

-- 2 to the power of a qubit
abbrev pub Power : ℕ → ℕ → Type 0
Power q r = (r ≤ 32768) × (q < 16 → r ≡ 2 ^ q)

-- the qubits of a gate, by what was read of it; a mask never has more than this
abbrev pub Named : Operands → GateData → ℕ → Type 0
Named operands what r =
    (r ≤ 131071) × ((n : ℕ) (g : Gate) → n ≤ 16 → Fits n g → operands ≡ (gate_rule g).operands → what.control ≡ control g
    → what.target ≡ first_target g → what.second ≡ last_target g → r ≡ named_mask g)

pub record Acting (rule : Rule) (side : Side) (what : GateData) (r : Action) : Type 0 where
  pub rule_is : r.rule ≡ rule
  pub side_is : r.side ≡ side
  pub named_is : Named rule.operands what r.named
  pub low_is : r.low ≡ min what.target what.second
  pub high_is : r.high ≡ max what.target what.second

-- the gate that a reader reads next, and where it stands after it
pub record Read (old : Reader) (n : ℕ) (side : Side) (new : Reader) (r : Action) : Type 0 where
  pub same_bytes : new.bytes ≡ old.bytes
  pub taken : (right : Bool) (g : Gate) (next : ℕ) → side ≡ side_of right → n ≤ 16 → Fits n g → gate n old.bytes.now old.at ≡ read g next
      → Acts n right (sided right g) r × (new.at ≡ next)

-- "A step either puts the next gate of U on the left or the inverse of the next gate of V on the right."
-- the side and the gate of a step, and the gates that are left after it, by the schedule's byte and the gates that were left
pub data Takes : ℕ → List Gate → List Gate → Bool → Gate → List Gate → List Gate → Type 0 where
  from_U : {g : Gate} {us vs : List Gate} → Takes zero (g ∷ us) vs false g us vs
  from_V : {b : ℕ} {g : Gate} {us vs : List Gate} → Takes (suc b) us (g ∷ vs) true (inverse g) us vs

-- the offsets at which the gates of the two lists are read
pub record Offsets : Type 0 where
  pub first : ℕ
  pub second : ℕ

-- those of two readers
abbrev pub offsets_of : Readers → Offsets
offsets_of lists = record { first = lists.first.at; second = lists.second.at }

-- the gates that are left of the two lists, from these offsets on
pub record Lists (n : ℕ) (u v : List ℕ) (offsets : Offsets) (us vs : List Gate) : Type 0 where
  pub gates_u : Remaining n u offsets.first us
  pub gates_v : Remaining n v offsets.second vs
  pub fit_u : AllFit n us
  pub fit_v : AllFit n vs

-- the gates that are left of the two lists, where they are read next
abbrev pub Left : ℕ → Readers → List Gate → List Gate → Type 0
Left n lists us vs = Lists n lists.first.bytes.now lists.second.bytes.now (offsets_of lists) us vs

-- the two lists stay the same bytes, and the gate is the next of one of them
pub record Chosen (old new : Readers) (step n : ℕ) (r : Action) : Type 0 where
  pub same_first : new.first.bytes ≡ old.first.bytes
  pub same_second : new.second.bytes ≡ old.second.bytes
  pub next : (us vs us' vs' : List Gate) (right : Bool) (g : Gate) → Takes step us vs right g us' vs' → n ≤ 16 → Left n old us vs
      → Acts n right g r × Left n new us' vs'
