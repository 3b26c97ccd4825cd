-- The gate of a step: what a reader reads next, for its side, and the list that it is taken from.
-- Assumes nothing.
use mathlib.Core.Path.{◌≡◌, refl, sym, ◌∙◌, ap, ap₂, subst}
use mathlib.Core.Bool.{Bool, true, false}
use mathlib.Core.List.{List}
use Prim.Native.Nat.{ℕ, ◌^◌, ◌<◌, ◌≤◌, min, max}
use native.Mathlib.Omega.{arith}
use Rattle.std.specs.Prelude.{Result, Ok}
use Rattle.gates.specs.declared.Rule.{Rule}
use Rattle.gates.specs.Gate.{X, Y, Z, H, S, S†, T, T†, CNOT, CZ, Gate, on, pair, toffoli, fredkin, Fits, inverse, halves}
use Rattle.gates.specs.declared.Code.{Code}
use Rattle.gates.specs.Code.{coded}
use Rattle.gates.specs.Rule.{does_mix, code_rule, gate_rule, target, second}
use Rattle.gates.proofs.LocalRules.{second_fits}
use Rattle.gates.proofs.Masks.{names_below}
use Rattle.gates.proofs.Inverses.{inverse_fits}
use Rattle.circuits.specs.declared.Gate.{Gate as GateData}
use Rattle.circuits.specs.declared.Reader.{Reader}
use Rattle.circuits.specs.declared.Refusal.{Refusal}
use Rattle.circuits.specs.Reading.{Reading, read, refused, gate}
use Rattle.circuits.specs.Answers.{control, first_target, last_target, gate_data, Says}
use Rattle.circuits.proofs.Codes.{coded_rule, inverse_code}
use Rattle.circuits.proofs.Remaining.{remaining_next}
use Rattle.plans.specs.declared.Side.{Side}
use Rattle.plans.specs.declared.Side.TheVariants.{Right}
use Rattle.plans.specs.declared.Action.{Action}
use Rattle.plans.specs.Prepare.{as_number, side_of, named_mask}
use Rattle.plans.proofs.Plans.{mask_names, names_fit}
use Rattle.plans.specs.Layout.{Acts}
use Rattle.choices.specs.declared.Lists.{Lists as Readers}
use Rattle.choices.specs.Choosing.{sided, Sided, Acting, Read, Takes, from_U, from_V, Left, Chosen}

-- ---- the data of a code, for a side

gate_ruled : (code : Code) (rule : Rule) (g : Gate) → rule ≡ code_rule code → code ≡ coded g → rule ≡ gate_rule g
gate_ruled code rule g is e = is ∙ ap code_rule e ∙ coded_rule g

module _ (side : Side) (code : Code) (rule : Rule) (ruled : rule ≡ code_rule code) where
  pub sided_right : side ≡ Right → (undone : Rule) → undone ≡ code_rule rule.inverse → Sided side code undone
  sided_right is_right undone inverse_ruled true g s e =
      gate_ruled rule.inverse undone (inverse g) inverse_ruled
      (ap (λ (x : Rule). x.inverse) (gate_ruled code rule g ruled e) ∙ inverse_code g)
  sided_right is_right undone inverse_ruled false g s e = let z : ◌≡◌ {A = ℕ} 0 1 = cc in absurd (omega arith)

  pub sided_left : (side ≡ Right → ⊥) → Sided side code rule
  sided_left not_right true g s e = absurd (not_right s)
  sided_left not_right false g s e = gate_ruled code rule g ruled e

-- what a gate adds to the exponent: 1 if it mixes
pub gate_halves : (g : Gate) → as_number (does_mix (gate_rule g).act) ≡ halves g
gate_halves (on X q) = refl
gate_halves (on Y q) = refl
gate_halves (on Z q) = refl
gate_halves (on H q) = refl
gate_halves (on S q) = refl
gate_halves (on S† q) = refl
gate_halves (on T q) = refl
gate_halves (on T† q) = refl
gate_halves (pair CNOT p q) = refl
gate_halves (pair CZ p q) = refl
gate_halves (toffoli mask q) = refl
gate_halves (fredkin mask p q) = refl

-- what the code adds to the exponent is 1 at most
pub as_number_few : {h : ℕ} (b : Bool) → h ≡ as_number b → h ≤ 1
as_number_few true e = omega arith
as_number_few false e = omega arith

-- ---- a gate that was read, for its side

sided_fits : (n : ℕ) (right : Bool) (g : Gate) → Fits n g → Fits n (sided right g)
sided_fits n false g fits = fits
sided_fits n true g fits = inverse_fits n g fits

-- the inverse names the same qubits
sided_same : (right : Bool) (g : Gate) → (control g ≡ control (sided right g)) × (first_target g ≡ first_target (sided right g))
    × (last_target g ≡ last_target (sided right g))
sided_same false g = (refl, refl, refl)
sided_same true (on k q) = (refl, refl, refl)
sided_same true (pair k p q) = (refl, refl, refl)
sided_same true (toffoli mask q) = (refl, refl, refl)
sided_same true (fredkin mask p q) = (refl, refl, refl)

-- the targets in order
ordered : (g : Gate) → (min (first_target g) (last_target g) ≡ target g) × (max (first_target g) (last_target g) ≡ second g)
ordered (on k q) = (omega arith, omega arith)
ordered (pair k p q) = (omega arith, omega arith)
ordered (toffoli mask q) = (omega arith, omega arith)
ordered (fredkin mask p q) = (refl, refl)

-- a gate on few qubits names them in sixteen bits
small_mask : (n : ℕ) (g : Gate) → n ≤ 16 → Fits n g → named_mask g < 2 ^ 16
small_mask n g few fits = names_below 16 (named_mask g) (λ q e. let below = names_fit n g fits q (sym (mask_names n g fits q) ∙ e) in omega arith)

acting_acts : (n : ℕ) (right : Bool) (g : Gate) (side : Side) (rule : Rule) (action : Action) → n ≤ 16 → Fits n g → side ≡ side_of right
    → rule ≡ gate_rule (sided right g) → Acting rule side (gate_data g) action → Acts n right (sided right g) action
acting_acts n right g side rule action few fits is_side rule_is acting =
    let h = sided right g in
    let same = sided_same right g in
    let fits' = sided_fits n right g fits in
    let named : action.named ≡ named_mask h = acting.named_is.1 n h few fits' (ap (λ (r : Rule). r.operands) rule_is) same.0 same.1 same.2 in
    let high : action.high ≡ second h = acting.high_is ∙ ap₂ max same.1 same.2 ∙ (ordered h).1 in
    record {
      fits = fits';
      rule = acting.rule_is ∙ rule_is;
      side = acting.side_is ∙ is_side;
      named = named;
      small_named = subst (λ (m : ℕ). m < 65536) (sym named) (small_mask n h few fits');
      low = acting.low_is ∙ ap₂ min same.1 same.2 ∙ (ordered h).0;
      high = high;
      small_high = let below = second_fits n h fits' in omega (arith, high, below, few);
    }

module _ (old new : Reader) (n : ℕ) (side : Side) where
  -- the reader goes on behind the gate, on the same bytes
  gate_moves : (r : Result GateData Refusal) (x : Reading Gate) → Says gate_data x old new r → new.bytes ≡ old.bytes
  gate_moves r (read g next) says = ap (λ (x : Reader). x.bytes) says.1
  gate_moves r (refused why) says = says.1

  -- what is taken is what was read, if anything was
  pub gate_taken : {r : Result GateData Refusal} {what : GateData} {rule : Rule} {action : Action}
      → Says gate_data (gate n old.bytes.now old.at) old new r → ((x : GateData) → r ≡ Ok x → what ≡ x)
      → Sided side what.code rule → Acting rule side what action → Read old n side new action
  gate_taken {r} {what} {rule} {action} says is_read rules acting = record {
    same_bytes = gate_moves r (gate n old.bytes.now old.at) says;
    taken = λ right g next is_side few fits reads.
        let found : Says gate_data (read g next) old new r = rw reads at says in
        let is : what ≡ gate_data g = is_read _ found.0 in (
          acting_acts n right g side rule action few fits is_side (rules right g is_side (ap (λ (w : GateData). w.code) is))
              (subst (λ (w : GateData). Acting rule side w action) is acting),
          ap (λ (x : Reader). x.at) found.1,
        );
  }

-- ---- the list that a step takes its gate from

module _ (old : Readers) (n step : ℕ) (new : Reader) (action : Action) where
  pub chosen_U : step ≡ 0 → Read old.first n Side.Left new action → Chosen old (record { first = new; second = old.second }) step n action
  chosen_U zero_step reads = record {
    same_first = reads.same_bytes;
    same_second = refl;
    next = λ us vs us' vs' right g takes few left. taken takes zero_step few left;
  }
    where
      taken : {step : ℕ} {us vs us' vs' : List Gate} {right : Bool} {g : Gate}
          → Takes step us vs right g us' vs' → step ≡ 0 → n ≤ 16 → Left n old us vs
          → Acts n right g action × Left n (record { first = new; second = old.second }) us' vs'
      taken (from_U {g = g} {us = us}) e few left =
          let next = remaining_next n old.first.bytes.now old.first.at g us left.gates_u in
          let r = reads.taken false g next.next refl few left.fit_u.0 next.gate_here in (
            r.0,
            record {
              gates_u = rw (reads.same_bytes, r.1) next.others;
              gates_v = left.gates_v;
              fit_u = left.fit_u.1;
              fit_v = left.fit_v;
            },
          )
      taken from_V e few left = absurd (omega arith)

  pub chosen_V : (step ≡ 0 → ⊥) → Read old.second n Side.Right new action → Chosen old (record { first = old.first; second = new }) step n action
  chosen_V some_step reads = record {
    same_first = refl;
    same_second = reads.same_bytes;
    next = λ us vs us' vs' right g takes few left. taken takes some_step few left;
  }
    where
      taken : {step : ℕ} {us vs us' vs' : List Gate} {right : Bool} {g : Gate}
          → Takes step us vs right g us' vs' → (step ≡ 0 → ⊥) → n ≤ 16 → Left n old us vs
          → Acts n right g action × Left n (record { first = old.first; second = new }) us' vs'
      taken from_U e few left = absurd (e refl)
      taken (from_V {g = g} {vs = vs}) e few left =
          let next = remaining_next n old.second.bytes.now old.second.at g vs left.gates_v in
          let r = reads.taken true g next.next refl few left.fit_v.0 next.gate_here in (
            r.0,
            record {
              gates_u = left.gates_u;
              gates_v = rw (reads.same_bytes, r.1) next.others;
              fit_u = left.fit_u;
              fit_v = left.fit_v.1;
            },
          )
