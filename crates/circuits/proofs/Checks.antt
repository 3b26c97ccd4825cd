-- A number that passed its tests was read, and passed them.
-- Assumes nothing.
use mathlib.Core.Bool.{Bool, true, false, not, ◌&&◌}
use mathlib.Core.Path.{◌≡◌, refl, sym}
use mathlib.Core.List.{List}
use Prim.Native.Nat.{ℕ, ◌<◌, ◌≤◌, ◌^◌}
use lib.Count.{ones}
use Rattle.gates.specs.Gate.{in_mask}
use borrow.Author.Tests.{ltb-true, leb-true, eqb-false, not-true}
use lib.Dec.{ltb, leb, eqb}
use Rattle.circuits.specs.declared.Fault.{Fault}
use Rattle.circuits.specs.Refusals.{no_such_qubit, control_is_target, too_few_controls}
use Rattle.circuits.specs.Reading.{read, number, qubit, target_qubit, mask_below, mask, free_qubit, second_qubit, count}
use Rattle.circuits.proofs.Readings.{checked_read}

both : (a b : Bool) → a && b ≡ true → (a ≡ true) × (b ≡ true)
both true b e = (refl, e)
both false b e = (e, cc)

module _ (s : List ℕ) (at : ℕ) {v next : ℕ} where
  pub qubit_checked : (n : ℕ) → qubit n s at ≡ read v next → (number s at ≡ read v next) × (v < n)
  unfolding qubit
  qubit_checked n e =
      let c = checked_read no_such_qubit (λ q. ltb q n) number s at e in
      (c.0, ltb-true v n c.1)

  pub target_checked : (n p : ℕ) → target_qubit n p s at ≡ read v next → (number s at ≡ read v next) × (v < n) × (p ≡ v → ⊥)
  unfolding target_qubit
  target_checked n p e =
      let c = checked_read control_is_target (λ q. not (eqb q p)) (qubit n) s at e in
      let q = qubit_checked n c.0 in
      (q.0, q.1, λ f. eqb-false v p (not-true _ c.1) (sym f))

  pub mask_checked : (n least : ℕ) → mask n least s at ≡ read v next → (number s at ≡ read v next) × (v < 2 ^ n) × (least ≤ ones v)
  unfolding mask mask_below
  mask_checked n least e =
      let c = checked_read too_few_controls (λ m. leb least (ones m)) (mask_below n) s at e in
      let d = checked_read no_such_qubit (λ m. ltb m (2 ^ n)) number s at c.0 in
      (d.0, ltb-true v (2 ^ n) d.1, leb-true least (ones v) c.1)

  pub free_checked : (n m : ℕ) → free_qubit n m s at ≡ read v next → (number s at ≡ read v next) × (v < n) × (in_mask m v ≡ false)
  unfolding free_qubit
  free_checked n m e =
      let c = checked_read control_is_target (λ q. not (in_mask m q)) (qubit n) s at e in
      let q = qubit_checked n c.0 in
      (q.0, q.1, not-true _ c.1)

  pub second_checked : (n m p : ℕ) → second_qubit n m p s at ≡ read v next
      → (number s at ≡ read v next) × (v < n) × (in_mask m v ≡ false) × (p ≡ v → ⊥)
  unfolding second_qubit
  second_checked n m p e =
      let c = checked_read control_is_target (λ q. not (eqb q p)) (free_qubit n m) s at e in
      let q = free_checked n m c.0 in
      (q.0, q.1, q.2, λ f. eqb-false v p (not-true _ c.1) (sym f))

  pub count_checked : (low high : ℕ) (fault : Fault) → count low high fault s at ≡ read v next
      → (number s at ≡ read v next) × (low ≤ v) × (v ≤ high)
  unfolding count
  count_checked low high fault e =
      let c = checked_read fault (λ v. leb low v && leb v high) number s at e in
      let t = both (leb low v) (leb v high) c.1 in
      (c.0, leb-true low v t.0, leb-true v high t.1)
