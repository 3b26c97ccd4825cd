-- What the maker's slots hold after each turn: the steps so far come first. Assumes nothing.
use mathlib.Core.Path.{◌≡◌, refl, sym, ap, ap₂, ◌∙◌}
use mathlib.Core.List.{List, [], ◌∷◌, ◌++◌, append_assoc, append-nil}
use Prim.Native.Nat.{ℕ, suc, ◌+◌, ◌-◌, ◌≤◌, ◌<◌}
use native.Mathlib.Numerals.{add-one}
use native.Mathlib.Omega.{arith}
use lib.ListN.{length, take, set}
use lib.Seq.{take-suc-set}
use Rattle.std.proofs.lemmas.List.{take_all}
use Rattle.schedules.specs.Schedule.{next_step, steps_from, proportional}
use Rattle.schedules.proofs.Proportions.{Next, next_within}

-- `at` steps are written, i of them 0 and j of them 1
pub record Filling (m p : ℕ) (slots : List ℕ) (i j at : ℕ) : Type 0 where
  pub first : i ≤ m
  pub second : j ≤ p
  pub taken : i + j ≡ at
  pub written : take at slots ++ steps_from m p i j (m + p - at) ≡ proportional m p

-- the slots after a step are written as they were to be
module _ {m p i j at : ℕ} {slots : List ℕ} (f : Filling m p slots i j at) (more : at < m + p) (here : at < length slots) where
  next_of : Next m p i j (next_step m p i j)
  next_of = next_within m p i j f.first f.second (omega (arith, f.taken))

  pub filling_turn : (step i' j' : ℕ) → step ≡ next_step m p i j → (step ≤ 1 → i' ≡ i + 1 - step) → (step ≤ 1 → j' ≡ j + step)
      → Filling m p (set slots at step) i' j' (at + 1)
  unfolding steps_from
  filling_turn step i' j' is by_zeros by_ones =
      let next : Next m p i j step = rw is next_of in
      let zeros = by_zeros next.bit in
      let ones = by_ones next.bit in
      let left : m + p - at ≡ suc (m + p - (at + 1)) = omega arith in
      let rest = steps_from m p i' j' (m + p - (at + 1)) in
      let on : steps_from m p i j (m + p - at) ≡ step ∷ rest =
      ap (steps_from m p i j) left ∙ rw (zeros, ones, is) refl in
      record {
        first = omega (arith, next.first);
        second = omega (arith, next.second);
        taken = omega (arith, f.taken, next.bit);
        written =
            ap (λ (l : List ℕ). l ++ rest) (ap (λ (k : ℕ). take k (set slots at step)) (add-one at) ∙ take-suc-set slots at step here)
            ∙ append_assoc (take at slots) (step ∷ []) rest
            ∙ ap (λ (l : List ℕ). take at slots ++ l) (sym on) ∙ f.written;
      }

pub filling_done : {m p i j at : ℕ} {slots : List ℕ} → Filling m p slots i j at → at ≡ m + p → length slots ≡ at → slots ≡ proportional m p
unfolding steps_from
filling_done {m} {p} {i} {j} {at} {slots} f done all =
    let none : m + p - at ≡ 0 = omega arith in
    sym (append-nil slots) ∙ ap₂ (λ (l : List ℕ) (k : ℕ). l ++ steps_from m p i j k) (sym (take_all at slots (omega arith))) (sym none) ∙ f.written
