-- The three forms that a number can have.
-- Assumes nothing.
use mathlib.Core.Logic.{⊎_elim}
use mathlib.Core.Path.{◌≡◌, subst₂}
use mathlib.Core.List.{List, [], ◌∷◌}
use Prim.Native.Nat.{ℕ, ◌+◌, ◌*◌, ◌%◌, ◌<◌, ◌≤◌}
use native.Mathlib.Omega.{arith}
use borrow.Author.Tests.{ltb-true, ltb-false, eqb-false}
use lib.ListN.{length, drop, length-drop}
use lib.Dec.{ltb, eqb}
use Rattle.circuits.specs.Reading.{read, last_group, third_group, second_group, first_group, number}
use Rattle.circuits.proofs.Readings.{choice, read_value, read_next, refused_read}

-- the number v at `at`, whose bytes are the first of these; `next` is the offset after it
pub data Form (at : ℕ) : List ℕ → ℕ → ℕ → Type 0 where
  single : {x : ℕ} {t : List ℕ} → x < 128 → Form at (x ∷ t) x (at + 1)
  double : {x y : ℕ} {t : List ℕ} → 128 ≤ x → y < 128 → 0 < y → Form at (x ∷ y ∷ t) (x % 128 + y * 128) (at + 2)
  triple : {x y z : ℕ} {t : List ℕ} → 128 ≤ x → 128 ≤ y → z < 128 → 0 < z
      → Form at (x ∷ y ∷ z ∷ t) (x % 128 + y % 128 * 128 + z * 16384) (at + 3)

-- ---- a number that was read has one of the forms

module _ (at : ℕ) {v next : ℕ} where
  last_form : (t : List ℕ) (group value after : ℕ) → (0 < group → Form at t value after)
      → last_group at group value after ≡ read v next → Form at t v next
  last_form t group value after form e =
      ⊎_elim
      (λ c. absurd (refused_read c.1))
      (λ c. subst₂ (Form at t) (read_value c.1) (read_next c.1) (form (omega (arith, eqb-false group 0 c.0))))
      (choice (eqb group 0) e)

  third_form : (x y : ℕ) (t : List ℕ) → 128 ≤ x → 128 ≤ y → third_group at x y t ≡ read v next → Form at (x ∷ y ∷ t) v next
  third_form x y [] hx hy e = absurd (refused_read e)
  third_form x y (z ∷ t) hx hy e =
      ⊎_elim
      (λ c. last_form (x ∷ y ∷ z ∷ t) z _ _ (triple hx hy (ltb-true z 128 c.0)) c.1)
      (λ c. absurd (refused_read c.1))
      (choice (ltb z 128) e)

  second_form : (x : ℕ) (t : List ℕ) → 128 ≤ x → second_group at x t ≡ read v next → Form at (x ∷ t) v next
  second_form x [] hx e = absurd (refused_read e)
  second_form x (y ∷ t) hx e =
      ⊎_elim
      (λ c. last_form (x ∷ y ∷ t) y _ _ (double hx (ltb-true y 128 c.0)) c.1)
      (λ c. third_form x y t hx (ltb-false y 128 c.0) c.1)
      (choice (ltb y 128) e)

  first_form : (t : List ℕ) → first_group at t ≡ read v next → Form at t v next
  first_form [] e = absurd (refused_read e)
  first_form (x ∷ t) e =
      ⊎_elim
      (λ c. subst₂ (Form at (x ∷ t)) (read_value c.1) (read_next c.1) (single (ltb-true x 128 c.0)))
      (λ c. second_form x t (ltb-false x 128 c.0) c.1)
      (choice (ltb x 128) e)

pub number_form : (s : List ℕ) (at : ℕ) {v next : ℕ} → number s at ≡ read v next → Form at (drop at s) v next
unfolding number
number_form s at e = first_form at (drop at s) e

-- ---- a number ends within the bytes

form_within : {at v next : ℕ} {t : List ℕ} → Form at t v next → (at < next) × (next ≤ at + length t)
form_within (single x) = omega arith
form_within (double x y y>0) = omega arith
form_within (triple x y z z>0) = omega arith

pub number_within : (s : List ℕ) (at : ℕ) {v next : ℕ} → number s at ≡ read v next → next ≤ length s
number_within s at e = omega (arith, form_within (number_form s at e), length-drop at s)
