-- References and modes as numbers: each is read back from its number.
-- Assumes nothing.
use mathlib.Core.Path.{◌≡◌, refl, sym, ◌∙◌, ap, ap₂}
use mathlib.Core.Bool.{true, false, cond}
use Prim.Native.Nat.{ℕ, ◌+◌, ◌-◌, ◌*◌, ◌/◌, ◌%◌, ◌<◌, ◌≤◌}
use native.Mathlib.Omega.{arith}
use lib.Dec.{eqb, ltb}
use borrow.Author.Tests.{eq-eqb, ne_eqb, lt-ltb, le-ltb}
use Rattle.algebra.specs.declared.Entry.{Entry}
use Rattle.diagrams.specs.Diagram.{value, node, ref_of, Store}
use Rattle.transitions.specs.declared.Mode.{Mode}
use Rattle.transitions.specs.declared.Mode.TheVariants.{Turning, Adding, Subtracting, Waiting, Swapping, Choosing}
use Rattle.transitions.specs.declared.State.{State}
use Rattle.transitions.specs.Plan.{Plan}
use Rattle.transitions.specs.State.{top}
use Rattle.transitions.specs.Next.{mode_code, Coded, Once}
use Rattle.transitions.specs.Valid.{ValidPlan, Suits, ValidState, Staged}

-- ---- references

pub ref_of_odd : (x : ℕ) → x % 2 ≡ 1 → ref_of x ≡ node (x / 2)
ref_of_odd x odd = rw (eq-eqb _ _ odd)

pub ref_of_even : (x : ℕ) → (x % 2 ≡ 1 → ⊥) → ref_of x ≡ value (x / 2)
ref_of_even x even = rw (ne_eqb _ _ even)

-- ---- modes by their numbers

-- the mode of a number
mode_of : ℕ → Mode
mode_of m =
    cond (ltb m 8) (Turning m)
    (cond (eqb m 8) Adding
    (cond (ltb m 16) Subtracting
    (cond (ltb m 32) (Waiting (m - 16))
    (cond (ltb m 64) (Swapping ((m - 32) / 2) (eqb ((m - 32) % 2) 1)) (Choosing ((m - 64) / 8) ((m - 64) % 8))))))

mode_turning : (m : ℕ) → m < 8 → mode_of m ≡ Turning m
unfolding mode_of
mode_turning m h = rw (lt-ltb m 8 h)

mode_waiting : (m : ℕ) → 16 ≤ m → m < 32 → mode_of m ≡ Waiting (m - 16)
unfolding mode_of
mode_waiting m low high = rw (le-ltb m 8 (omega arith), ne_eqb m 8 (λ e. omega arith), le-ltb m 16 low, lt-ltb m 32 high)

mode_swapping : (m : ℕ) → 32 ≤ m → m < 64 → mode_of m ≡ Swapping ((m - 32) / 2) (eqb ((m - 32) % 2) 1)
unfolding mode_of
mode_swapping m low high =
    rw (le-ltb m 8 (omega arith), ne_eqb m 8 (λ e. omega arith), le-ltb m 16 (omega arith), le-ltb m 32 low, lt-ltb m 64 high)

mode_choosing : (m : ℕ) → 64 ≤ m → mode_of m ≡ Choosing ((m - 64) / 8) ((m - 64) % 8)
unfolding mode_of
mode_choosing m low =
    rw (le-ltb m 8 (omega arith), ne_eqb m 8 (λ e. omega arith), le-ltb m 16 (omega arith), le-ltb m 32 (omega arith), le-ltb m 64 low)

mode_of_code : (m : Mode) → Coded m → mode_of (mode_code m) ≡ m
unfolding mode_of
mode_of_code (Turning e) h = mode_turning e h
mode_of_code Adding h = refl
mode_of_code Subtracting h = refl
mode_of_code (Waiting k) h = mode_waiting (16 + k) (omega arith) (omega arith) ∙ ap Waiting (omega arith)
mode_of_code (Swapping k true) h =
    mode_swapping (32 + 2 * k + 1) (omega arith) (omega arith) ∙ ap₂ Swapping (omega arith) (eq-eqb ((32 + 2 * k + 1 - 32) % 2) 1 (omega arith))
mode_of_code (Swapping k false) h =
    mode_swapping (32 + 2 * k + 0) (omega arith) (omega arith)
    ∙ ap₂ Swapping (omega arith) (ne_eqb ((32 + 2 * k + 0 - 32) % 2) 1 (λ e. omega arith))
mode_of_code (Choosing k e) h =
    mode_choosing (64 + 8 * k + e) (omega arith) ∙ ap₂ Choosing (omega (arith, h.1)) (omega (arith, h.1))

-- two modes of one number are one
pub mode_code_once : (m n : Mode) → Coded m → Coded n → mode_code m ≡ mode_code n → m ≡ n
mode_code_once m n small small' same = sym (mode_of_code m small) ∙ ap mode_of same ∙ mode_of_code n small'

-- ---- the modes of a sound state

module _ (plan : Plan) (s : Store Entry) (valid : ValidPlan plan s) where
  suits_coded : (level : ℕ) (m : Mode) (x y : ℕ) → Suits plan level m x y → Coded m
  suits_coded level (Turning e) x y suits = suits.0
  suits_coded level Adding x y suits = tt
  suits_coded level Subtracting x y suits = tt
  suits_coded level (Waiting k) x y suits = omega (arith, suits.0, valid.has_target, valid.few_stages)
  suits_coded level (Swapping k b) x y suits = omega (arith, suits.1, valid.has_second, valid.few_stages)
  suits_coded level (Choosing k e) x y suits = (omega (arith, suits.1, valid.few_stages), suits.2)

  suits_staged : (level : ℕ) (m : Mode) (x y : ℕ) → Suits plan level m x y → Staged m
  suits_staged level (Turning e) x y suits = tt
  suits_staged level Adding x y suits = tt
  suits_staged level Subtracting x y suits = tt
  suits_staged level (Waiting k) x y suits = omega (arith, suits.0, valid.has_target, valid.few_stages)
  suits_staged level (Swapping k b) x y suits = omega (arith, suits.1, valid.has_second, valid.few_stages)
  suits_staged level (Choosing k e) x y suits = omega (arith, suits.1, valid.few_stages)

  -- its stage is one of the plan's
  pub staged : (σ : State) → ValidState plan s σ → Staged σ.mode
  staged σ ok = suits_staged (top plan s σ) σ.mode σ.x σ.y ok.suits

  -- its numbers are small
  pub coded : (σ : State) → ValidState plan s σ → Coded σ.mode
  coded σ ok = suits_coded (top plan s σ) σ.mode σ.x σ.y ok.suits

suits_once : (plan : Plan) (level : ℕ) (m : Mode) (x y : ℕ) → Suits plan level m x y → Once m x y
suits_once plan level (Turning e) x y suits = suits.1
suits_once plan level Adding x y suits = tt
suits_once plan level Subtracting x y suits = tt
suits_once plan level (Waiting k) x y suits = suits.1
suits_once plan level (Swapping k b) x y suits = tt
suits_once plan level (Choosing k e) x y suits = tt

pub once : (plan : Plan) (s : Store Entry) (σ : State) → ValidState plan s σ → Once σ.mode σ.x σ.y
once plan s σ ok = suits_once plan (top plan s σ) σ.mode σ.x σ.y ok.suits
