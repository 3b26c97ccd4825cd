-- The proportional schedule: it never takes more than there is, so it fits; what a turn of its maker writes.
-- Assumes nothing.
use mathlib.Core.Path.{◌≡◌, refl, ap₂}
use mathlib.Core.Bool.{Bool, true, false, cond, ◌&&◌}
use mathlib.Core.List.{List, [], ◌∷◌}
use Prim.Native.Nat.{ℕ, zero, suc, ◌+◌, ◌-◌, ◌*◌, ◌≤◌, ◌<◌}
use native.Mathlib.Nat.{mul-le-mul_right, mul_comm, lt_of_mul-lt-mul_right}
use native.Mathlib.Omega.{arith}
use borrow.Author.Tests.{ltb-true, ltb-false, leb-false, eq-eqb}
use lib.Dec.{leb, ltb}
use Rattle.schedules.specs.Schedule.{count, only_steps, fits, next_step, steps_from, proportional}

-- ---- the next step leaves both counts within their lists

pub record Next (m p i j step : ℕ) : Type 0 where
  pub bit : step ≤ 1
  pub first : i + 1 - step ≤ m
  pub second : j + step ≤ p

-- i·p exceeds j·m only where V has a gate left
room_for_V : (m p i j : ℕ) → i < m → j * m < i * p → j < p
room_for_V m p i j h more = lt_of_mul-lt-mul_right m (omega (arith, mul-le-mul_right p (below h), mul_comm p m))
  where
    below : i < m → i ≤ m
    below h = omega arith

pub next_within : (m p i j : ℕ) → i ≤ m → j ≤ p → i + j < m + p → Next m p i j (next_step m p i j)
unfolding next_step
next_within m p i j hi hj more = by (ltb i m) (leb (i * p) (j * m)) refl refl
  where
    by : (a b : Bool) → ltb i m ≡ a → leb (i * p) (j * m) ≡ b → Next m p i j (cond (a && b) 0 1)
    by true true ea eb = let h : i < m = ltb-true i m ea in omega arith
    by true false ea eb =
        let h : j < p = room_for_V m p i j (ltb-true i m ea) (leb-false (i * p) (j * m) eb) in
        omega arith
    by false b ea eb = let h : m ≤ i = ltb-false i m ea in omega arith

-- ---- it fits

record Counted (m p i j : ℕ) (s : List ℕ) : Type 0 where
  zeros : count 0 s ≡ m - i
  ones : count 1 s ≡ p - j
  only : only_steps s ≡ true

counted : (m p i j left : ℕ) → i ≤ m → j ≤ p → i + j + left ≡ m + p → Counted m p i j (steps_from m p i j left)
unfolding steps_from
counted m p i j zero hi hj all = record { zeros = omega arith; ones = omega arith; only = refl }
counted m p i j (suc left) hi hj all =
    step_counted (next_step m p i j) (next_within m p i j hi hj (omega arith))
    (λ next. counted m p (i + 1 - next_step m p i j) (j + next_step m p i j) left next.first next.second (omega arith))
  where
    step_counted : (step : ℕ) → Next m p i j step →
        (Next m p i j step → Counted m p (i + 1 - step) (j + step) (steps_from m p (i + 1 - step) (j + step) left)) →
        Counted m p i j (step ∷ steps_from m p (i + 1 - step) (j + step) left)
    step_counted zero next rest =
        let r = rest next in
        record { zeros = omega (arith, r.zeros); ones = omega (arith, r.ones); only = r.only }
    step_counted (suc zero) next rest =
        let r = rest next in
        record { zeros = omega (arith, r.zeros); ones = omega (arith, r.ones); only = r.only }
    step_counted (suc (suc step)) next rest = absurd (omega (arith, next.bit))

pub proportional_fits : (m p : ℕ) → fits m p (proportional m p) ≡ true
unfolding fits
proportional_fits m p =
    let c = counted m p 0 0 (m + p) (omega arith) (omega arith) (omega arith) in
    ap₂ ◌&&◌ (eq-eqb (count 0 (proportional m p)) m (omega (arith, c.zeros)))
    (ap₂ ◌&&◌ (eq-eqb (count 1 (proportional m p)) p (omega (arith, c.ones))) c.only)

-- "For m = 2, p = 4 it is 0 1 1 0 1 1."
pub two_and_four : proportional 2 4 ≡ 0 ∷ 1 ∷ 1 ∷ 0 ∷ 1 ∷ 1 ∷ []
unfolding steps_from next_step
two_and_four = refl
