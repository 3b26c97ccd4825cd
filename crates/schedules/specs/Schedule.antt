-- Schedules. Definitions only; their laws are in proofs/Proportions.antt.
use Rattle.std.specs.Prelude.{Bool, true, cond, ◌&&◌, List, [], ◌∷◌, ◌++◌, ℕ, zero, suc, ◌+◌, ◌-◌, ◌*◌, eqb, leb, ltb, length, drop, Result, Ok, Err}
use Rattle.circuits.specs.Refusals.{base_limits}
use Rattle.schedules.specs.declared.ScheduleFault.{ScheduleFault}
use Rattle.schedules.specs.declared.ScheduleFault.TheVariants.{GateCount, ShortBuffer}

-- ---- fitting

-- "A schedule is one byte per step, 0 for U and 1 for V."
-- how many of the bytes are b
abbrev pub count : ℕ → List ℕ → ℕ
count b [] = 0
count b (x ∷ s) = cond (eqb x b) (suc (count b s)) (count b s)

abbrev pub only_steps : List ℕ → Bool
only_steps [] = true
only_steps (x ∷ s) = leb x 1 && only_steps s

-- "It fits if it has as many 0s as U has gates, as many 1s as V has, and no other byte."
unfoldable pub fits : ℕ → ℕ → List ℕ → Bool
fits m p s = eqb (count 0 s) m && (eqb (count 1 s) p && only_steps s)

-- ---- the proportional schedule

-- "with m and p gates and i and j already taken: take U if i < m and i·p ≤ j·m, else V"
unfoldable pub next_step : ℕ → ℕ → ℕ → ℕ → ℕ
next_step m p i j = cond (ltb i m && leb (i * p) (j * m)) 0 1

-- the next `left` steps, with i and j already taken
unfoldable pub steps_from : ℕ → ℕ → ℕ → ℕ → ℕ → List ℕ
steps_from m p i j zero = []
steps_from m p i j (suc left) = let step = next_step m p i j in step ∷ steps_from m p (i + 1 - step) (j + step) left

abbrev pub proportional : ℕ → ℕ → List ℕ
proportional m p = steps_from m p 0 0 (m + p)

-- ---- its maker

-- "The schedule maker gives 6 for m or p over 4,096, then 15 for a buffer below m + p bytes, each as a number alone"
abbrev pub gate_limit : ℕ
gate_limit = base_limits.gates

unfoldable pub made : ℕ → ℕ → List ℕ → Result ℕ ScheduleFault
made m p buffer =
    cond (leb m gate_limit && leb p gate_limit) (cond (leb (m + p) (length buffer)) (Ok (m + p)) (Err ShortBuffer)) (Err GateCount)

-- "fills the first m + p bytes, leaves the rest, and returns m + p"; the refusals "leave that buffer alone"
abbrev pub filled : ℕ → ℕ → Result ℕ ScheduleFault → List ℕ → List ℕ
filled m p (Ok n) buffer = proportional m p ++ drop n buffer
filled m p (Err why) buffer = buffer
