-- The proportional schedule of two lists is what its maker leaves in the first slots of a buffer that has room for any.
-- Assumes nothing.
use mathlib.Core.Path.{◌≡◌, refl, sym, ◌∙◌, ap, ap₂}
use mathlib.Core.List.{List, ◌++◌}
use Prim.Native.Nat.{ℕ, zero, suc, ◌+◌, ◌-◌, ◌≤◌}
use native.Mathlib.Omega.{arith}
use lib.ListN.{length, take, drop, length-append}
use lib.Seq.{take-append_seam}
use borrow.Author.Tests.{le-leb}
use Rattle.std.specs.Prelude.{Result, Ok}
use Rattle.schedules.specs.declared.ScheduleFault.{ScheduleFault}
use Rattle.schedules.specs.Schedule.{gate_limit, next_step, steps_from, proportional, made, filled}
use Rattle.pairs.specs.Pair.{gate_count}
use Rattle.pairs.proofs.Counts.{count_few}

pub length_steps : (m p i j left : ℕ) → length (steps_from m p i j left) ≡ left
unfolding steps_from
length_steps m p i j zero = refl
length_steps m p i j (suc left) = ap suc (length_steps m p (i + 1 - next_step m p i j) (j + next_step m p i j) left)

-- ---- what the maker leaves

-- it makes a schedule where the counts are within their limit and the buffer has room
made_steps : (m p : ℕ) (before : List ℕ) → m ≤ gate_limit → p ≤ gate_limit → m + p ≤ length before → Ok (m + p) ≡ made m p before
unfolding made
made_steps m p before first second fits = rw (le-leb _ _ first, le-leb _ _ second, le-leb _ _ fits)

module _ (m p : ℕ) (before : List ℕ) (first : m ≤ gate_limit) (second : p ≤ gate_limit) (fits : m + p ≤ length before) where
  module _ {answer : Result ℕ ScheduleFault} {after : List ℕ} (is : answer ≡ made m p before) (left : after ≡ filled m p answer before) where
    holds : after ≡ proportional m p ++ drop (m + p) before
    holds = left ∙ ap (λ (a : Result ℕ ScheduleFault). filled m p a before) (is ∙ sym (made_steps m p before first second fits))

    made_room : m + p ≤ length after
    made_room = omega (arith, ap length holds, length-append (proportional m p) (drop (m + p) before), length_steps m p 0 0 (m + p))

    made_front : take (m + p) after ≡ proportional m p
    made_front =
        ap (take (m + p)) holds
        ∙ ap (λ (k : ℕ). take k (proportional m p ++ drop (m + p) before)) (sym (length_steps m p 0 0 (m + p)))
        ∙ take-append_seam (proportional m p) (drop (m + p) before)

-- ---- in a buffer with room for any two lists

-- the schedule is made, and the first slots, as many as there are steps, hold that of lists u and v
pub record Scheduled (u v : List ℕ) (answer : Result ℕ ScheduleFault) (steps : ℕ) (buffer : List ℕ) : Type 0 where
  pub made : answer ≡ Ok steps
  pub room : steps ≤ length buffer
  pub front : take steps buffer ≡ proportional (gate_count u) (gate_count v)

pub scheduled : (u v : List ℕ) {m p : ℕ} {answer : Result ℕ ScheduleFault} (before : List ℕ) {after : List ℕ} → 8192 ≤ length before
    → m ≡ gate_count u → p ≡ gate_count v → answer ≡ made m p before → after ≡ filled m p answer before → Scheduled u v answer (m + p) after
scheduled u v {m} {p} before long first second is left = record {
  made = is ∙ sym (made_steps m p before few_u few_v fits);
  room = made_room m p before few_u few_v fits is left;
  front = made_front m p before few_u few_v fits is left ∙ ap₂ proportional first second;
}
  where
    few_u : m ≤ gate_limit
    few_u = omega (arith, first, count_few u)

    few_v : p ≤ gate_limit
    few_v = omega (arith, second, count_few v)

    fits : m + p ≤ length before
    fits = omega (arith, few_u, few_v, long)
