-- Every schedule that fits comes to the miter, its matrix and its exponent; so any two come to the same. Without dividing the
-- steps of any two come to one product; dividing after each comes to its least form.
-- Assumes nothing.
use mathlib.Core.Path.{◌≡◌, refl, sym, ◌∙◌, ap, subst}
use mathlib.Core.Bool.{true, ◌&&◌, true≢false}
use mathlib.Core.List.{List, [], ◌∷◌}
use Prim.Native.Nat.{ℕ, zero, suc, ◌+◌, ◌≤◌}
use native.Mathlib.Omega.{arith}
use borrow.Author.Tests.{eqb-true}
use lib.ListN.{length}
use lib.Dec.{eqb, leb, leb-suc-zero, leb-suc-suc}
use Rattle.algebra.proofs.Matrices.{product_assoc}
use Rattle.gates.specs.Gate.{Gate, matrix, inverse}
use Rattle.gates.proofs.Inverses.{inverse_halves}
use Rattle.schedules.specs.Schedule.{count, only_steps, fits}
use Rattle.diagrams.proofs.Tests.{both_true}
use Rattle.miters.specs.Miter.{Over, start, left, right, stepped, run, steps, in_turn, miter, exponent}
use Rattle.miters.specs.Claims.{SameMatrix}
use Rattle.miters.proofs.LeastForms.{multiplied, Raised, raised_refl, LeastForm, SameTable, least_unique, least_power, run_raised, run_least, start_least}

-- ---- the order of the steps

by_parts : {M N : Over} → M.entries ≡ N.entries → M.power ≡ N.power → M ≡ N
by_parts p q = λ i. record { entries = p i; power = q i }

-- a step on the left and one on the right can change places
stepped_swap : (n : ℕ) (g h : Gate) (M : Over) → stepped n (left g) (stepped n (right h) M) ≡ stepped n (right h) (stepped n (left g) M)
unfolding stepped
stepped_swap n g h M = by_parts (sym (product_assoc n (matrix g) M.entries (matrix h))) (omega arith)

-- a gate of V taken before all of U may as well be taken after it
in_turn_right : (n : ℕ) (us vs : List Gate) (v : Gate) (M : Over)
    → multiplied n (in_turn us vs) (stepped n (right (inverse v)) M) ≡ multiplied n (in_turn us (v ∷ vs)) M
in_turn_right n [] vs v M = refl
in_turn_right n (u ∷ us) vs v M = ap (multiplied n (in_turn us vs)) (stepped_swap n u (inverse v) M) ∙ in_turn_right n us vs v (stepped n (left u) M)

-- ---- schedules that fit

multiplied_fitting : (n : ℕ) (s : List ℕ) (us vs : List Gate) (M : Over) → count 0 s ≡ length us → count 1 s ≡ length vs → only_steps s ≡ true
    → multiplied n (steps s us vs) M ≡ multiplied n (in_turn us vs) M
multiplied_fitting n [] [] [] M a b o = refl
multiplied_fitting n [] [] (v ∷ vs) M a b o = absurd (omega arith)
multiplied_fitting n [] (u ∷ us) vs M a b o = absurd (omega arith)
multiplied_fitting n (zero ∷ s) [] vs M a b o = absurd (omega arith)
multiplied_fitting n (zero ∷ s) (u ∷ us) vs M a b o = multiplied_fitting n s us vs (stepped n (left u) M) (omega arith) b o
multiplied_fitting n (suc zero ∷ s) us [] M a b o = absurd (omega arith)
multiplied_fitting n (suc zero ∷ s) us (v ∷ vs) M a b o =
    multiplied_fitting n s us vs (stepped n (right (inverse v)) M) a (omega arith) o ∙ in_turn_right n us vs v M
multiplied_fitting n (suc (suc x) ∷ s) us vs M a b o =
    absurd (true≢false (sym (both_true (leb (suc (suc x)) 1) (only_steps s) o).0 ∙ leb-suc-suc (suc x) 0 ∙ leb-suc-zero x))

-- ---- the theorem

-- all of U and then all of V, without dividing
unfoldable pub undivided : ℕ → List Gate → List Gate → Over
undivided n us vs = multiplied n (in_turn us vs) start

schedule_undivided : (n : ℕ) (s : List ℕ) (us vs : List Gate) → fits (length us) (length vs) s ≡ true → multiplied n (steps s us vs) start ≡ undivided n us vs
unfolding fits undivided
schedule_undivided n s us vs e =
    let (zeros, rest) = both_true (eqb (count 0 s) (length us)) (eqb (count 1 s) (length vs) && only_steps s) e in
    let (ones, only) = both_true (eqb (count 1 s) (length vs)) (only_steps s) rest in
    multiplied_fitting n s us vs start (eqb-true (count 0 s) (length us) zeros) (eqb-true (count 1 s) (length vs) ones) only

-- the miter is the product over its least exponent
pub miter_raised : (n : ℕ) (us vs : List Gate) → Raised n (miter n us vs) (undivided n us vs)
unfolding miter undivided
miter_raised n us vs = run_raised n (in_turn us vs) (raised_refl n start)

miter_least : (n : ℕ) (us vs : List Gate) → LeastForm n (miter n us vs)
unfolding miter
miter_least n us vs = run_least n (in_turn us vs) start (start_least n)

pub miter_least_power : (n : ℕ) (us vs : List Gate) (N : Over) → SameMatrix n (miter n us vs) N → (miter n us vs).power ≤ N.power
miter_least_power n us vs N = least_power n (miter n us vs) N (miter_least n us vs)

pub schedule_miter : (n : ℕ) (s : List ℕ) (us vs : List Gate) → fits (length us) (length vs) s ≡ true
    → SameTable n (run n (steps s us vs) start) (miter n us vs)
schedule_miter n s us vs e = least_unique
    (subst (Raised n (run n (steps s us vs) start)) (schedule_undivided n s us vs e) (run_raised n (steps s us vs) (raised_refl n start)))
    (miter_raised n us vs) (run_least n (steps s us vs) start (start_least n)) (miter_least n us vs)

-- without dividing, k is the number of H gates of both lists
multiplied_power : (n : ℕ) (us vs : List Gate) (M : Over) → (multiplied n (in_turn us vs) M).power ≡ M.power + (exponent us + exponent vs)
unfolding stepped
multiplied_power n [] [] M = omega arith
multiplied_power n [] (v ∷ vs) M = let h = multiplied_power n [] vs (stepped n (right (inverse v)) M) in omega (arith, inverse_halves v)
multiplied_power n (u ∷ us) vs M = let h = multiplied_power n us vs (stepped n (left u) M) in omega arith

pub undivided_power : (n : ℕ) (us vs : List Gate) → (undivided n us vs).power ≡ exponent us + exponent vs
unfolding undivided start
undivided_power n us vs = let h = multiplied_power n us vs start in omega arith
