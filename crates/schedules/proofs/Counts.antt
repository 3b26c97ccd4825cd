-- Counting the steps of a schedule: its zeros and its ones are all its bytes exactly if it has no other. Assumes nothing.
use mathlib.Core.Path.{◌≡◌, refl, sym, ap, ◌∙◌}
use mathlib.Core.Bool.{Bool, false, cond, ◌&&◌}
use mathlib.Core.List.{List, [], ◌∷◌}
use Prim.Native.Nat.{ℕ, zero, suc, ◌+◌, ◌≤◌}
use native.Mathlib.Omega.{arith}
use borrow.Author.Tests.{ne_eqb, lt-leb}
use lib.Dec.{eqb, leb}
use lib.ListN.{length}
use Rattle.std.specs.List.{count_by, list_all}
use Rattle.std.proofs.lemmas.Bool.Decides.{nat_tests}
use Rattle.std.proofs.lemmas.List.Recursion.{is_count_by}
use Rattle.schedules.specs.Schedule.{count, only_steps, fits}

pub counted : (b : ℕ) (s : List ℕ) → count_by (λ x. eqb x b) s ≡ count b s
counted b s = sym (is_count_by (count b) (λ x. eqb x b) refl step s)
  where
    step : (x : ℕ) (s : List ℕ) → count b (x ∷ s) ≡ cond (eqb x b) (1 + count b s) (count b s)
    step x s = ap (λ (k : ℕ). cond (eqb x b) k (count b s)) (omega arith)

other : (b x : ℕ) (s : List ℕ) → (x ≡ b → ⊥) → count b (x ∷ s) ≡ count b s
other b x s ne = ap (λ (t : Bool). cond t (suc (count b s)) (count b s)) (ne_eqb x b ne)

few : (s : List ℕ) → count 0 s + count 1 s ≤ length s
few [] = omega arith
few (zero ∷ s) = omega (arith, few s)
few (suc zero ∷ s) = omega (arith, few s)
few (suc (suc x) ∷ s) = omega (arith, few s, other 0 (suc (suc x)) s (λ e. omega arith), other 1 (suc (suc x)) s (λ e. omega arith))

-- one step more
one_more : (k a n : ℕ) → k ≡ suc a → eqb k (suc n) ≡ eqb a n
one_more k a n e = grind (arith, nat_tests)

only_counted : (s : List ℕ) → eqb (count 0 s + count 1 s) (length s) ≡ only_steps s
only_counted [] = refl
only_counted (zero ∷ s) = one_more _ (count 0 s + count 1 s) (length s) (omega arith) ∙ only_counted s
only_counted (suc zero ∷ s) = one_more _ (count 0 s + count 1 s) (length s) (omega arith) ∙ only_counted s
only_counted (suc (suc x) ∷ s) =
    let all : eqb (count 0 (suc (suc x) ∷ s) + count 1 (suc (suc x) ∷ s)) (suc (length s)) ≡ false =
    ne_eqb _ _ (λ e. omega (arith, few s, other 0 (suc (suc x)) s (λ e. omega arith), other 1 (suc (suc x)) s (λ e. omega arith))) in
    all ∙ sym (ap (λ (b : Bool). b && only_steps s) (lt-leb (suc (suc x)) 1 (omega arith)))

pub all_steps : (s : List ℕ) → list_all (λ x. leb x 1) s ≡ only_steps s
all_steps [] = refl
all_steps (x ∷ s) = ap (◌&&◌ (leb x 1)) (all_steps s)

-- of a schedule without another byte and of the right length, the zeros alone need to be counted
pub fitted : (m p : ℕ) (s : List ℕ) → (eqb (length s) (m + p) && (only_steps s && eqb (count 0 s) m)) ≡ fits m p s
unfolding fits
fitted m p s = by_steps (only_steps s) (only_counted s)
  where
    by_steps : (only : Bool) → eqb (count 0 s + count 1 s) (length s) ≡ only
        → (eqb (length s) (m + p) && (only && eqb (count 0 s) m)) ≡ (eqb (count 0 s) m && (eqb (count 1 s) p && only))
    by_steps only is = grind (arith, nat_tests)
