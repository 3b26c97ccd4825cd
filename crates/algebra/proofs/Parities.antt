-- Even whole numbers: sums, halves.
-- Assumes nothing.
use mathlib.Core.Path.{◌≡◌, refl, sym, ◌∙◌, ap, subst, ◌≡⟨◌⟩◌, ◌∎}
use mathlib.Core.Bool.{Bool, true, false, not, beq, not-not}
use Prim.Native.Nat.{ℕ, zero, suc, ◌+◌, ◌/◌, ◌%◌}
use native.Mathlib.Nat.{div-add-mod'}
use native.Mathlib.Omega.{arith}
use borrow.Author.Tests.{eqb-true}
use lib.Dec.{eqb}
use lib.IntN.{ℤ, pos, negsuc, suc_ℤ, pred_ℤ, neg_ℤ, ◌+ℤ◌, neg_ℤ-+ℤ}
use lib.IntN.{+ℤ_idl, +ℤ_one, -ℤ_one, suc_ℤ-+ℤ, pred_ℤ-+ℤ, ℤ_ind, suc-pred}
use Rattle.algebra.specs.Division.{even, half}

-- ---- natural numbers

-- an even number, or one more than an even number
data Parity (n : ℕ) : Type 0 where
  evenly : (m : ℕ) → n ≡ m + m → Parity n
  oddly : (m : ℕ) → n ≡ suc (m + m) → Parity n

parity : (n : ℕ) → Parity n
parity zero = evenly 0 refl
parity (suc n) = next (parity n)
  where
    next : Parity n → Parity (suc n)
    next (evenly m e) = oddly m (omega arith)
    next (oddly m e) = evenly (suc m) (omega arith)

twice_rest : (m : ℕ) → (m + m) % 2 ≡ 0
twice_rest m = omega arith

odd_rest : (m : ℕ) → suc (m + m) % 2 ≡ 1
odd_rest m = omega arith

even_twice : (m : ℕ) → eqb ((m + m) % 2) 0 ≡ true
even_twice m = rw (twice_rest m)

odd_twice : (m : ℕ) → eqb (suc (m + m) % 2) 0 ≡ false
odd_twice m = rw (odd_rest m)

even_suc : (n : ℕ) → eqb (suc n % 2) 0 ≡ not (eqb (n % 2) 0)
even_suc n = by (parity n)
  where
    by : Parity n → eqb (suc n % 2) 0 ≡ not (eqb (n % 2) 0)
    by (evenly m e) = ap (λ (k : ℕ). eqb (suc k % 2) 0) e ∙ odd_twice m ∙ ap not (sym (ap (λ (k : ℕ). eqb (k % 2) 0) e ∙ even_twice m))
    by (oddly m e) =
        let more : suc n ≡ suc m + suc m = omega arith in
        ap (λ (k : ℕ). eqb (k % 2) 0) more ∙ even_twice (suc m) ∙ ap not (sym (ap (λ (k : ℕ). eqb (k % 2) 0) e ∙ odd_twice m))

-- ---- whole numbers: a step up or down, and sums

even_sucℤ : (z : ℤ) → even (suc_ℤ z) ≡ not (even z)
unfolding even
even_sucℤ (pos n) = even_suc n
even_sucℤ (negsuc zero) = refl
even_sucℤ (negsuc (suc n)) = sym (ap not (even_suc (suc n)) ∙ not-not (eqb (suc n % 2) 0))

even_predℤ : (z : ℤ) → even (pred_ℤ z) ≡ not (even z)
even_predℤ z = sym (not-not (even (pred_ℤ z))) ∙ ap not (sym (even_sucℤ (pred_ℤ z)) ∙ ap even (suc-pred z))

-- induction by successor and predecessor
by_steps : (P : ℤ → Type 0) → P (pos 0) → ((k : ℤ) → P k → P (suc_ℤ k)) → ((k : ℤ) → P k → P (pred_ℤ k)) → (k : ℤ) → P k
by_steps P z s p k =
    ℤ_ind P z (λ n h. subst P (sym (+ℤ_one (pos n))) (s (pos n) h)) (λ n h. subst P (sym (-ℤ_one (neg_ℤ (pos n)))) (p (neg_ℤ (pos n)) h)) k

beq_not : (a b : Bool) → beq (not a) b ≡ not (beq a b)
beq_not true true = refl
beq_not true false = refl
beq_not false true = refl
beq_not false false = refl

beq_true : (b : Bool) → beq true b ≡ b
beq_true true = refl
beq_true false = refl

even_zero : even (pos 0) ≡ true
unfolding even
even_zero = refl

pub even-+ : (x y : ℤ) → even (x +ℤ y) ≡ beq (even x) (even y)
even-+ x y = by_steps Law start (carried suc_ℤ (λ k. suc_ℤ-+ℤ k y) even_sucℤ) (carried pred_ℤ (λ k. pred_ℤ-+ℤ k y) even_predℤ) x
  where
    Law : ℤ → Type 0
    Law k = even (k +ℤ y) ≡ beq (even k) (even y)

    start : Law (pos 0)
    start = ap even (+ℤ_idl y) ∙ sym (beq_true (even y)) ∙ ap (λ (b : Bool). beq b (even y)) (sym even_zero)

    carried : (step : ℤ → ℤ) → ((k : ℤ) → step k +ℤ y ≡ step (k +ℤ y)) → ((k : ℤ) → even (step k) ≡ not (even k)) → (k : ℤ) → Law k → Law (step k)
    carried step sum flips k h =
        even (step k +ℤ y) ≡⟨ ap even (sum k) ∙ flips (k +ℤ y) ∙ ap not h ⟩
        not (beq (even k) (even y)) ≡⟨ sym (beq_not (even k) (even y)) ∙ ap (λ (b : Bool). beq b (even y)) (sym (flips k)) ⟩
        beq (even (step k)) (even y) ∎

pub even_neg : (z : ℤ) → even (neg_ℤ z) ≡ even z
unfolding even
even_neg (pos zero) = refl
even_neg (pos (suc n)) = refl
even_neg (negsuc n) = refl

-- ---- halves

beq_self : (b : Bool) → beq b b ≡ true
beq_self true = refl
beq_self false = refl

pub even_double : (z : ℤ) → even (z +ℤ z) ≡ true
even_double z = even-+ z z ∙ beq_self (even z)

half_twice : (n : ℕ) → eqb (n % 2) 0 ≡ true → n / 2 + n / 2 ≡ n
half_twice n e = let rest = eqb-true (n % 2) 0 e in omega (arith, div-add-mod' n 2)

pub half_double : (z : ℤ) → even z ≡ true → half z +ℤ half z ≡ z
unfolding even half
half_double (pos n) e = ap pos (half_twice n e)
half_double (negsuc n) e = sym (neg_ℤ-+ℤ (pos (suc n / 2)) (pos (suc n / 2))) ∙ ap (λ (k : ℕ). neg_ℤ (pos k)) (half_twice (suc n) e)
