-- The whole numbers are a commutative ring in which only 0 is its own negative.
-- Assumes nothing.
use mathlib.Core.Path.{◌≡◌, refl, sym, ◌∙◌, ap, ap₂, subst, ◌≡⟨◌⟩◌, ◌∎}
use Prim.Native.Nat.{ℕ, zero, suc, ◌+◌, ◌*◌}
use native.Mathlib.Omega.{arith}
use lib.IntN.{ℤ, pos, negsuc, suc_ℤ, pred_ℤ, neg_ℤ, one, ◌+ℤ◌, ◌*ℤ◌, nat_abs, neg_ℤ-neg_ℤ}
use lib.IntN.{+ℤ_idl, +ℤ_idr, +ℤ_one, -ℤ_one, +ℤ_assoc, +ℤ_comm, +ℤ_invr, suc_ℤ-+ℤ, pred_ℤ-+ℤ, ℤ_ind}
use lib.IntN.{zero-*ℤ, *ℤ-one, *ℤ_comm, suc_ℤ-*ℤ, pred_ℤ-*ℤ}
use Rattle.algebra.proofs.Rings.{CommutativeRing}

-- induction by successor and predecessor
by_steps : (P : ℤ → Type 0) → P (pos 0) → ((k : ℤ) → P k → P (suc_ℤ k)) → ((k : ℤ) → P k → P (pred_ℤ k)) → (k : ℤ) → P k
by_steps P z s p k =
    ℤ_ind P z (λ n h. subst P (sym (+ℤ_one (pos n))) (s (pos n) h)) (λ n h. subst P (sym (-ℤ_one (neg_ℤ (pos n)))) (p (neg_ℤ (pos n)) h)) k

-- ---- the product: each law is carried by a step up and by a step down in its first factor, which adds c or −c to x·c

add-*ℤ : (a b c : ℤ) → (a +ℤ b) *ℤ c ≡ a *ℤ c +ℤ b *ℤ c
add-*ℤ a b c =
    by_steps Law start
    (carried suc_ℤ c (λ k. suc_ℤ-+ℤ k b) (λ k. suc_ℤ-*ℤ k c))
    (carried pred_ℤ (neg_ℤ c) (λ k. pred_ℤ-+ℤ k b) (λ k. pred_ℤ-*ℤ k c)) a
  where
    Law : ℤ → Type 0
    Law k = (k +ℤ b) *ℤ c ≡ k *ℤ c +ℤ b *ℤ c

    start : Law (pos 0)
    start = ap (λ x. x *ℤ c) (+ℤ_idl b) ∙ sym (+ℤ_idl (b *ℤ c)) ∙ ap (λ x. x +ℤ b *ℤ c) (sym (zero-*ℤ c))

    last_to_middle : (x y z : ℤ) → x +ℤ y +ℤ z ≡ x +ℤ z +ℤ y
    last_to_middle x y z = +ℤ_assoc x y z ∙ ap (λ w. x +ℤ w) (+ℤ_comm y z) ∙ sym (+ℤ_assoc x z y)

    carried : (step : ℤ → ℤ) (d : ℤ) → ((k : ℤ) → step k +ℤ b ≡ step (k +ℤ b)) → ((k : ℤ) → step k *ℤ c ≡ k *ℤ c +ℤ d)
        → (k : ℤ) → Law k → Law (step k)
    carried step d sum product k h =
        (step k +ℤ b) *ℤ c ≡⟨ ap (λ x. x *ℤ c) (sum k) ∙ product (k +ℤ b) ⟩
        (k +ℤ b) *ℤ c +ℤ d ≡⟨ ap (λ x. x +ℤ d) h ∙ last_to_middle (k *ℤ c) (b *ℤ c) d ⟩
        k *ℤ c +ℤ d +ℤ b *ℤ c ≡⟨ ap (λ x. x +ℤ b *ℤ c) (sym (product k)) ⟩
        step k *ℤ c +ℤ b *ℤ c ∎

pub *ℤ_add : (a b c : ℤ) → a *ℤ (b +ℤ c) ≡ a *ℤ b +ℤ a *ℤ c
*ℤ_add a b c = *ℤ_comm a (b +ℤ c) ∙ add-*ℤ b c a ∙ ap₂ ◌+ℤ◌ (*ℤ_comm b a) (*ℤ_comm c a)

neg-*ℤ : (a b : ℤ) → neg_ℤ a *ℤ b ≡ neg_ℤ (a *ℤ b)
neg-*ℤ (pos zero) b = zero-*ℤ b ∙ ap neg_ℤ (sym (zero-*ℤ b))
neg-*ℤ (pos (suc m)) (pos n) = refl
neg-*ℤ (pos (suc m)) (negsuc n) = sym (neg_ℤ-neg_ℤ (pos (suc m * suc n)))
neg-*ℤ (negsuc m) (pos n) = sym (neg_ℤ-neg_ℤ (pos (suc m * n)))
neg-*ℤ (negsuc m) (negsuc n) = refl

pub *ℤ_assoc : (a b c : ℤ) → (a *ℤ b) *ℤ c ≡ a *ℤ (b *ℤ c)
*ℤ_assoc a b c = by_steps Law start (carried suc_ℤ (λ x. x) suc_ℤ-*ℤ refl) (carried pred_ℤ neg_ℤ pred_ℤ-*ℤ (neg-*ℤ b c)) a
  where
    Law : ℤ → Type 0
    Law k = (k *ℤ b) *ℤ c ≡ k *ℤ (b *ℤ c)

    start : Law (pos 0)
    start = ap (λ x. x *ℤ c) (zero-*ℤ b) ∙ zero-*ℤ c ∙ sym (zero-*ℤ (b *ℤ c))

    carried : (step sign : ℤ → ℤ) → ((k x : ℤ) → step k *ℤ x ≡ k *ℤ x +ℤ sign x) → sign b *ℤ c ≡ sign (b *ℤ c) → (k : ℤ) → Law k → Law (step k)
    carried step sign product signed k h =
        (step k *ℤ b) *ℤ c ≡⟨ ap (λ x. x *ℤ c) (product k b) ∙ add-*ℤ (k *ℤ b) (sign b) c ⟩
        (k *ℤ b) *ℤ c +ℤ sign b *ℤ c ≡⟨ ap₂ ◌+ℤ◌ h signed ⟩
        k *ℤ (b *ℤ c) +ℤ sign (b *ℤ c) ≡⟨ sym (product k (b *ℤ c)) ⟩
        step k *ℤ (b *ℤ c) ∎

pub *ℤ_one_right : (a : ℤ) → a *ℤ pos 1 ≡ a
unfolding one
*ℤ_one_right a = *ℤ-one a

abbrev pub integers : CommutativeRing ℤ
integers = record {
  add = ◌+ℤ◌;
  mul = ◌*ℤ◌;
  neg = neg_ℤ;
  zero = pos 0;
  one = pos 1;
  add_assoc = +ℤ_assoc;
  add_comm = +ℤ_comm;
  add_zero = +ℤ_idr;
  add_neg = +ℤ_invr;
  mul_assoc = *ℤ_assoc;
  mul_comm = *ℤ_comm;
  mul_one = *ℤ_one_right;
  mul_add = *ℤ_add;
}

-- ---- no 2-torsion

pub double_zero : (a : ℤ) → a +ℤ a ≡ pos 0 → a ≡ pos 0
double_zero (pos n) e = ap pos (half n (ap nat_abs e))
  where
    half : (n : ℕ) → n + n ≡ 0 → n ≡ 0
    half n h = omega arith
double_zero (negsuc n) e = let impossible : ◌≡◌ {A = ℕ} 0 1 = cc in absurd (omega arith)
