-- Masks: the ones of a mask are the qubits that it names, and a mask is below 2 to the power n just where it names none from n on.
-- Assumes nothing.
use mathlib.Core.Bool.{Bool, true, false, cond, ◌||◌, or-true, or-false, true≢false}
use mathlib.Core.Logic.{◌↔◌}
use mathlib.Core.Path.{◌≡◌, refl, sym, ◌∙◌, ap, ap₂, fun_ext, subst}
use Prim.Native.Nat.{ℕ, zero, suc, ◌+◌, ◌/◌, ◌%◌, ◌^◌, ◌<◌, ◌≤◌}
use native.Mathlib.Nat.{div-one, pow-suc, div-div-eq-div-mul, mul_comm, zero-div}
use native.Mathlib.Omega.{arith}
use lib.Count.{ones, ones_step}
use lib.Dec.{eqb}
use borrow.Author.Tests.{eqb-true, eqb-false, eq-eqb}
use Rattle.gates.specs.Gate.{is, in_mask, Mask}
use Rattle.gates.specs.Mask.{members}

-- ---- the mask's bits, lowest first

pub in_mask_first : (mask : ℕ) → in_mask mask 0 ≡ eqb (mask % 2) 1
in_mask_first mask = ap (λ (m : ℕ). eqb (m % 2) 1) (div-one mask)

pub in_mask_later : (mask q : ℕ) → in_mask mask (suc q) ≡ in_mask (mask / 2) q
in_mask_later mask q = ap (λ (m : ℕ). eqb (m % 2) 1)
    (ap (λ (d : ℕ). mask / d) (pow-suc 2 q ∙ mul_comm (2 ^ q) 2) ∙ sym (div-div-eq-div-mul mask 2 (2 ^ q)))

pub halved : (k mask : ℕ) → mask < 2 ^ suc k → mask / 2 < 2 ^ k
halved k mask h = let two = pow-suc 2 k in omega (arith, h, two)

doubled : (k mask : ℕ) → mask / 2 < 2 ^ k → mask < 2 ^ suc k
doubled k mask h = let two = pow-suc 2 k in omega (arith, h, two)

-- ---- the ones are the named qubits

pub bit_is : (mask : ℕ) (b : Bool) → eqb (mask % 2) 1 ≡ b → mask % 2 ≡ cond b 1 0
bit_is mask true e = eqb-true _ _ e
bit_is mask false e = none (eqb-false _ _ e)
  where
    none : (mask % 2 ≡ 1 → ⊥) → mask % 2 ≡ 0
    none other = omega arith

pub ones_members : (k mask : ℕ) → mask < 2 ^ k → ones mask ≡ members k (in_mask mask)
unfolding ones
ones_members zero mask h = let none : mask ≡ 0 = omega arith in ap ones none
ones_members (suc k) mask h =
    ones_step mask
    ∙ ap₂ ◌+◌ (bit_is mask (eqb (mask % 2) 1) refl ∙ ap (λ (b : Bool). cond b 1 0) (sym (in_mask_first mask)))
    (ones_members k (mask / 2) (halved k mask h) ∙ ap (members k) (sym (fun_ext (in_mask_later mask))))

-- ---- bits at or past a count

pub in_no_mask : (q : ℕ) → in_mask 0 q ≡ false
in_no_mask q = ap (λ (m : ℕ). eqb (m % 2) 1) (zero-div (2 ^ q))

pub mask_below : (n mask q : ℕ) → mask < 2 ^ n → in_mask mask q ≡ true → q < n
mask_below zero mask q h e =
    let none : mask ≡ 0 = omega arith in absurd (true≢false (sym e ∙ ap (λ (m : ℕ). in_mask m q) none ∙ in_no_mask q))
mask_below (suc n) mask zero h e = omega arith
mask_below (suc n) mask (suc q) h e =
    let below = mask_below n (mask / 2) q (halved n mask h) (sym (in_mask_later mask q) ∙ e) in omega arith

-- enough digits for any number: 2 to the power of itself is more
all_below : (fuel mask : ℕ) → mask ≤ fuel → ((q : ℕ) → in_mask mask q ≡ true → q < 0) → mask ≡ 0
all_below zero mask h none = omega arith
all_below (suc fuel) mask h none =
    let rest = all_below fuel (mask / 2) (omega arith) (λ q e. absurd (past q (none (suc q) (in_mask_later mask q ∙ e)))) in
    by_bit (eqb (mask % 2) 1) refl rest
  where
    past : (q : ℕ) → suc q < 0 → ⊥
    past q h = omega arith

    by_bit : (b : Bool) → eqb (mask % 2) 1 ≡ b → mask / 2 ≡ 0 → mask ≡ 0
    by_bit true e rest = let z = none 0 (in_mask_first mask ∙ e) in absurd (past_zero z)
      where
        past_zero : 0 < 0 → ⊥
        past_zero h = omega arith
    by_bit false e rest = even (eqb-false _ _ e)
      where
        even : (mask % 2 ≡ 1 → ⊥) → mask ≡ 0
        even other = omega arith

pub names_below : (n mask : ℕ) → ((q : ℕ) → in_mask mask q ≡ true → q < n) → mask < 2 ^ n
names_below zero mask none = let z = all_below mask mask (omega arith) none in omega arith
names_below (suc n) mask below = doubled n mask (names_below n (mask / 2) (λ q e. one_less q (below (suc q) (in_mask_later mask q ∙ e))))
  where
    one_less : (q : ℕ) → suc q < suc n → q < n
    one_less q h = omega arith

-- "Refusal 8 also holds for a mask bit at or past the qubit count", 17 for too few controls, "by the count of ones in the mask": a mask
-- meets neither just where each qubit that it names is below the count, and at least so many are named
pub mask_iff : (n least mask : ℕ) → Mask n least mask ↔ (((q : ℕ) → in_mask mask q ≡ true → q < n) × (least ≤ members n (in_mask mask)))
mask_iff n least mask = (
  λ m. ((λ q e. mask_below n mask q m.0 e), subst (λ (k : ℕ). least ≤ k) (ones_members n mask m.0) m.1),
  λ m. let below = names_below n mask m.0 in (below, subst (λ (k : ℕ). least ≤ k) (sym (ones_members n mask below)) m.1),
)

-- ---- a qubit more

-- with a qubit that it does not name a mask names that one too
pub in_mask_add : (mask q i : ℕ) → in_mask mask q ≡ false → in_mask (mask + 2 ^ q) i ≡ (in_mask mask i || is q i)
in_mask_add mask zero zero e =
    in_mask_first (mask + 1) ∙ eq-eqb _ _ (one (eqb-false _ _ (sym (in_mask_first mask) ∙ e))) ∙ sym (or-true (in_mask mask 0))
  where
    one : (mask % 2 ≡ 1 → ⊥) → (mask + 1) % 2 ≡ 1
    one other = omega arith
in_mask_add mask zero (suc i) e =
    in_mask_later (mask + 1) i ∙ ap (λ (m : ℕ). in_mask m i) (same (eqb-false _ _ (sym (in_mask_first mask) ∙ e))) ∙ sym (in_mask_later mask i)
    ∙ sym (or-false (in_mask mask (suc i)))
  where
    same : (mask % 2 ≡ 1 → ⊥) → (mask + 1) / 2 ≡ mask / 2
    same other = omega arith
in_mask_add mask (suc q) zero e =
    in_mask_first (mask + 2 ^ suc q) ∙ ap (λ (m : ℕ). eqb m 1) even ∙ sym (in_mask_first mask)
    ∙ sym (or-false (in_mask mask 0))
  where
    even : (mask + 2 ^ suc q) % 2 ≡ mask % 2
    even = let two = pow-suc 2 q in omega (arith, two)
in_mask_add mask (suc q) (suc i) e =
    in_mask_later (mask + 2 ^ suc q) i ∙ ap (λ (m : ℕ). in_mask m i) half
    ∙ in_mask_add (mask / 2) q i (sym (in_mask_later mask q) ∙ e) ∙ ap (λ (b : Bool). b || is q i) (sym (in_mask_later mask i))
  where
    half : (mask + 2 ^ suc q) / 2 ≡ mask / 2 + 2 ^ q
    half = let two = pow-suc 2 q in omega (arith, two)
