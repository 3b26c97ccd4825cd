-- Sums over all bit lists of a length, and equality of bit lists.
-- Assumes nothing.
use mathlib.Core.Path.{◌≡◌, refl, sym, ◌∙◌, ap, ap₂}
use mathlib.Core.Bool.{Bool, true, false, cond, beq, true≢false}
use mathlib.Core.List.{[], ◌∷◌}
use Prim.Native.Nat.{ℕ, zero, suc}
use native.Mathlib.Omega.{arith}
use lib.ListN.{length}
use Rattle.algebra.specs.declared.Entry.{Entry}
use Rattle.algebra.specs.Entry.{𝟘, ◌⊕◌, ◌⊗◌}
use Rattle.algebra.specs.Matrix.{Bits, total, same}
use Rattle.algebra.proofs.Rings.{zero_add, add_swap}
use Rattle.algebra.proofs.Entries.{entries, ⊗-comm, ⊗-⊕, ⊕-zero}

-- ---- equality of bit lists

pub beq_sym : (x y : Bool) → beq x y ≡ beq y x
beq_sym true true = refl
beq_sym true false = refl
beq_sym false true = refl
beq_sym false false = refl

pub same_refl : (r : Bits) → same r r ≡ true
same_refl [] = refl
same_refl (true ∷ r) = same_refl r
same_refl (false ∷ r) = same_refl r

pub same_sym : (r c : Bits) → same r c ≡ same c r
same_sym [] [] = refl
same_sym [] (y ∷ c) = refl
same_sym (x ∷ r) [] = refl
same_sym (x ∷ r) (y ∷ c) = rw (beq_sym x y, same_sym r c)

pub same_sound : (r c : Bits) → same r c ≡ true → r ≡ c
same_sound [] [] e = refl
same_sound [] (y ∷ c) e = absurd (true≢false (sym e))
same_sound (x ∷ r) [] e = absurd (true≢false (sym e))
same_sound (true ∷ r) (true ∷ c) e = ap (λ l. true ∷ l) (same_sound r c e)
same_sound (true ∷ r) (false ∷ c) e = absurd (true≢false (sym e))
same_sound (false ∷ r) (true ∷ c) e = absurd (true≢false (sym e))
same_sound (false ∷ r) (false ∷ c) e = ap (λ l. false ∷ l) (same_sound r c e)

-- ---- sums

-- f where the first bit is b
abbrev pub at_bit : Bool → (Bits → Entry) → Bits → Entry
at_bit b f l = f (b ∷ l)

pub total_ext : (n : ℕ) (f g : Bits → Entry) → ((l : Bits) → length l ≡ n → f l ≡ g l) → total n f ≡ total n g
unfolding total
total_ext zero f g h = h [] refl
total_ext (suc n) f g h =
    ap₂ ◌⊕◌ (total_ext n (at_bit false f) (at_bit false g) (λ l e. h (false ∷ l) (ap suc e)))
    (total_ext n (at_bit true f) (at_bit true g) (λ l e. h (true ∷ l) (ap suc e)))

pub total_zero : (n : ℕ) → total n (λ l. 𝟘) ≡ 𝟘
unfolding total
total_zero zero = refl
total_zero (suc n) = ap₂ ◌⊕◌ (total_zero n) (total_zero n) ∙ ⊕-zero 𝟘

total-⊕ : (n : ℕ) (f g : Bits → Entry) → total n (λ l. f l ⊕ g l) ≡ total n f ⊕ total n g
unfolding total
total-⊕ zero f g = refl
total-⊕ (suc n) f g =
    ap₂ ◌⊕◌ (total-⊕ n (at_bit false f) (at_bit false g)) (total-⊕ n (at_bit true f) (at_bit true g))
    ∙ add_swap entries (total n (at_bit false f)) (total n (at_bit false g)) (total n (at_bit true f)) (total n (at_bit true g))

pub ⊗-total : (n : ℕ) (x : Entry) (f : Bits → Entry) → x ⊗ total n f ≡ total n (λ l. x ⊗ f l)
unfolding total
⊗-total zero x f = refl
⊗-total (suc n) x f =
    ⊗-⊕ x (total n (at_bit false f)) (total n (at_bit true f))
    ∙ ap₂ ◌⊕◌ (⊗-total n x (at_bit false f)) (⊗-total n x (at_bit true f))

pub total-⊗ : (n : ℕ) (x : Entry) (f : Bits → Entry) → total n f ⊗ x ≡ total n (λ l. f l ⊗ x)
total-⊗ n x f = ⊗-comm (total n f) x ∙ ⊗-total n x f ∙ total_ext n (λ l. x ⊗ f l) (λ l. f l ⊗ x) (λ l e. ⊗-comm x (f l))

pub total_swap : (n m : ℕ) (f : Bits → Bits → Entry) → total n (λ k. total m (λ l. f k l)) ≡ total m (λ l. total n (λ k. f k l))
unfolding total
total_swap zero m f = refl
total_swap (suc n) m f =
    ap₂ ◌⊕◌ (total_swap n m (λ k l. f (false ∷ k) l)) (total_swap n m (λ k l. f (true ∷ k) l))
    ∙ sym (total-⊕ m (λ l. total n (λ k. f (false ∷ k) l)) (λ l. total n (λ k. f (true ∷ k) l)))

-- one term only, that of r
pub total_pick : (n : ℕ) (r : Bits) (f : Bits → Entry) → length r ≡ n → total n (λ l. cond (same r l) (f l) 𝟘) ≡ f r
unfolding total
total_pick zero [] f e = refl
total_pick (suc n) [] f e = absurd (omega arith)
total_pick zero (x ∷ r) f e = absurd (omega arith)
total_pick (suc n) (false ∷ r) f e = ap₂ ◌⊕◌ (total_pick n r (at_bit false f) (omega arith)) (total_zero n) ∙ ⊕-zero (f (false ∷ r))
total_pick (suc n) (true ∷ r) f e = ap₂ ◌⊕◌ (total_zero n) (total_pick n r (at_bit true f) (omega arith)) ∙ zero_add entries (f (true ∷ r))
