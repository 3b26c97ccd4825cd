-- Commutative rings, and what follows from their laws. In a section over one, `simp` with the laws of associativity,
-- commutativity and distributivity decides equations of polynomials.
-- Assumes nothing.
use mathlib.Core.Path.{◌≡◌, sym, ◌∙◌, ap, ◌≡⟨◌⟩◌, ◌∎}

pub record CommutativeRing (R : Type 0) : Type 0 where
  pub add : R → R → R
  pub mul : R → R → R
  pub neg : R → R
  pub zero : R
  pub one : R
  pub add_assoc : (a b c : R) → add (add a b) c ≡ add a (add b c)
  pub add_comm : (a b : R) → add a b ≡ add b a
  pub add_zero : (a : R) → add a zero ≡ a
  pub add_neg : (a : R) → add a (neg a) ≡ zero
  pub mul_assoc : (a b c : R) → mul (mul a b) c ≡ mul a (mul b c)
  pub mul_comm : (a b : R) → mul a b ≡ mul b a
  pub mul_one : (a : R) → mul a one ≡ a
  pub mul_add : (a b c : R) → mul a (add b c) ≡ add (mul a b) (mul a c)

module _ {R : Type 0} (𝓡 : CommutativeRing R) where
  infixl 60 ◌⊕◌
  infixl 70 ◌⊗◌
  open 𝓡 use {add as ◌⊕◌, mul as ◌⊗◌, neg as ⊖, zero as 𝟘, one as 𝟙}
  open 𝓡 use {add_assoc, add_comm, add_zero, add_neg, mul_assoc, mul_comm, mul_one, mul_add}

  -- ---- the laws from the other side, and those that move a part to the front

  pub add_lcomm : (a b c : R) → a ⊕ (b ⊕ c) ≡ b ⊕ (a ⊕ c)
  add_lcomm a b c = rw (← add_assoc a b c, add_comm a b, add_assoc b a c)

  pub mul_lcomm : (a b c : R) → a ⊗ (b ⊗ c) ≡ b ⊗ (a ⊗ c)
  mul_lcomm a b c = rw (← mul_assoc a b c, mul_comm a b, mul_assoc b a c)

  pub add_swap : (a b c d : R) → (a ⊕ b) ⊕ (c ⊕ d) ≡ (a ⊕ c) ⊕ (b ⊕ d)
  add_swap a b c d = simp (add_assoc, add_lcomm b c d)

  pub zero_add : (a : R) → 𝟘 ⊕ a ≡ a
  zero_add a = add_comm 𝟘 a ∙ add_zero a

  pub neg_add : (a : R) → ⊖ a ⊕ a ≡ 𝟘
  neg_add a = add_comm (⊖ a) a ∙ add_neg a

  pub add_mul : (a b c : R) → (a ⊕ b) ⊗ c ≡ a ⊗ c ⊕ b ⊗ c
  add_mul a b c = simp (mul_comm (a ⊕ b) c, mul_add, mul_comm c a, mul_comm c b)

  pub one_mul : (a : R) → 𝟙 ⊗ a ≡ a
  one_mul a = mul_comm 𝟙 a ∙ mul_one a

  -- ---- cancelling, zero and negatives

  pub add_undone : (a x : R) → ⊖ a ⊕ (a ⊕ x) ≡ x
  add_undone a x = sym (add_assoc (⊖ a) a x) ∙ ap (λ y. y ⊕ x) (neg_add a) ∙ zero_add x

  pub add_cancel : (a b c : R) → a ⊕ b ≡ a ⊕ c → b ≡ c
  add_cancel a b c e =
      b ≡⟨ sym (add_undone a b) ⟩
      ⊖ a ⊕ (a ⊕ b) ≡⟨ ap (λ x. ⊖ a ⊕ x) e ⟩
      ⊖ a ⊕ (a ⊕ c) ≡⟨ add_undone a c ⟩
      c ∎

  pub mul_zero : (a : R) → a ⊗ 𝟘 ≡ 𝟘
  mul_zero a = add_cancel (a ⊗ 𝟘) (a ⊗ 𝟘) 𝟘 (sym (mul_add a 𝟘 𝟘) ∙ ap (λ x. a ⊗ x) (add_zero 𝟘) ∙ sym (add_zero (a ⊗ 𝟘)))

  pub zero_mul : (a : R) → 𝟘 ⊗ a ≡ 𝟘
  zero_mul a = mul_comm 𝟘 a ∙ mul_zero a

  pub neg_unique : (a b : R) → a ⊕ b ≡ 𝟘 → b ≡ ⊖ a
  neg_unique a b e = add_cancel a b (⊖ a) (e ∙ sym (add_neg a))

  pub mul_neg : (a b : R) → a ⊗ ⊖ b ≡ ⊖ (a ⊗ b)
  mul_neg a b = neg_unique (a ⊗ b) (a ⊗ ⊖ b) (sym (mul_add a b (⊖ b)) ∙ ap (λ x. a ⊗ x) (add_neg b) ∙ mul_zero a)

  pub neg_mul : (a b : R) → ⊖ a ⊗ b ≡ ⊖ (a ⊗ b)
  neg_mul a b = mul_comm (⊖ a) b ∙ mul_neg b a ∙ ap ⊖ (mul_comm b a)

  pub neg_neg : (a : R) → ⊖ (⊖ a) ≡ a
  neg_neg a = sym (neg_unique (⊖ a) a (neg_add a))

  pub neg_sum : (a b : R) → ⊖ (a ⊕ b) ≡ ⊖ a ⊕ ⊖ b
  neg_sum a b = sym (neg_unique (a ⊕ b) (⊖ a ⊕ ⊖ b) (simp (add_assoc, add_lcomm b (⊖ a) (⊖ b), add_neg b, add_zero, add_neg)))

  pub neg_zero : ⊖ 𝟘 ≡ 𝟘
  neg_zero = sym (neg_unique 𝟘 𝟘 (add_zero 𝟘))

  pub equal_of_difference : (a b : R) → a ⊕ ⊖ b ≡ 𝟘 → a ≡ b
  equal_of_difference a b e = add_cancel (⊖ b) a b (add_comm (⊖ b) a ∙ e ∙ sym (neg_add b))
