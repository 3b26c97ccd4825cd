-- A commutative ring with a square root of one of its elements adjoined: pairs (p, q) for p + q·s, with s·s = t.
-- Assumes nothing.
use mathlib.Core.Path.{◌≡◌}
use Rattle.algebra.proofs.Rings.{CommutativeRing, add_lcomm, mul_lcomm, zero_add, add_mul, mul_zero, add_swap}

pub record Extension (R : Type 0) : Type 0 where
  pub re : R
  pub im : R

module _ {R : Type 0} (𝓡 : CommutativeRing R) (t : R) where
  infixl 60 ◌⊕◌
  infixl 70 ◌⊗◌
  open 𝓡 use {add as ◌⊕◌, mul as ◌⊗◌, neg as ⊖, zero as 𝟘, one as 𝟙}
  open 𝓡 use {add_assoc, add_comm, add_zero, add_neg, mul_assoc, mul_comm, mul_one, mul_add}

  abbrev pub extended_add : Extension R → Extension R → Extension R
  extended_add x y = record { re = x.re ⊕ y.re; im = x.im ⊕ y.im }

  -- (p + q·s)·(p' + q'·s) = (p·p' + t·q·q') + (p·q' + q·p')·s
  abbrev pub extended_mul : Extension R → Extension R → Extension R
  extended_mul x y = record { re = x.re ⊗ y.re ⊕ t ⊗ (x.im ⊗ y.im); im = x.re ⊗ y.im ⊕ x.im ⊗ y.re }

  -- ---- the laws of the product, part by part

  pub assoc_re : (a b c d e f : R)
      → (a ⊗ c ⊕ t ⊗ (b ⊗ d)) ⊗ e ⊕ t ⊗ ((a ⊗ d ⊕ b ⊗ c) ⊗ f) ≡ a ⊗ (c ⊗ e ⊕ t ⊗ (d ⊗ f)) ⊕ t ⊗ (b ⊗ (c ⊗ f ⊕ d ⊗ e))
  assoc_re a b c d e f = simp (mul_add, add_mul 𝓡, mul_assoc, mul_lcomm 𝓡, add_assoc, add_comm, add_lcomm 𝓡)

  pub assoc_im : (a b c d e f : R)
      → (a ⊗ c ⊕ t ⊗ (b ⊗ d)) ⊗ f ⊕ (a ⊗ d ⊕ b ⊗ c) ⊗ e ≡ a ⊗ (c ⊗ f ⊕ d ⊗ e) ⊕ b ⊗ (c ⊗ e ⊕ t ⊗ (d ⊗ f))
  assoc_im a b c d e f = simp (mul_add, add_mul 𝓡, mul_assoc, mul_lcomm 𝓡, add_assoc, add_comm, add_lcomm 𝓡)

  pub add_re : (a b c d e f : R) → a ⊗ (c ⊕ e) ⊕ t ⊗ (b ⊗ (d ⊕ f)) ≡ (a ⊗ c ⊕ t ⊗ (b ⊗ d)) ⊕ (a ⊗ e ⊕ t ⊗ (b ⊗ f))
  add_re a b c d e f = simp mul_add (add_swap 𝓡 (a ⊗ c) (a ⊗ e) (t ⊗ (b ⊗ d)) (t ⊗ (b ⊗ f)))

  pub add_im : (a b c d e f : R) → a ⊗ (d ⊕ f) ⊕ b ⊗ (c ⊕ e) ≡ (a ⊗ d ⊕ b ⊗ c) ⊕ (a ⊗ f ⊕ b ⊗ e)
  add_im a b c d e f = simp mul_add (add_swap 𝓡 (a ⊗ d) (a ⊗ f) (b ⊗ c) (b ⊗ e))

  pub comm_re : (a b c d : R) → a ⊗ c ⊕ t ⊗ (b ⊗ d) ≡ c ⊗ a ⊕ t ⊗ (d ⊗ b)
  comm_re a b c d = simp (mul_comm c a, mul_comm d b)

  pub comm_im : (a b c d : R) → a ⊗ d ⊕ b ⊗ c ≡ c ⊗ b ⊕ d ⊗ a
  comm_im a b c d = simp (mul_comm c b, mul_comm d a, add_comm (b ⊗ c) (a ⊗ d))

  pub one_re : (a b : R) → a ⊗ 𝟙 ⊕ t ⊗ (b ⊗ 𝟘) ≡ a
  one_re a b = simp (mul_one, mul_zero 𝓡, add_zero)

  pub one_im : (a b : R) → a ⊗ 𝟘 ⊕ b ⊗ 𝟙 ≡ b
  one_im a b = simp (mul_one, mul_zero 𝓡, zero_add 𝓡)

  -- ---- the extension is a ring

  abbrev pub extended : CommutativeRing (Extension R)
  extended = record {
    add = extended_add;
    mul = extended_mul;
    neg = λ x. record { re = ⊖ x.re; im = ⊖ x.im };
    zero = record { re = 𝟘; im = 𝟘 };
    one = record { re = 𝟙; im = 𝟘 };
    add_assoc = λ x y z i. record { re = add_assoc x.re y.re z.re i; im = add_assoc x.im y.im z.im i };
    add_comm = λ x y i. record { re = add_comm x.re y.re i; im = add_comm x.im y.im i };
    add_zero = λ x i. record { re = add_zero x.re i; im = add_zero x.im i };
    add_neg = λ x i. record { re = add_neg x.re i; im = add_neg x.im i };
    mul_assoc = λ x y z i. record {
      re = assoc_re x.re x.im y.re y.im z.re z.im i;
      im = assoc_im x.re x.im y.re y.im z.re z.im i;
    };
    mul_comm = λ x y i. record { re = comm_re x.re x.im y.re y.im i; im = comm_im x.re x.im y.re y.im i };
    mul_one = λ x i. record { re = one_re x.re x.im i; im = one_im x.re x.im i };
    mul_add = λ x y z i. record {
      re = add_re x.re x.im y.re y.im z.re z.im i;
      im = add_im x.re x.im y.re y.im z.re z.im i;
    };
  }
