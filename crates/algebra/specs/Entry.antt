-- Entries and their arithmetic, in whole numbers of any size. Definitions only; their laws are in proofs/Entries.antt.
use Rattle.std.specs.Prelude.{ℤ, pos, neg_ℤ, ◌+ℤ◌, ◌-ℤ◌, ◌*ℤ◌, ℕ, zero, suc}
use Rattle.algebra.specs.declared.Entry.{Entry}

-- "An entry is four whole numbers (a, b, c, d), meaning a·w8³ + b·w8² + c·w8 + d." The code's struct is that record, over ℤ.
abbrev pub entry : ℤ → ℤ → ℤ → ℤ → Entry
entry a b c d = record { a = a; b = b; c = c; d = d }

unfoldable pub 𝟘 : Entry
𝟘 = entry (pos 0) (pos 0) (pos 0) (pos 0)

unfoldable pub 𝟙 : Entry
𝟙 = entry (pos 0) (pos 0) (pos 0) (pos 1)

-- ---- sums

infixl 60 ◌⊕◌
unfoldable pub ◌⊕◌ : Entry → Entry → Entry
x ⊕ y = entry (x.a +ℤ y.a) (x.b +ℤ y.b) (x.c +ℤ y.c) (x.d +ℤ y.d)

unfoldable pub neg : Entry → Entry
neg x = entry (neg_ℤ x.a) (neg_ℤ x.b) (neg_ℤ x.c) (neg_ℤ x.d)

infixl 60 ◌⊖◌
unfoldable pub ◌⊖◌ : Entry → Entry → Entry
x ⊖ y = entry (x.a -ℤ y.a) (x.b -ℤ y.b) (x.c -ℤ y.c) (x.d -ℤ y.d)

-- ---- products

-- the product of the two polynomials in w8, with w8⁴ = −1
infixl 70 ◌⊗◌
unfoldable pub ◌⊗◌ : Entry → Entry → Entry
x ⊗ y = entry
    (x.a *ℤ y.d +ℤ x.b *ℤ y.c +ℤ x.c *ℤ y.b +ℤ x.d *ℤ y.a)
    (x.b *ℤ y.d +ℤ x.c *ℤ y.c +ℤ x.d *ℤ y.b -ℤ x.a *ℤ y.a)
    (x.c *ℤ y.d +ℤ x.d *ℤ y.c -ℤ (x.a *ℤ y.b +ℤ x.b *ℤ y.a))
    (x.d *ℤ y.d -ℤ (x.a *ℤ y.c +ℤ x.b *ℤ y.b +ℤ x.c *ℤ y.a))

-- "Times w8: (b, c, d, −a)."
unfoldable pub times_w8 : Entry → Entry
times_w8 x = entry x.b x.c x.d (neg_ℤ x.a)

-- "Times its inverse: (−d, a, b, c)."
unfoldable pub times_w8⁻¹ : Entry → Entry
times_w8⁻¹ x = entry (neg_ℤ x.d) x.a x.b x.c

-- "Times √2: (b − d, a + c, b + d, c − a)."
unfoldable pub times_√2 : Entry → Entry
times_√2 x = entry (x.b -ℤ x.d) (x.a +ℤ x.c) (x.b +ℤ x.d) (x.c -ℤ x.a)

-- times w8 to the power j
unfoldable pub turned : ℕ → Entry → Entry
turned zero x = x
turned (suc j) x = times_w8 (turned j x)

-- w8 to the power j
abbrev pub w8^ : ℕ → Entry
w8^ j = turned j 𝟙

-- √2 to the power k
unfoldable pub √2^ : ℕ → Entry
√2^ zero = 𝟙
√2^ (suc k) = times_√2 (√2^ k)
