-- An entry is a multiple of √2 exactly if a + c and b + d are even; then `over_√2` is the one entry that it is √2 times.
-- Assumes nothing.
use mathlib.Core.Path.{◌≡◌, refl, sym, ◌∙◌, ap, ap₂}
use mathlib.Core.Bool.{true, ◌&&◌, beq, and-eq-true_iff}
use mathlib.Core.List.{List, [], ◌∷◌, map}
use lib.IntN.{ℤ, neg_ℤ, ◌+ℤ◌, ◌-ℤ◌, +ℤ_comm}
use Rattle.algebra.specs.declared.Entry.{Entry}
use Rattle.algebra.specs.Entry.{◌⊕◌, times_√2}
use Rattle.algebra.proofs.Rings.{CommutativeRing, add_undone}
use Rattle.algebra.proofs.Integers.{integers}
use Rattle.algebra.proofs.Entries.{by_parts, times_√2_is, times_√2_twice, √2^_cancel}
use Rattle.algebra.specs.Division.{even, divisible, over_√2}
use Rattle.algebra.proofs.Parities.{even-+, even_neg, even_double, half_double}

module _ {R : Type 0} (𝓡 : CommutativeRing R) where
  infixl 60 ◌+◌
  open 𝓡 use {add as ◌+◌, neg as −, add_assoc, add_comm}

  -- (p − q) + (p + q) is twice p, and so on
  twice_first : (p q : R) → (p + − q) + (p + q) ≡ p + p
  twice_first p q = add_assoc p (− q) (p + q) ∙ ap (◌+◌ p) (ap (◌+◌ (− q)) (add_comm p q) ∙ add_undone 𝓡 q p)

  twice_second : (p q : R) → (p + q) + (q + − p) ≡ q + q
  twice_second p q = add_comm (p + q) (q + − p) ∙ ap (◌+◌ (q + − p)) (add_comm p q) ∙ twice_first q p

-- ---- the test

even-- : (x y : ℤ) → even (x -ℤ y) ≡ even (x +ℤ y)
even-- x y = even-+ x (neg_ℤ y) ∙ ap (beq (even x)) (even_neg y) ∙ sym (even-+ x y)

pub times_√2_divisible : (y : Entry) → divisible (times_√2 y) ≡ true
unfolding times_√2
times_√2_divisible y =
    ap₂ ◌&&◌ (ap even (twice_first integers y.b y.d) ∙ even_double y.b)
    (ap even (twice_second integers y.a y.c) ∙ even_double y.c)

over_double : (x : Entry) → divisible x ≡ true → over_√2 x ⊕ over_√2 x ≡ times_√2 x
unfolding over_√2 times_√2 ◌⊕◌
over_double x e =
    let (ac, bd) = (and-eq-true_iff (even (x.a +ℤ x.c)) (even (x.b +ℤ x.d))).0 e in
    by_parts (
      half_double (x.b -ℤ x.d) (even-- x.b x.d ∙ bd),
      half_double (x.a +ℤ x.c) ac,
      half_double (x.b +ℤ x.d) bd,
      half_double (x.c -ℤ x.a) (even-- x.c x.a ∙ ap even (+ℤ_comm x.c x.a) ∙ ac),
    )

-- ---- √2 cancels

pub times_√2_injective : (x y : Entry) → times_√2 x ≡ times_√2 y → x ≡ y
times_√2_injective x y e = √2^_cancel 1 x y (sym (times_√2_is x) ∙ e ∙ times_√2_is y)

pub times_over : (x : Entry) → divisible x ≡ true → times_√2 (over_√2 x) ≡ x
times_over x e = times_√2_injective (times_√2 (over_√2 x)) x (times_√2_twice (over_√2 x) ∙ over_double x e)

pub over_times : (y : Entry) → over_√2 (times_√2 y) ≡ y
over_times y = times_√2_injective (over_√2 (times_√2 y)) y (times_over (times_√2 y) (times_√2_divisible y))

pub map_over_times : (vs : List Entry) → map over_√2 (map times_√2 vs) ≡ vs
map_over_times [] = refl
map_over_times (x ∷ vs) = ap₂ (λ (y : Entry) (l : List Entry). y ∷ l) (over_times x) (map_over_times vs)
