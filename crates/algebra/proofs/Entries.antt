-- The entries are a commutative ring, and the paper's rules for w8 and √2 are its products with them.
-- Assumes nothing.
use mathlib.Core.Path.{◌≡◌, refl, sym, ◌∙◌, ap, ap₂, fun_ext, subst, ◌≡⟨◌⟩◌, ◌∎}
use mathlib.Core.Bool.{Bool, true, false, cond, ◌&&◌}
use Prim.Native.Nat.{ℕ, zero, suc, ◌+◌}
use native.Mathlib.Nat.{zero-add as nat-zero-add, suc-add}
use native.Mathlib.Omega.{arith}
use lib.IntN.{ℤ, pos, negsuc, neg_ℤ-neg_ℤ}
use Rattle.algebra.specs.declared.Entry.{Entry}
use Rattle.algebra.specs.Entry.{entry, 𝟘, 𝟙, ◌⊕◌, neg, ◌⊖◌, ◌⊗◌, times_w8, times_w8⁻¹, times_√2, turned, w8^, √2^}
use Rattle.algebra.proofs.Rings.{CommutativeRing, add_lcomm, zero_add, one_mul, mul_zero, zero_mul}
use Rattle.algebra.proofs.Rings.{neg_mul, mul_neg, neg_neg, neg_sum, neg_zero, equal_of_difference}
use Rattle.algebra.proofs.Extensions.{Extension, extended, extended_mul}
use Rattle.algebra.proofs.Integers.{integers, double_zero}

-- ---- the tower ℤ[i][w8]: an entry is (d + b·i) + (c + a·i)·w8, with i·i = −1 and w8·w8 = i

abbrev gaussian : CommutativeRing (Extension ℤ)
gaussian = extended integers (negsuc 0)

abbrev i_unit : Extension ℤ
i_unit = record { re = pos 0; im = pos 1 }

abbrev tower : CommutativeRing (Extension (Extension ℤ))
tower = extended gaussian i_unit

abbrev up : Entry → Extension (Extension ℤ)
up x = record { re = record { re = x.d; im = x.b }; im = record { re = x.c; im = x.a } }

abbrev down : Extension (Extension ℤ) → Entry
down z = entry z.im.im z.re.im z.im.re z.re.re

-- the tower's product is that of specs/Entry.antt, part by part, and so are the products with w8 and √2
module _ {R : Type 0} (𝓡 : CommutativeRing R) where
  infixl 60 ◌+◌
  infixl 70 ◌·◌
  open 𝓡 use {add as ◌+◌, mul as ◌·◌, neg as −, zero as 𝟎, one as 𝟏, add_assoc, add_comm, add_zero}

  product_parts : (a b c d a' b' c' d' : R)
      → ((d · a' + b · c') + (c · b' + a · d') ≡ a · d' + b · c' + c · b' + d · a')
      × ((d · b' + b · d') + (𝟎 · (c · a' + a · c') + 𝟏 · (c · c' + − 𝟏 · (a · a'))) ≡ b · d' + c · c' + d · b' + − (a · a'))
      × ((d · c' + − 𝟏 · (b · a')) + (c · d' + − 𝟏 · (a · b')) ≡ c · d' + d · c' + − (a · b' + b · a'))
      × ((d · d' + − 𝟏 · (b · b')) + (𝟎 · (c · c' + − 𝟏 · (a · a')) + − 𝟏 · (𝟏 · (c · a' + a · c'))) ≡ d · d' + − (a · c' + b · b' + c · a'))
  product_parts a b c d a' b' c' d' = (
    simp (add_assoc, add_comm, add_lcomm 𝓡),
    simp (neg_mul 𝓡, one_mul 𝓡, zero_mul 𝓡, zero_add 𝓡, add_assoc, add_comm, add_lcomm 𝓡),
    simp (neg_mul 𝓡, one_mul 𝓡, neg_sum 𝓡, add_assoc, add_comm, add_lcomm 𝓡),
    simp (neg_mul 𝓡, one_mul 𝓡, zero_mul 𝓡, zero_add 𝓡, neg_sum 𝓡, add_assoc, add_comm, add_lcomm 𝓡),
  )

  w8_parts : (a b c d : R)
      → (𝟎 · d + 𝟎 · c + 𝟏 · b + 𝟎 · a ≡ b)
      × (𝟎 · d + 𝟏 · c + 𝟎 · b + − (𝟎 · a) ≡ c)
      × (𝟏 · d + 𝟎 · c + − (𝟎 · b + 𝟎 · a) ≡ d)
      × (𝟎 · d + − (𝟎 · c + 𝟎 · b + 𝟏 · a) ≡ − a)
  w8_parts a b c d = (
    simp (zero_mul 𝓡, one_mul 𝓡, zero_add 𝓡, add_zero),
    simp (zero_mul 𝓡, one_mul 𝓡, zero_add 𝓡, add_zero, neg_zero 𝓡),
    simp (zero_mul 𝓡, one_mul 𝓡, add_zero, neg_zero 𝓡),
    simp (zero_mul 𝓡, one_mul 𝓡, zero_add 𝓡),
  )

  √2_parts : (a b c d : R)
      → (− 𝟏 · d + 𝟎 · c + 𝟏 · b + 𝟎 · a ≡ b + − d)
      × (𝟎 · d + 𝟏 · c + 𝟎 · b + − (− 𝟏 · a) ≡ a + c)
      × (𝟏 · d + 𝟎 · c + − (− 𝟏 · b + 𝟎 · a) ≡ b + d)
      × (𝟎 · d + − (− 𝟏 · c + 𝟎 · b + 𝟏 · a) ≡ c + − a)
  √2_parts a b c d = (
    simp (zero_mul 𝓡, one_mul 𝓡, neg_mul 𝓡, add_zero, add_comm),
    simp (zero_mul 𝓡, one_mul 𝓡, neg_mul 𝓡, neg_neg 𝓡, zero_add 𝓡, add_zero, add_comm),
    simp (zero_mul 𝓡, one_mul 𝓡, neg_mul 𝓡, neg_neg 𝓡, add_zero, add_comm),
    simp (zero_mul 𝓡, one_mul 𝓡, neg_mul 𝓡, neg_neg 𝓡, neg_sum 𝓡, zero_add 𝓡, add_zero),
  )

-- ---- the entries are a commutative ring

-- four equal parts make equal entries
pub by_parts : {x y : Entry} → (x.a ≡ y.a) × (x.b ≡ y.b) × (x.c ≡ y.c) × (x.d ≡ y.d) → x ≡ y
by_parts h = λ i. entry (h.0 i) (h.1 i) (h.2 i) (h.3 i)

abbrev tower_product : Entry → Entry → Entry
tower_product x y = down (extended_mul gaussian i_unit (up x) (up y))

tower_product_is : tower_product ≡ ◌⊗◌
unfolding ◌⊗◌
tower_product_is = fun_ext (λ x. fun_ext (λ y. by_parts (product_parts integers x.a x.b x.c x.d y.a y.b y.c y.d)))

-- what holds of the tower's product holds of the entries'
by_tower : (Law : (Entry → Entry → Entry) → Type 0) → Law tower_product → Law ◌⊗◌
by_tower Law h = subst Law tower_product_is h

pub ⊗-assoc : (x y z : Entry) → x ⊗ y ⊗ z ≡ x ⊗ (y ⊗ z)
⊗-assoc = by_tower (λ ◌·◌. (x y z : Entry) → ◌·◌ (◌·◌ x y) z ≡ ◌·◌ x (◌·◌ y z)) (λ x y z. ap down (tower.mul_assoc (up x) (up y) (up z)))

pub ⊗-comm : (x y : Entry) → x ⊗ y ≡ y ⊗ x
⊗-comm = by_tower (λ ◌·◌. (x y : Entry) → ◌·◌ x y ≡ ◌·◌ y x) (λ x y. ap down (tower.mul_comm (up x) (up y)))

pub ⊗-one : (x : Entry) → x ⊗ 𝟙 ≡ x
unfolding 𝟙
⊗-one = by_tower (λ ◌·◌. (x : Entry) → ◌·◌ x 𝟙 ≡ x) (λ x. ap down (tower.mul_one (up x)))

pub ⊗-⊕ : (x y z : Entry) → x ⊗ (y ⊕ z) ≡ x ⊗ y ⊕ x ⊗ z
unfolding ◌⊕◌
⊗-⊕ = by_tower (λ ◌·◌. (x y z : Entry) → ◌·◌ x (y ⊕ z) ≡ ◌·◌ x y ⊕ ◌·◌ x z) (λ x y z. ap down (tower.mul_add (up x) (up y) (up z)))

pub ⊕-assoc : (x y z : Entry) → x ⊕ y ⊕ z ≡ x ⊕ (y ⊕ z)
unfolding ◌⊕◌
⊕-assoc x y z = ap down (tower.add_assoc (up x) (up y) (up z))

pub ⊕-comm : (x y : Entry) → x ⊕ y ≡ y ⊕ x
unfolding ◌⊕◌
⊕-comm x y = ap down (tower.add_comm (up x) (up y))

pub ⊕-zero : (x : Entry) → x ⊕ 𝟘 ≡ x
unfolding ◌⊕◌ 𝟘
⊕-zero x = ap down (tower.add_zero (up x))

pub ⊕-neg : (x : Entry) → x ⊕ neg x ≡ 𝟘
unfolding ◌⊕◌ neg 𝟘
⊕-neg x = ap down (tower.add_neg (up x))

abbrev pub entries : CommutativeRing Entry
entries = record {
  add = ◌⊕◌;
  mul = ◌⊗◌;
  neg = neg;
  zero = 𝟘;
  one = 𝟙;
  add_assoc = ⊕-assoc;
  add_comm = ⊕-comm;
  add_zero = ⊕-zero;
  add_neg = ⊕-neg;
  mul_assoc = ⊗-assoc;
  mul_comm = ⊗-comm;
  mul_one = ⊗-one;
  mul_add = ⊗-⊕;
}

pub ⊖-is : (x y : Entry) → x ⊖ y ≡ x ⊕ neg y
unfolding ◌⊖◌ ◌⊕◌ neg
⊖-is x y = refl

pub one_not_zero : 𝟙 ≡ 𝟘 → ⊥
unfolding 𝟘 𝟙
one_not_zero e = let same_numbers : pos 1 ≡ pos 0 = ap (λ x. x.d) e in let impossible : ◌≡◌ {A = ℕ} 0 1 = cc in omega arith

-- ---- an entry under a condition, and zero where it fails

pub cond-⊗ : (b : Bool) (x y : Entry) → cond b x 𝟘 ⊗ y ≡ cond b (x ⊗ y) 𝟘
cond-⊗ true x y = refl
cond-⊗ false x y = zero_mul entries y

pub cond_one : (b : Bool) (x : Entry) → cond b x 𝟘 ≡ x ⊗ cond b 𝟙 𝟘
cond_one true x = sym (⊗-one x)
cond_one false x = sym (mul_zero entries x)

pub cond_cond : (a b : Bool) (x : Entry) → cond a (cond b x 𝟘) 𝟘 ≡ cond (a && b) x 𝟘
cond_cond true b x = refl
cond_cond false b x = refl

-- ---- w8

pub times_w8_is : (x : Entry) → times_w8 x ≡ w8^ 1 ⊗ x
unfolding times_w8 turned 𝟙 ◌⊗◌
times_w8_is x = sym (by_parts (w8_parts integers x.a x.b x.c x.d))

pub times_w8⁻¹_times_w8 : (x : Entry) → times_w8⁻¹ (times_w8 x) ≡ x
unfolding times_w8 times_w8⁻¹
times_w8⁻¹_times_w8 x = λ i. entry (neg_ℤ-neg_ℤ x.a i) x.b x.c x.d

pub times_w8_times_w8⁻¹ : (x : Entry) → times_w8 (times_w8⁻¹ x) ≡ x
unfolding times_w8 times_w8⁻¹
times_w8_times_w8⁻¹ x = λ i. entry x.a x.b x.c (neg_ℤ-neg_ℤ x.d i)

pub turned_is : (j : ℕ) (x : Entry) → turned j x ≡ w8^ j ⊗ x
unfolding turned
turned_is zero x = sym (one_mul entries x)
turned_is (suc j) x =
    times_w8 (turned j x) ≡⟨ times_w8_is (turned j x) ⟩
    w8^ 1 ⊗ turned j x ≡⟨ ap (◌⊗◌ (w8^ 1)) (turned_is j x) ⟩
    w8^ 1 ⊗ (w8^ j ⊗ x) ≡⟨ sym (⊗-assoc (w8^ 1) (w8^ j) x) ⟩
    w8^ 1 ⊗ w8^ j ⊗ x ≡⟨ ap (λ y. y ⊗ x) (sym (times_w8_is (w8^ j))) ⟩
    times_w8 (w8^ j) ⊗ x ∎

pub turned_four : (x : Entry) → turned 4 x ≡ neg x
unfolding turned times_w8 neg
turned_four x = refl

pub turned_eight : (x : Entry) → turned 8 x ≡ x
unfolding turned times_w8 neg
turned_eight x = neg_neg entries x

-- ---- √2

pub times_√2_is : (x : Entry) → times_√2 x ≡ √2^ 1 ⊗ x
unfolding times_√2 √2^ 𝟙 ◌⊗◌
times_√2_is x = sym (by_parts (√2_parts integers x.a x.b x.c x.d))

√2_squared : √2^ 1 ⊗ √2^ 1 ≡ 𝟙 ⊕ 𝟙
unfolding √2^ times_√2 𝟙 ◌⊗◌ ◌⊕◌
√2_squared = refl

pub times_√2_twice : (x : Entry) → times_√2 (times_√2 x) ≡ x ⊕ x
times_√2_twice x =
    times_√2 (times_√2 x) ≡⟨ times_√2_is (times_√2 x) ∙ ap (◌⊗◌ (√2^ 1)) (times_√2_is x) ⟩
    √2^ 1 ⊗ (√2^ 1 ⊗ x) ≡⟨ sym (⊗-assoc (√2^ 1) (√2^ 1) x) ∙ ap (λ y. y ⊗ x) √2_squared ⟩
    (𝟙 ⊕ 𝟙) ⊗ x ≡⟨ ⊗-comm (𝟙 ⊕ 𝟙) x ∙ ⊗-⊕ x 𝟙 𝟙 ⟩
    x ⊗ 𝟙 ⊕ x ⊗ 𝟙 ≡⟨ ap₂ ◌⊕◌ (⊗-one x) (⊗-one x) ⟩
    x ⊕ x ∎

pub times_√2_zero : (x : Entry) → times_√2 x ≡ 𝟘 → x ≡ 𝟘
unfolding times_√2 ◌⊕◌ 𝟘
times_√2_zero x e =
    let twice : x ⊕ x ≡ 𝟘 = sym (times_√2_twice x) ∙ ap times_√2 e in
    by_parts (
      double_zero x.a (ap (λ z. z.a) twice),
      double_zero x.b (ap (λ z. z.b) twice),
      double_zero x.c (ap (λ z. z.c) twice),
      double_zero x.d (ap (λ z. z.d) twice),
    )

-- one factor √2 more
pub √2^_suc : (k : ℕ) (x : Entry) → √2^ (suc k) ⊗ x ≡ times_√2 (√2^ k ⊗ x)
unfolding √2^
√2^_suc k x =
    times_√2 (√2^ k) ⊗ x ≡⟨ ap (λ y. y ⊗ x) (times_√2_is (√2^ k)) ∙ ⊗-assoc (√2^ 1) (√2^ k) x ⟩
    √2^ 1 ⊗ (√2^ k ⊗ x) ≡⟨ sym (times_√2_is (√2^ k ⊗ x)) ⟩
    times_√2 (√2^ k ⊗ x) ∎

pub √2^_add : (a b : ℕ) → √2^ a ⊗ √2^ b ≡ √2^ (a + b)
unfolding √2^
√2^_add zero b = one_mul entries (√2^ b) ∙ ap √2^ (sym (nat-zero-add b))
√2^_add (suc a) b = √2^_suc a (√2^ b) ∙ ap times_√2 (√2^_add a b) ∙ ap √2^ (sym (suc-add a b))

pub √2^_split : (j k : ℕ) (x : Entry) → √2^ (j + k) ⊗ x ≡ √2^ j ⊗ (√2^ k ⊗ x)
√2^_split j k x = ap (λ (z : Entry). z ⊗ x) (sym (√2^_add j k)) ∙ ⊗-assoc (√2^ j) (√2^ k) x

pub √2^_zero : (k : ℕ) (x : Entry) → √2^ k ⊗ x ≡ 𝟘 → x ≡ 𝟘
unfolding √2^
√2^_zero zero x e = sym (one_mul entries x) ∙ e
√2^_zero (suc k) x e = √2^_zero k x (times_√2_zero (√2^ k ⊗ x) (sym (√2^_suc k x) ∙ e))

pub √2^_cancel : (k : ℕ) (x y : Entry) → √2^ k ⊗ x ≡ √2^ k ⊗ y → x ≡ y
√2^_cancel k x y e = equal_of_difference entries x y (√2^_zero k (x ⊕ neg y) difference)
  where
    difference : √2^ k ⊗ (x ⊕ neg y) ≡ 𝟘
    difference =
        √2^ k ⊗ (x ⊕ neg y) ≡⟨ ⊗-⊕ (√2^ k) x (neg y) ⟩
        √2^ k ⊗ x ⊕ √2^ k ⊗ neg y ≡⟨ ap₂ ◌⊕◌ e (mul_neg entries (√2^ k) y) ⟩
        √2^ k ⊗ y ⊕ neg (√2^ k ⊗ y) ≡⟨ ⊕-neg (√2^ k ⊗ y) ⟩
        𝟘 ∎
